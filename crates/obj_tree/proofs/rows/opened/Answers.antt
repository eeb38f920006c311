use Rattle.std.proofs.Common.{◌≡◌, ◌∷◌, ◌++◌, List, length, take, ap, sym, ◌∙◌, subst, arith}
use Rattle.kube_meta.specs.Rows.{RowData}
use Rattle.obj_tree.specs.Pages.{values_of, joined, HoldEach}
use Rattle.obj_tree.proofs.PageLemmas.{joined-append}
use Rattle.obj_tree.proofs.SpanLemmas.{within_start}
use Rattle.obj_tree.proofs.rows.opened.Goals as goal

pub invariant_of-t-9 : goal.invariant_of-t-9
invariant_of-t-9 c =
    let nodes = values_of c.args.nodes.now in
    let node = c.in-Some.node.now.value in
    let rest = values_of c.in-Some.rest.now in
    let pages = values_of c.parts.result.0.now in
    let same : nodes ≡ node ∷ rest = ap values_of c.in-Some.ensures.cases.0 in
    let first : joined pages ≡ node = c.parts.ensures.rows ∙ c.deref.ensures in
    let all : joined (pages ++ rest) ≡ joined nodes = joined-append pages rest ∙ ap (λ (r : List RowData). r ++ joined rest) first ∙ sym (ap joined same) in
    let held : HoldEach 1 (node ∷ rest) = subst (λ (p : List (List RowData)). HoldEach 1 p) same c.requires.some in
    (c.parts.ensures.some, held.1, within_start pages rest c.parts.ensures.some (omega (arith, ap length first, held.0)), omega (arith, ap length all, c.requires.left), c.parts.ensures.marks)

pub returns-in-Some : goal.returns-in-Some
returns-in-Some c =
    let nodes = values_of c.args.nodes.now in
    let node = c.in-Some.node.now.value in
    let rest = values_of c.in-Some.rest.now in
    let pages = values_of c.parts.result.0.now in
    let same : nodes ≡ node ∷ rest = ap values_of c.in-Some.ensures.cases.0 in
    let first : joined pages ≡ node = c.parts.ensures.rows ∙ c.deref.ensures in
    let all : joined (pages ++ rest) ≡ joined nodes = joined-append pages rest ∙ ap (λ (r : List RowData). r ++ joined rest) first ∙ sym (ap joined same) in
    ap (take c.args.left) all
