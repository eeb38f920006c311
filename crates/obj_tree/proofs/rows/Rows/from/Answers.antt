use Rattle.std.proofs.Common.{◌≡◌, ◌∷◌, ◌++◌, List, length, take, drop, ap, sym, ◌∙◌, arith}
use Rattle.kube_meta.specs.Rows.{RowData}
use Rattle.obj_tree.specs.Pages.{values_of, joined}
use Rattle.obj_tree.proofs.PageLemmas.{joined-append}
use Rattle.obj_tree.proofs.rows.Rows.from.Goals as goal

pub lent-requires-clause-left : goal.lent-requires-clause-left
lent-requires-clause-left c =
    let nodes = values_of c.args.nodes.now in
    let node = c.in-Some.node.now.value in
    let rest = values_of c.in-Some.rest.now in
    let pages = values_of c.parts.result.0.now in
    let same : nodes ≡ node ∷ rest = ap values_of c.in-Some.ensures.cases.0 in
    let first : joined pages ≡ node = c.parts.ensures.rows ∙ c.deref.ensures in
    let all : joined (pages ++ rest) ≡ joined nodes = joined-append pages rest ∙ ap (λ (r : List RowData). r ++ joined rest) first ∙ sym (ap joined same) in
    omega (arith, c.requires.left, ap (λ (r : List RowData). length (drop c.args.place r)) all)

pub returns-in-Some : goal.returns-in-Some
returns-in-Some c =
    let nodes = values_of c.args.nodes.now in
    let node = c.in-Some.node.now.value in
    let rest = values_of c.in-Some.rest.now in
    let pages = values_of c.parts.result.0.now in
    let same : nodes ≡ node ∷ rest = ap values_of c.in-Some.ensures.cases.0 in
    let first : joined pages ≡ node = c.parts.ensures.rows ∙ c.deref.ensures in
    let all : joined (pages ++ rest) ≡ joined nodes = joined-append pages rest ∙ ap (λ (r : List RowData). r ++ joined rest) first ∙ sym (ap joined same) in
    c.lent.ensures ∙ ap (λ (r : List RowData). take c.args.left (drop c.args.place r)) all
