use Rattle.std.proofs.Common.{◌≡◌, ◌∷◌, ◌+◌, ◌++◌, List, length, drop, ap, sym, ◌∙◌, arith, length-append, length-drop}
use Rattle.kube_meta.specs.Rows.{RowData}
use Rattle.obj_tree.specs.Pages.{values_of, joined}
use Rattle.obj_tree.proofs.MapEdits.{row_read, first_taken, within_first}
use Rattle.obj_tree.proofs.SpanLemmas.{take_one}
use Rattle.obj_tree.proofs.rows.taken.Goals as goal

pub lent-requires-clause-place : goal.lent-requires-clause-place
lent-requires-clause-place c =
    let pages = values_of c.args.pages.now in
    let first = c.in_ok-page.page.now.value in
    let rest = values_of c.in_ok-page.field-0-1.now in
    let same : pages ≡ first ∷ rest = ap values_of c.in_ok-page.ensures.cases.0 in
    let inside = within_first pages (values_of c.args.nodes.now) first rest c.args.place same c.requires.place in
    omega (arith, inside, ap (λ (p : List (List RowData)). length (joined p)) same, length-append first (joined rest))

pub lent-requires-clause-left : goal.lent-requires-clause-left
lent-requires-clause-left c =
    let all = joined (values_of c.args.pages.now ++ values_of c.args.nodes.now) in
    omega (arith, c.requires.left, c.in_ok-left.ensures, length-drop c.args.place all, length-drop (c.args.place + 1) all)

pub returns : goal.returns
returns c =
    let pages = values_of c.args.pages.now in
    let nodes = values_of c.args.nodes.now in
    let cut = c.in_ok-page.ensures.cases in
    let first = c.in_ok-page.page.now.value in
    let rest = values_of c.in_ok-page.field-0-1.now in
    let same : pages ≡ first ∷ rest = ap values_of cut.0 in
    let inside = within_first pages nodes first rest c.args.place same c.requires.place in
    let row = c.index-rows-place.result.value in
    let read = row_read (λ p. p.value) c.rows.result.now first c.args.place c.index-rows-place.result row inside (c.rows.ensures ∙ c.deref.ensures) c.index-rows-place.is in
    let all = first_taken (pages ++ nodes) first (rest ++ nodes) c.args.place row (ap (λ (p : List (List RowData)). p ++ nodes) same) inside ∙ ap (λ (r : RowData). r ∷ drop (c.args.place + 1) (joined (pages ++ nodes))) (sym read) in
    take_one c.in_ok-left.left c.args.left row (drop (c.args.place + 1) (joined (pages ++ nodes))) (drop c.args.place (joined (pages ++ nodes))) (omega (arith, c.in_ok-left.ensures)) all
    ∙ ap (λ (r : List RowData). row ∷ r) (sym c.lent.ensures)
