use Rattle.std.proofs.Common.{◌≡◌, List, sym, ◌∙◌, arith, subst}
use Rattle.std.proofs.lemmas.List.{length-map}
use Rattle.kube_meta.specs.Rows.{RowData, AreRising}
use Rattle.obj_tree.specs.Pages.{values_of, page_at}
use Rattle.obj_tree.proofs.PageLemmas.{indexed, rising_at, parts_of_pages}
use Rattle.obj_tree.proofs.search.find.Goals as goal

pub place_in-row-requires : goal.place_in-row-requires
place_in-row-requires c =
    let pages = values_of c.args.pages.now in
    let inside = c.in_ok-page.ensures.inside in
    let read = indexed (λ p. p.value) c.args.pages.now c.in_ok-page.page c.index-pages-page.result (omega (arith, inside, length-map c.args.pages.now (λ p. p.value))) c.index-pages-page.is in
    let same : page_at pages c.in_ok-page.page ≡ values_of c.rows.result.now = read ∙ sym c.deref.ensures ∙ sym c.rows.ensures in
    subst (λ (rows : List RowData). AreRising rows) same (rising_at pages c.in_ok-page.page c.requires.rising inside)

pub part_for-requires : goal.part_for-requires
part_for-requires c = parts_of_pages (values_of c.args.pages.now) c.requires
