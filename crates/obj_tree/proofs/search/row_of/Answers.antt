use Rattle.std.proofs.Common.{Some, refl, ap, sym, ◌∙◌, arith}
use Rattle.std.proofs.lemmas.List.{length-map}
use Rattle.obj_tree.specs.Pages.{values_of, page_at}
use Rattle.obj_tree.specs.Places.{IsPlace}
use Rattle.obj_tree.proofs.PageLemmas.{indexed}
use Rattle.obj_tree.proofs.MapEdits.{row_some, gap_none, place_moved, place_ok, place_err, row_read}
use Rattle.obj_tree.proofs.search.row_of.Goals as goal

pub returns-in-Ok : goal.returns-in-Ok
returns-in-Ok c =
    let items = c.args.pages.now in
    let pages = values_of items in
    let key = c.args.sought.now in
    let place = c.in_ok-place.place in
    let found : IsPlace pages key place = place_moved _ pages _ key place refl refl c.in_ok-place.ensures in
    let here = place_ok pages key place c.in-Ok.row found c.in-Ok.is in
    let read = indexed (λ p. p.value) items place.page c.index-pages-place.result (omega (arith, found.page_is.inside, length-map items (λ p. p.value))) c.index-pages-place.is in
    let rows = c.rows.ensures ∙ c.deref.ensures ∙ sym read in
    let row = c.index-rows-row.result.value in
    let old = row_read (λ p. p.value) c.rows.result.now (page_at pages place.page) c.in-Ok.row c.index-rows-row.result row here.inside rows c.index-rows-row.is in
    (ap Some old ∙ sym (row_some pages key place.page found.page_is c.in-Ok.row row here))

pub returns-in-Err : goal.returns-in-Err
returns-in-Err c =
    let pages = values_of c.args.pages.now in
    let key = c.args.sought.now in
    let place = c.in_ok-place.place in
    let found : IsPlace pages key place = place_moved _ pages _ key place refl refl c.in_ok-place.ensures in
    let here = place_err pages key place c.in-Err.field-0 found c.in-Err.is in
    (sym (gap_none pages key place.page found.page_is c.in-Err.field-0 here))
