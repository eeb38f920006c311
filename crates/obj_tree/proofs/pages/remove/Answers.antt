use Rattle.std.proofs.Common.{Some, refl, ap, sym, ◌∙◌}
use Rattle.obj_tree.specs.Pages.{values_of}
use Rattle.obj_tree.specs.Places.{IsPlace}
use Rattle.obj_tree.proofs.MapEdits.{gone_rows, gone_paged, gone_len, nothing_gone, row_some, gap_none, place_moved, place_ok, place_err}
use Rattle.obj_tree.proofs.pages.remove.Goals as goal

pub returns-in_default-row : goal.returns-in_default-row
returns-in_default-row c =
    let pages = values_of c.args.pages.now.items in
    let key = c.args.key.now in
    let place = c.in-Some.place in
    let found : IsPlace pages key place = place_moved _ pages _ key place (ap values_of c.deref.ensures.value) c.new.ensures c.in-Some.ensures in
    let here = place_err pages key place c.in_default-row.field-0 found c.in_default-row.is in
    record {
      rows = nothing_gone pages key place.page c.in_default-row.field-0 found.page_is here;
      answer = sym (gap_none pages key place.page found.page_is c.in_default-row.field-0 here);
      len = refl;
      paged = c.requires.paged;
      marks = c.requires.marks;
      err = tt;
    }

pub returns : goal.returns
returns c =
    let pages = values_of c.args.pages.now.items in
    let key = c.args.key.now in
    let place = c.in-Some.place in
    let found : IsPlace pages key place = place_moved _ pages _ key place (ap values_of c.deref.ensures.value) c.new.ensures c.in-Some.ensures in
    let here = place_ok pages key place c.in-Ok.row found c.in-Ok.is in
    let row = c.in_ok-old.old.value in
    let old = rw c.deref-2.ensures.value at (c.in_ok-old.ensures row) in
    let now = c.in_ok-remove_marked.ensures.ok in
    record {
      rows = gone_rows pages _ key place.page c.in-Ok.row row c.requires.paged found.page_is here now;
      answer = ap Some old ∙ sym (row_some pages key place.page found.page_is c.in-Ok.row row here);
      len = gone_len pages _ key place.page c.in-Ok.row row c.requires.paged found.page_is here now;
      paged = gone_paged pages _ key place.page c.in-Ok.row row c.requires.paged found.page_is here now;
      marks = c.in_ok-remove_marked.ensures.marks;
      err = tt;
    }
