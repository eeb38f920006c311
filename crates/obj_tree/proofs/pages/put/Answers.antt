use Rattle.std.proofs.Common.{Some, ap, sym, ◌∙◌, arith}
use Rattle.kube_meta.specs.Rows.{key_of}
use Rattle.obj_tree.specs.Pages.{values_of}
use Rattle.obj_tree.specs.Places.{IsPlace}
use Rattle.obj_tree.proofs.PageLemmas.{sized_at}
use Rattle.obj_tree.proofs.MapEdits.{put_in_gap, put_in_gap_len, put_on_row, put_on_row_len, row_some, gap_none, sole_page, place_moved, place_ok, place_err}
use Rattle.obj_tree.proofs.pages.put.Goals as goal

pub overflow_add-row : goal.overflow_add-row
overflow_add-row c =
    let pages = values_of c.args.pages.now.items in
    let row = c.args.shown.value in
    let place = c.in-Some.place in
    let found : IsPlace pages (key_of row) place = place_moved _ pages _ (key_of row) place (ap values_of c.deref.ensures.value) (c.sought.ensures ∙ ap key_of c.deref-2.ensures) c.in-Some.ensures in
    let here = place_ok pages (key_of row) place c.in-Ok.row found c.in-Ok.is in
    let few = sized_at pages place.page c.requires.paged.sized found.page_is.inside in
    omega (arith, few.1, here.inside)

pub returns-in_ok-put_marked-in-Ok : goal.returns-in_ok-put_marked-in-Ok
returns-in_ok-put_marked-in-Ok c =
    let pages = values_of c.args.pages.now.items in
    let row = c.args.shown.value in
    let place = c.in-Some.place in
    let found : IsPlace pages (key_of row) place = place_moved _ pages _ (key_of row) place (ap values_of c.deref.ensures.value) (c.sought.ensures ∙ ap key_of c.deref-2.ensures) c.in-Some.ensures in
    let here = place_ok pages (key_of row) place c.in-Ok.row found c.in-Ok.is in
    let put = put_on_row pages row place.page c.in-Ok.row c.requires.paged found.page_is here in
    let new = c.in_ok-put_marked-in-Ok.ensures.ok in
    record {
      rows = rw new put.rows_are;
      answer = ap Some (rw c.deref-in-Ok.ensures.value at (c.in_ok-old-in-Ok.ensures row)) ∙ sym (row_some pages (key_of row) place.page found.page_is c.in-Ok.row row here);
      len = rw new (put_on_row_len pages row place.page c.in-Ok.row c.requires.paged found.page_is here);
      paged = rw new put.paged;
      marks = c.in_ok-put_marked-in-Ok.ensures.marks;
      err = tt;
    }

pub returns-in_ok-put_marked-in-Err : goal.returns-in_ok-put_marked-in-Err
returns-in_ok-put_marked-in-Err c =
    let pages = values_of c.args.pages.now.items in
    let row = c.args.shown.value in
    let place = c.in-Some.place in
    let found : IsPlace pages (key_of row) place = place_moved _ pages _ (key_of row) place (ap values_of c.deref.ensures.value) (c.sought.ensures ∙ ap key_of c.deref-2.ensures) c.in-Some.ensures in
    let here = place_err pages (key_of row) place c.in-Err.row found c.in-Err.is in
    let put = put_in_gap pages row place.page c.in-Err.row c.requires.paged found.page_is here in
    let new = c.in_ok-put_marked-in-Err.ensures.ok in
    record {
      rows = rw new put.rows_are;
      answer = sym (gap_none pages (key_of row) place.page found.page_is c.in-Err.row here);
      len = rw new (put_in_gap_len pages row place.page c.in-Err.row c.requires.paged found.page_is here);
      paged = rw new put.paged;
      marks = c.in_ok-put_marked-in-Err.ensures.marks;
      err = tt;
    }

pub returns-in_default-clause-paged : goal.returns-in_default-clause-paged
returns-in_default-clause-paged c = sole_page (values_of c.put_first.new.pages.items) c.args.shown.value c.in_ok-put_first.ensures.ok
