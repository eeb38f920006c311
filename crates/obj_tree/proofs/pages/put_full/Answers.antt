use Rattle.std.proofs.Common.{◌≡◌, List, take, drop, ap, sym, ◌∙◌}
use Rattle.kube_meta.specs.Rows.{RowData}
use Rattle.obj_tree.specs.Pages.{values_of, page_at, row_put}
use Rattle.obj_tree.proofs.PageLemmas.{set_both, read_before, set_back}
use Rattle.obj_tree.proofs.pages.put_full.Goals as goal

pub returns-in-Ok-clause-ok : goal.returns-in-Ok-clause-ok
returns-in-Ok-clause-ok c =
    let items = c.args.pages.now.items in
    let page = page_at (values_of items) c.args.at in
    let row = c.args.shown.value in
    let place = c.args.place in
    let read : page ≡ c.index_mut.result.now.value = read_before (λ p. p.value) items c.args.at c.in_ok-next.next c.index_mut.result.now c.requires.inside (rw c.in_ok-insert.ensures.items at c.index_mut.ensures.value) in
    let first : c.divide_in.new.page.value ≡ take 32 (row_put page place place row) = c.in-Ok.ensures.ok ∙ ap (λ (p : List RowData). take 32 (row_put p place place row)) (sym read) in
    let second : c.in-Ok.back.value ≡ drop 32 (row_put page place place row) = c.in-Ok.ensures.back ∙ ap (λ (p : List RowData). drop 32 (row_put p place place row)) (sym read) in
    rw c.in_ok-insert.ensures.items (set_both (λ p. p.value) items c.args.at c.in_ok-next.next c.divide_in.new.page c.in-Ok.back _ _ c.requires.inside first second)

pub returns-in-Err-clause-err : goal.returns-in-Err-clause-err
returns-in-Err-clause-err c =
    let items = c.args.pages.now.items in
    rw (c.remove.ensures.items, c.in_ok-insert.ensures.items) (set_back (λ p. p.value) items c.args.at c.in_ok-next.next c.divide_in.new.page c.index_mut.result.now c.requires.inside (rw c.in_ok-insert.ensures.items at c.index_mut.ensures.value) c.in-Err.ensures.err)
