use Rattle.std.proofs.Common.{List, [], ◌∷◌, arith, sym, ◌∙◌, subst}
use Rattle.std.proofs.lemmas.List.{length-append}
use Rattle.kube_meta.specs.Rows.{RowData}
use Rattle.obj_tree.specs.Marks.{IsMark}
use Rattle.obj_tree.specs.Pages.{values_of, page_at}
use Rattle.obj_tree.proofs.PageLemmas.{indexed}
use Rattle.obj_tree.proofs.MarkLemmas.{marks_more}
use Rattle.obj_tree.proofs.mark.all_marks.Goals as goal

pub loop-page-preserved : goal.loop-page-preserved
loop-page-preserved c =
    let pages = c.args.pages.now in
    let read = indexed (λ p. p.value) pages c.loop-page.page-index c.page-item.result c.loop-page-test.true c.page-item.is in
    let is = subst (λ (p : List RowData). IsMark c.mark.result p) (c.deref.ensures ∙ sym read) c.mark.ensures in
    let here = subst (λ n. IsMark c.mark.result (page_at (values_of pages) n)) (sym c.loop-page.invariant.many) is in
    rw c.in_ok-push.ensures.items (record {
      are = marks_more c.loop-page.marks.items (values_of pages) c.mark.result c.loop-page.invariant.are here;
      many = omega (arith, c.loop-page.invariant.many, length-append c.loop-page.marks.items (c.mark.result ∷ []));
    })
