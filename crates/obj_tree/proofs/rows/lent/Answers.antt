use Rattle.std.proofs.Common.{◌≡◌, ◌∷◌, ◌++◌, ◌-◌, ◌≤◌, List, length, drop, ap, ◌∙◌, sym, subst, arith, length-append}
use Rattle.kube_meta.specs.Rows.{RowData}
use Rattle.obj_tree.specs.Pages.{values_of, joined, HoldEach}
use Rattle.obj_tree.specs.declared.mark.Mark.{Mark}
use Rattle.obj_tree.specs.Marks.{AreMarks, IsFirstMark}
use Rattle.obj_tree.proofs.MarkLemmas.{mark_first, marks_behind}
use Rattle.obj_tree.proofs.SpanLemmas.{drop_first}
use Rattle.obj_tree.proofs.rows.lent.Goals as goal

pub len_of-len-requires : goal.len_of-len-requires
len_of-len-requires c =
    subst (λ (p : List RowData). IsFirstMark c.loop-page.marks.now p) (sym c.deref.ensures)
    (mark_first c.loop-page.marks.now (values_of c.loop-page.pages.now) (values_of c.in-Some.rest.now) c.in-Some.page.now.value (ap values_of c.in-Some.ensures.cases.0) c.loop-page.invariant.marks)

pub loop-page-preserved : goal.loop-page-preserved
loop-page-preserved c =
    let pages = values_of c.loop-page.pages.now in
    let nodes = values_of c.args.nodes.now in
    let first = c.in-Some.page.now.value in
    let rest = values_of c.in-Some.rest.now in
    let same : pages ≡ first ∷ rest = ap values_of c.in-Some.ensures.cases.0 in
    let long : c.len_of-len.result ≡ length first = c.len_of-len.ensures ∙ ap length c.deref.ensures in
    let past : length first ≤ c.loop-page.place = omega (arith, long) in
    record {
      some = (subst (λ (p : List (List RowData)). HoldEach 1 p) same c.loop-page.invariant.some).1;
      place = omega (arith, past, long, c.loop-page.invariant.place, ap (λ (p : List (List RowData)). length (joined p)) same, length-append first (joined rest));
      marks = subst (λ (m : List Mark). AreMarks m rest) (sym c.behind-marks.ensures) (marks_behind c.loop-page.marks.now pages rest first same c.loop-page.invariant.marks);
      rows = ap (λ (n : _). drop (c.loop-page.place - n) (joined (rest ++ nodes))) long ∙ drop_first c.loop-page.place pages first rest nodes same past ∙ c.loop-page.invariant.rows;
    }
