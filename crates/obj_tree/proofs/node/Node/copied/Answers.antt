use Rattle.std.proofs.Common.{◌≡◌, List, ap, sym, ◌∙◌, subst}
use Rattle.obj_tree.specs.declared.mark.Mark.{Mark}
use Rattle.obj_tree.specs.Marks.{AreMarks}
use Rattle.obj_tree.specs.Pages.{values_of}
use Rattle.obj_tree.proofs.node.Node.copied.Goals as goal

pub invariant_of-result : goal.invariant_of-result
invariant_of-result c =
    let pages = values_of c.self.inside.pages.items in
    let same : values_of c.in_ok-pages.pages.items ≡ pages = c.in_ok-pages.ensures ∙ ap values_of c.deref.ensures.value in
    let marks = c.copied_marks-marks.ensures pages (subst (λ (m : List Mark). AreMarks m pages) (sym c.deref-2.ensures.value) c.self.invariant.4) in
    rw same (c.self.invariant.0, c.self.invariant.1, c.self.invariant.2, c.self.invariant.3, marks)
