use Rattle.std.proofs.Common.{List, ap, sym, ◌∙◌, subst}
use Rattle.obj_tree.specs.Pages.{values_of, joined, HoldEach}
use Rattle.obj_tree.specs.Marks.{AreMarks}
use Rattle.obj_tree.proofs.PageLemmas.{some_of}
use Rattle.obj_tree.proofs.node.Node.parts.Goals as goal

pub returns : goal.returns
returns c = record {
  rows = ap (λ (xs : List _). joined (values_of xs)) c.deref.ensures.value ∙ c.self.view_is;
  marks = subst (λ (xs : List _). AreMarks c.deref-2.result.now (values_of xs)) (sym c.deref.ensures.value) (rw c.deref-2.ensures.value c.self.invariant.4);
  some = subst (λ (xs : List _). HoldEach 1 (values_of xs)) (sym c.deref.ensures.value) (some_of (values_of c.self.inside.pages.items) c.self.invariant.0.sized);
}
