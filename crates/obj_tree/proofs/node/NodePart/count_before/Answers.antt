use Rattle.std.proofs.Common.{List, sym, subst}
use Rattle.obj_tree.specs.Pages.{values_of, AreParts}
use Rattle.obj_tree.proofs.PageLemmas.{parts_of_pages}
use Rattle.obj_tree.proofs.node.NodePart.count_before.Goals as goal

pub spot_of-spot-requires : goal.spot_of-spot-requires
spot_of-spot-requires c = subst (λ (xs : List _). AreParts (values_of xs)) (sym c.deref.ensures.value) (parts_of_pages (values_of c.self.inside.pages.items) c.self.invariant.0)
