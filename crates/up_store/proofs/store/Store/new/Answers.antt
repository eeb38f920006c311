-- The base of a new log has no rows.
use Rattle.std.proofs.Common.{[], subst, sym}
use Rattle.kube_meta.specs.Rows.{AreRising}
use Rattle.obj_tree.proofs.MapLemmas.{are_rising}
use Rattle.up_store.proofs.store.Store.new.Goals as goal

pub open-requires-clause-rising : goal.open-requires-clause-rising
open-requires-clause-rising g c = subst AreRising (sym c.new.ensures.items) (are_rising [] tt)
