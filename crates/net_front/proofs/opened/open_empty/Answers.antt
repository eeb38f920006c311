-- The empty log has no rows.
use Rattle.std.proofs.Common.{[], subst, sym}
use Rattle.kube_meta.specs.Rows.{AreRising}
use Rattle.kube_meta.proofs.RowLemmas.{are_rising}
use Rattle.net_front.proofs.opened.open_empty.Goals as goal

pub from_base-requires-clause-rising : goal.from_base-requires-clause-rising
from_base-requires-clause-rising g c = subst AreRising (sym c.new-rows.ensures.items) (are_rising [] tt)
