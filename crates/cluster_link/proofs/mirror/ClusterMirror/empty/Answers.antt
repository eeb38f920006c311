use Rattle.std.proofs.Common.{List, sym, subst}
use Rattle.std.specs.List.Sorted.{IsStrictlySortedBy}
use Rattle.kube_meta.specs.Rows.{AreRising}
use Rattle.cluster_link.proofs.mirror.ClusterMirror.empty.Goals as goal

pub new-requires-clause-rising : goal.new-requires-clause-rising
unfolding IsStrictlySortedBy
new-requires-clause-rising g c = subst AreRising (sym c.new-rows.ensures.items) tt
