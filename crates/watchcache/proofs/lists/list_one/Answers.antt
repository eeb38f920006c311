use Rattle.std.proofs.Common.{refl}
use Rattle.watchcache.proofs.ClusterLemmas.{other_lacks}
use Rattle.watchcache.proofs.lists.list_one.Goals as goal

pub returns-in-Err-clause-listed : goal.returns-in-Err-clause-listed
returns-in-Err-clause-listed g c =
    other_lacks c.args.setup.options c.args.resource (g.N.Net.faults c.args.net.now.net) (g.N.Net.faults c.list_another.new.net.net) c.in-Err.no (c.if-not-is_behind.ensures refl) c.in-Err.ensures.listed
