use Rattle.std.proofs.Common.{◌≡◌, arith}
use Rattle.watchcache.proofs.ClusterLemmas.{one_since}
use Rattle.watchcache.proofs.lists.list_another.Goals as goal

pub returns-in-Err-clause-listed : goal.returns-in-Err-clause-listed
returns-in-Err-clause-listed g c =
    let quiet : g.N.Net.faults c.dial.new.self.net ≡ g.N.Net.faults c.args.net.now.net = omega (arith, c.in-Ok.ensures.faults) in
    one_since c.args.resource c.in-Err.why (g.N.Net.faults c.args.net.now.net) (g.N.Net.faults c.dial.new.self.net) (g.N.Net.faults c.lack.new.net.net) c.lack.result quiet c.lack.ensures.lacks
