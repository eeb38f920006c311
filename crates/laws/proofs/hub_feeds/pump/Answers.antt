use Rattle.std.proofs.Common.{◌≤◌, subst}
use Rattle.laws.proofs.CallLemmas.{pumped}
use Rattle.laws.proofs.hub_feeds.pump.Goals as goal

pub returns : goal.returns
returns g c =
    let call = c.take_in.ensures in
    pumped g.N.LogFacts.base c.args.told.now c.take_in.new.told call.told c.args.hub.now c.take_in.new.self call.stands call.cache.0 call.cache.1 (subst (λ n. n ≤ c.take_in.new.self.cache.end) c.requires.from call.partly.0) call.floor call.lanes
