use Rattle.laws.proofs.CallLemmas.{rebuilt}
use Rattle.laws.proofs.hub_feeds.rebuild.Goals as goal

pub returns : goal.returns
returns g c =
    let call = c.build_anew.ensures in
    rebuilt g.N.LogFacts.base c.args.told.now c.build_anew.new.told call.told c.args.hub.now c.build_anew.new.self c.build_anew.result c.args.history call.stands call.rebuilt call.lanes
