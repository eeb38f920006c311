use Rattle.up_api.specs.Sections.{log_of}
use Rattle.cache_hub.proofs.SendLemmas.{missed_are_told}
use Rattle.cache_hub.proofs.WaitingLemmas.{are_waiting}
use Rattle.cache_hub.proofs.placed.tell_placed.Goals as goal

pub send_all-requires-clause-waiting : goal.send_all-requires-clause-waiting
send_all-requires-clause-waiting g c =
    are_waiting (log_of g.N.LogFacts.base c.args.told.now) c.args.end c.args.events.now c.args.lanes.now.entries c.in-Ok.waiting.entries c.requires.ready c.in-Ok.ensures

pub returns-in-Err-clause-lanes : goal.returns-in-Err-clause-lanes
returns-in-Err-clause-lanes g c =
    missed_are_told (log_of g.N.LogFacts.base c.args.told.now) c.args.end c.args.events.now c.args.lanes.now.entries c.miss_all.new.lanes.entries c.requires.ready c.miss_all.ensures
