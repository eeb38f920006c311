use Rattle.std.proofs.Common.{true, ◌∙◌}
use Rattle.up_api.specs.Sections.{log_of}
use Rattle.cache_hub.proofs.WaitingLemmas.{is_waiting}
use Rattle.cache_hub.proofs.SendLemmas.{missed_is}
use Rattle.cache_hub.proofs.open_lane.OpenLane.tell_anew.Goals as goal

pub take-requires-clause-waiting : goal.take-requires-clause-waiting
take-requires-clause-waiting g c =
    is_waiting (log_of g.N.LogFacts.base c.args.told.now) c.args.end c.args.events.now c.args.self.now c.in-Ok.lines.items c.requires.ready c.in-Ok.ensures

pub returns-in-Err-clause-sent : goal.returns-in-Err-clause-sent
returns-in-Err-clause-sent g c =
    (true, c.miss.ensures ∙ missed_is (log_of g.N.LogFacts.base c.args.told.now) c.args.end c.args.events.now c.args.self.now c.requires.ready)
