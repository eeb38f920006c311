use Rattle.std.proofs.Common.{refl, subst}
use Rattle.std.proofs.lemmas.List.{drop_all}
use Rattle.up_api.specs.Sections.{log_of}
use Rattle.cache_hub.proofs.TellLemmas.{AreTelling, telling_begins, telling_ends}
use Rattle.cache_hub.proofs.telling.tell_each.Goals as goal

pub loop-id-init : goal.loop-id-init
loop-id-init g c = (refl, telling_begins (log_of g.N.LogFacts.base c.args.told.now) c.args.end c.args.lanes.now.entries c.args.events.now c.args.ids.now c.requires.rising c.requires.others c.requires.ready, tt)

pub returns-clause-lanes : goal.returns-clause-lanes
returns-clause-lanes g c = telling_ends (log_of g.N.LogFacts.base c.args.told.now) c.args.end c.args.lanes.now.entries c.loop-id.lanes.entries
    (subst (AreTelling (log_of g.N.LogFacts.base c.args.told.now) c.args.end c.args.lanes.now.entries c.loop-id.lanes.entries) (drop_all c.loop-id.id-index c.args.ids.now c.loop-id-test.false) c.loop-id.invariant.1)
