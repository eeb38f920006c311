use Rattle.std.proofs.Common.{refl, subst, rules}
use Rattle.up_api.specs.Sections.{log_of}
use Rattle.cache_hub.proofs.SendLemmas.{AreSending, sending_begins, sending_ends, apart_from_sorted, nothing_left, none_is_some}
use Rattle.cache_hub.proofs.placed.send_all.Goals as goal

pub loop-id-init : goal.loop-id-init
loop-id-init g c = (refl, sending_begins (log_of g.N.LogFacts.base c.args.told.now) c.args.end c.args.lanes.now.entries c.args.waiting.entries (apart_from_sorted c.args.waiting.entries (search rules)) c.requires.waiting)

pub returns-clause-lanes : goal.returns-clause-lanes
returns-clause-lanes g c = sending_ends (log_of g.N.LogFacts.base c.args.told.now) c.args.end c.args.lanes.now.entries c.loop-id.lanes.entries
    (subst (AreSending (log_of g.N.LogFacts.base c.args.told.now) c.args.end c.args.lanes.now.entries c.loop-id.lanes.entries) (nothing_left c.loop-id.waiting.entries (λ some. none_is_some (c.in_default.ensures.variant.1 some))) c.loop-id.invariant.1)
