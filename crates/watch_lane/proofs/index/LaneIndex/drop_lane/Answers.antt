use Rattle.std.proofs.Common.{None, ap, option_copied}
use Rattle.watch_lane.proofs.IndexLemmas.{sets_from_update, stand_left}
use Rattle.watch_lane.proofs.index.LaneIndex.drop_lane.Goals as goal

pub returns-in-Some : goal.returns-in-Some
returns-in-Some c =
    sets_from_update c.args.self.now c.self.inside.field c.args.id c.self.inside.lanes c.remove.new.self None
    (ap (λ x. x.field) c.self.view_is) (ap (λ x. x.lanes) c.self.view_is) c.remove.ensures.updates.0

pub invariant_of-self : goal.invariant_of-self
invariant_of-self c = stand_left c.self.inside.field c.self.inside.lanes c.remove.new.self c.self.inside.places c.leave.new.self c.args.id c.in-Some.selection (option_copied c.place_of.result) c.in-Some.ensures.value c.remove.ensures.updates.0 c.self.invariant c.place_of.ensures c.leave.ensures
