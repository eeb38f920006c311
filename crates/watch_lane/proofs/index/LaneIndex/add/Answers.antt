use Rattle.std.proofs.Common.{Some, None, ap, option_copied}
use Rattle.watch_lane.proofs.IndexLemmas.{is_gone, sets_from_update, sets_again, sets_copy, stand_back}
use Rattle.watch_lane.proofs.index.LaneIndex.add.Goals as goal

pub returns-in-Ok-clause-ok : goal.returns-in-Ok-clause-ok
returns-in-Ok-clause-ok c =
    let put = sets_from_update c.drop_lane.new.self c.self.inside.field c.args.id c.self.inside.lanes c.insert.new.self (Some c.in_ok-copy.copy)
    (ap (λ x. x.field) c.self.view_is) (ap (λ x. x.lanes) c.self.view_is) c.in-Ok.ensures.updates.0 in
    sets_copy _ _ c.args.id _ _ c.in_ok-copy.ensures (sets_again c.args.self.now c.drop_lane.new.self _ c.args.id None (Some c.in_ok-copy.copy) c.drop_lane.ensures put)

pub invariant_of-self-in-Err : goal.invariant_of-self-in-Err
invariant_of-self-in-Err c =
    stand_back c.self.inside.field c.self.inside.lanes c.insert.new.self c.self.inside.places c.put.new.self c.leave.new.self c.args.id (option_copied c.place_of-place.result)
    (is_gone c.args.self.now c.drop_lane.new.self c.args.id c.self.inside.lanes.entries c.drop_lane.ensures (ap (λ x. x.lanes) c.self.view_is))
    c.in-Err.ensures.err c.self.invariant c.in_ok-put.ensures.ok c.leave.ensures
