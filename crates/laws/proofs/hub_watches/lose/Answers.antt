use Rattle.laws.proofs.CallLemmas.{lost}
use Rattle.laws.proofs.hub_watches.lose.Goals as goal

pub returns-clause-lost : goal.returns-clause-lost
returns-clause-lost g c =
    lost c.catch_up-refused.result _ (c.catch_up-refused.ensures.lost c.requires.below) c.args.hub.now c.catch_up-refused.new.self c.close_lane.new.self c.args.id c.args.selection.now c.args.at
    c.catch_up-refused.ensures.kept c.requires.resource c.requires.below c.close_lane.ensures.same c.close_lane.ensures.closed
