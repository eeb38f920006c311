use Rattle.laws.proofs.HubLemmas.{lanes_close}
use Rattle.laws.proofs.hub_watches.close.Goals as goal

pub returns : goal.returns
returns g c = lanes_close c.args.hub.now c.close_lane.new.self c.args.id c.close_lane.ensures.same c.close_lane.ensures.closed
