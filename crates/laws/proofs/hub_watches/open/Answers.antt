use Rattle.laws.proofs.CallLemmas.{opened}
use Rattle.laws.proofs.hub_watches.open.Goals as goal

pub returns : goal.returns
returns g c =
    let call = c.open_lane.ensures in
    opened c.open_lane.result (λ r. r.0) c.args.hub.now c.open_lane.new.self c.args.selection.now c.args.at c.requires call.number call.same call.opened
