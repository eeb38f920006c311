use Rattle.std.proofs.Common.{map, take}
use Rattle.serde_json.specs.View.{view}
use Rattle.route_req.specs.Texts.{AskAll}
use Rattle.route_req.proofs.transactions.writes.Given as goal

-- the writes so far are those of the items so far
abbrev pub invariant-loop-index : goal.invariant-loop-index
invariant-loop-index l = AskAll (map view (take l.index l.values)) l.asks.items
