use Rattle.std.proofs.Common.{sym, subst}
use Rattle.serde_json.specs.View.{view}
use Rattle.std.proofs.Common.{map}
use Rattle.route_req.specs.Texts.{RefusesItems}
use Rattle.route_req.proofs.Items.{AskAll-next, RefusesItems-placed}
use Rattle.route_req.proofs.transactions.writes.Goals as goal

pub returns-in-Err-clause-refused : goal.returns-in-Err-clause-refused
returns-in-Err-clause-refused c =
    subst (RefusesItems (map view c.args.values.now)) (sym c.placed.ensures)
    (RefusesItems-placed c.args.values.now c.loop-index.index c.index-values-index.result c.loop-index.asks.items
    c.loop-index-test.true c.index-values-index.is c.loop-index.invariant c.in-Err.no c.in-Err.ensures.bad c.in-Err.ensures.refused)

pub loop-index-preserved : goal.loop-index-preserved
loop-index-preserved c =
    AskAll-next c.args.values.now c.loop-index.index c.index-values-index.result c.loop-index.asks.items c.push.new.self.items c.in-Ok.ask
    c.loop-index-test.true c.index-values-index.is c.loop-index.invariant c.in-Ok.ensures.ok c.in-Ok-push.ensures.items
