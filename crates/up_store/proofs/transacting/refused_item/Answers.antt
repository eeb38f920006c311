-- The next write is refused, or the rest decides.
use Rattle.std.proofs.Common.{◌∙◌, sym, option_copied, arith}
use Rattle.up_store.proofs.TransactLemmas.{fault-found, fault-none, fault-nowhere}
use Rattle.up_store.proofs.transacting.refused_item.Goals as goal

pub returns-in-Some : goal.returns-in-Some
returns-in-Some c = λ log floor keeps end.
    fault-found log c.args.asks.now c.loop-index.index c.args.at c.index-asks-index.result (option_copied c.row_before.result) c.in-Some.no (omega arith)
    c.index-asks-index.is
    (c.row_before.ensures log floor keeps) end (sym c.fault.ensures ∙ c.in-Some.is) (c.loop-index.invariant log floor keeps end)

pub loop-index-preserved : goal.loop-index-preserved
loop-index-preserved c = λ log floor keeps end.
    fault-none log c.args.asks.now c.loop-index.index c.args.at c.index-asks-index.result (option_copied c.row_before.result) (omega arith)
    c.index-asks-index.is
    (c.row_before.ensures log floor keeps) end (sym c.fault.ensures ∙ c.in_default.is) (c.loop-index.invariant log floor keeps end)

pub returns : goal.returns
returns c = λ log floor keeps end. fault-nowhere log c.args.asks.now c.loop-index.index (omega arith) (c.loop-index.invariant log floor keeps end)
