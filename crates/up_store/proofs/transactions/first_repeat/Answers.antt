use Rattle.std.proofs.Common.{◌∙◌, below_more, arith}
use Rattle.up_store.proofs.Repeats.{stands_before_among, in_targets, from_targets}
use Rattle.up_store.proofs.transactions.first_repeat.Goals as goal

pub returns-then-is_among : goal.returns-then-is_among
returns-then-is_among c = record {
  in_range = in_targets c.args.items.now c.loop-index.index c.loop-index-test.true;
  repeated = stands_before_among c.args.items.now c.loop-index.index c.index-items-index.result c.loop-index-test.true c.index-items-index.is c.is_among.result c.is_among.ensures ∙ c.if-is_among.true;
  first = c.loop-index.invariant;
}

pub loop-index-preserved : goal.loop-index-preserved
loop-index-preserved c = below_more _ _ c.loop-index.invariant
    (stands_before_among c.args.items.now c.loop-index.index c.index-items-index.result c.loop-index-test.true c.index-items-index.is c.is_among.result c.is_among.ensures ∙ c.if-is_among.false)

pub returns : goal.returns
returns c = λ i below. c.loop-index.invariant i (omega (arith, from_targets c.args.items.now i below, c.loop-index-test.false))
