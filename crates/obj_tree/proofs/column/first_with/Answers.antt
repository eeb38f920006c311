use Rattle.std.proofs.Common.{inl, inr, arith}
use Rattle.std.proofs.lemmas.Bool.{cases_lt}
use Rattle.obj_tree.proofs.column.first_with.Goals as goal

pub loop-at-preserved : goal.loop-at-preserved
loop-at-preserved c =
    let so_far = c.loop-at.invariant in
    record {
      behind = omega (arith, so_far.behind);
      inside = omega (arith, so_far.inside, c.min-step.ensures, c.loop-at-test.true);
      lack = λ k from lt. elim (cases_lt k c.loop-at.at) [
        | inl before ↦ so_far.lack k from before
        | inr past ↦ c.lacking-over.ensures.lack k past (omega (arith, lt, c.min-step.ensures)) (omega (arith, lt, c.min-step.ensures, c.loop-at-test.true))
      ];
    }

pub loop-at-smaller : goal.loop-at-smaller
loop-at-smaller c = omega (arith, c.min-step.ensures, c.if-over-eq0.false, c.loop-at-test.true)

pub returns-then-over-eq0 : goal.returns-then-over-eq0
returns-then-over-eq0 c = record {
  behind = c.loop-at.invariant.behind;
  inside = c.loop-at.invariant.inside;
  lack = c.loop-at.invariant.lack;
  has = λ lt. c.lacking-over.ensures.has c.if-over-eq0.true;
}

pub returns : goal.returns
returns c = record {
  behind = c.loop-at.invariant.behind;
  inside = c.loop-at.invariant.inside;
  lack = c.loop-at.invariant.lack;
  has = λ lt. absurd (omega (arith, lt, c.loop-at-test.false));
}
