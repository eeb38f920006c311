-- The floor's rows make one more revision, until they are at the floor.
use Rattle.std.proofs.Common.{◌≡◌, ◌-◌, ◌+◌, ◌≤◌, ℕ, refl, sym, ◌∙◌, subst, arith}
use Rattle.rev_log.specs.Logs.{end_of}
use Rattle.up_store.specs.Kept.{IsPlace}
use Rattle.up_store.proofs.KeptLemmas.{settled}
use Rattle.up_store.proofs.kept.Kept.settle.Goals as goal

pub loop-init : goal.loop-init
loop-init c = record {
  whole = c.in_ok-catch_up.ensures.done;
  some = omega (arith, c.place_of-count.ensures.within);
  keeps = λ log keeps.
      let after = c.catch_up.ensures.keeps log c.args.floor keeps in (
        after,
        subst (λ n. IsPlace log c.catch_up.new.self c.args.floor n) {x = c.place_of-count.result} {y = c.place_of-count.result - 0} (omega arith)
            (c.place_of-count.ensures.place log c.args.floor after after.within after.reached),
      );
}

pub returns-in_err-drop_first-clause-keeps : goal.returns-in_err-drop_first-clause-keeps
returns-in_err-drop_first-clause-keeps c = λ log keeps.
    let so_far = c.loop.invariant.keeps log keeps in
    c.drop_first.ensures.keeps log c.args.floor (c.place_of-count.result - c.loop.counter) (c.loop.invariant.whole ∙ so_far.0.end_is) (omega (arith, c.loop-test.true)) so_far.1 so_far.0

pub loop-preserved : goal.loop-preserved
loop-preserved c = record {
  whole = c.drop_first.ensures.last ∙ c.loop.invariant.whole ∙ sym c.drop_first.ensures.end;
  some = omega (arith, c.loop.invariant.some, c.in_ok-drop_first.ensures.shorter);
  keeps = λ log keeps.
      let so_far = c.loop.invariant.keeps log keeps in
      let left : ℕ = c.place_of-count.result - c.loop.counter in
      let last : c.loop.self.last_at ≡ end_of log = c.loop.invariant.whole ∙ so_far.0.end_is in
      let some : 1 ≤ left = omega (arith, c.loop-test.true) in (
        c.drop_first.ensures.keeps log c.args.floor left last some so_far.1 so_far.0,
        subst (λ n. IsPlace log c.drop_first.new.self c.args.floor n) {x = left - 1} {y = c.place_of-count.result - (c.loop.counter + 1)} (omega arith)
            (c.in_ok-drop_first.ensures.place log c.args.floor left last some so_far.1 so_far.0),
      );
}

pub returns-clause-keeps : goal.returns-clause-keeps
returns-clause-keeps c = λ log keeps.
    let so_far = c.loop.invariant.keeps log keeps in
    settled log c.args.floor c.loop.self _ c.loop.invariant.whole
    (subst (λ n. IsPlace log c.loop.self c.args.floor n) {x = c.place_of-count.result - c.loop.counter} {y = 0} (omega (arith, c.loop-test.false)) so_far.1) refl so_far.0
