use Rattle.std.proofs.Common.{length, ap, ◌∙◌, arith}
use Rattle.std.proofs.lemmas.Result.{err_from_is_err_and}
use Rattle.label_select.specs.Left.{left}
use Rattle.label_select.proofs.Loops.{values_fail, values_end, values_more, values_wrong, value_shorter, stepped, stayed}
use Rattle.label_select.proofs.reading.values_of.Goals as goal

pub returns-in_err-value_of : goal.returns-in_err-value_of
returns-in_err-value_of c =
    let p = err_from_is_err_and c.from_residual.result c.from_residual.ensures.1 in
    let l = c.loop-values in
    rw (p.1, p.2) (c.in_err-value_of.ensures.0 ∙ l.invariant.same_end, values_fail l.tokens.end l.values (left l.tokens) _ l.invariant.so_far c.in_err-value_of.field-0.0 c.in_err-value_of.ensures.1)

pub returns-then-takes : goal.returns-then-takes
returns-then-takes c =
    let l = c.loop-values in
    let steps = c.if-takes.ensures.steps in
    let done = values_end l.tokens.end l.values (left l.tokens) _ l.invariant.so_far c.in_ok-value_of.field-0 (left c.value_of.new.tokens) (left c.takes.new.self) c.in_ok-value_of.ensures.1 steps in
    (c.takes.ensures.end ∙ c.in_ok-value_of.ensures.0 ∙ l.invariant.same_end, rw c.in_ok-push.ensures.ok done)

pub returns-then-not-takes : goal.returns-then-not-takes
returns-then-not-takes c =
    let l = c.loop-values in
    let wrong = values_wrong l.tokens.end l.values (left l.tokens) _ l.invariant.so_far c.in_ok-value_of.field-0 (left c.value_of.new.tokens) (left c.takes.new.self) (left c.takes-in-loop-values.new.self) c.in_ok-value_of.ensures.1 c.if-takes.ensures.steps c.if-not-takes.ensures.steps in
    let same = c.takes-in-loop-values.ensures.end ∙ c.takes.ensures.end ∙ c.in_ok-value_of.ensures.0 in
    (same ∙ l.invariant.same_end, rw (c.place.ensures, same) wrong)

pub loop-values-smaller : goal.loop-values-smaller
loop-values-smaller c =
    let l = c.loop-values in
    let shorter = value_shorter l.tokens.end (left l.tokens) c.in_ok-value_of.field-0 (left c.value_of.new.tokens) c.in_ok-value_of.ensures.1 in
    let here = stayed (left c.value_of.new.tokens) _ (left c.takes.new.self) c.if-takes.ensures.steps in
    let comma = stepped (left c.takes.new.self) _ (left c.takes-in-loop-values.new.self) c.if-not-takes.ensures.steps in
    omega (arith, shorter, comma.2, ap length here.1)

pub loop-values-preserved : goal.loop-values-preserved
loop-values-preserved c =
    let l = c.loop-values in
    let more = values_more l.tokens.end l.values (left l.tokens) _ l.invariant.so_far c.in_ok-value_of.field-0 (left c.value_of.new.tokens) (left c.takes.new.self) (left c.takes-in-loop-values.new.self) c.in_ok-value_of.ensures.1 c.if-takes.ensures.steps c.if-not-takes.ensures.steps in
    let same = c.takes-in-loop-values.ensures.end ∙ c.takes.ensures.end ∙ c.in_ok-value_of.ensures.0 in
    record { same_end = same ∙ l.invariant.same_end; so_far = rw (c.in_ok-push.ensures.ok, same) more }
