use Rattle.std.proofs.Common.{◌≡◌, ◌-◌, ◌+◌, suc, length, sym, ◌∙◌, arith}
use Rattle.std.proofs.lemmas.Bool.{eqb-true, eqb-false}
use Rattle.std.proofs.lemmas.Result.{err_from_is_err_and}
use Rattle.label_select.specs.Left.{left}
use Rattle.label_select.proofs.Loops.{requirements_fail, requirements_end, requirements_wrong, requirements_more, requirements_spent}
use Rattle.label_select.proofs.reading.requirements_of.Goals as goal

pub returns-in_err-requirement : goal.returns-in_err-requirement
returns-in_err-requirement c =
    let p = err_from_is_err_and c.from_residual.result c.from_residual.ensures.1 in
    let l = c.loop in
    let count : 64 - l.counter ≡ suc (64 - (l.counter + 1)) = omega arith in
    let so_far = rw count at l.invariant.so_far in
    rw (p.1, p.2) (requirements_fail l.tokens.end l.requirements.items (64 - (l.counter + 1)) (left l.tokens) _ so_far c.in_err-requirement.field-0.0 c.in_err-requirement.ensures.1)

pub returns-then-is_done : goal.returns-then-is_done
returns-then-is_done c =
    let l = c.loop in
    let count : 64 - l.counter ≡ suc (64 - (l.counter + 1)) = omega arith in
    let so_far = rw count at l.invariant.so_far in
    let none : length (left c.requirement_of.new.tokens) ≡ 0 = eqb-true _ _ (sym c.is_done.ensures ∙ c.if-is_done.true) in
    rw c.in_ok-push.ensures.items (requirements_end l.tokens.end l.requirements.items (64 - (l.counter + 1)) (left l.tokens) _ so_far c.in_ok-requirement.requirement (left c.requirement_of.new.tokens) c.in_ok-requirement.ensures.1 none)

pub returns-then-not-takes : goal.returns-then-not-takes
returns-then-not-takes c =
    let l = c.loop in
    let count : 64 - l.counter ≡ suc (64 - (l.counter + 1)) = omega arith in
    let so_far = rw count at l.invariant.so_far in
    let some = eqb-false (length (left c.requirement_of.new.tokens)) 0 (sym c.is_done.ensures ∙ c.if-is_done.false) in
    let same = c.takes.ensures.end ∙ c.in_ok-requirement.ensures.0 in
    rw (c.place.ensures, same) (requirements_wrong l.tokens.end l.requirements.items (64 - (l.counter + 1)) (left l.tokens) _ so_far c.in_ok-requirement.requirement (left c.requirement_of.new.tokens) (left c.takes.new.self) c.in_ok-requirement.ensures.1 some c.if-not-takes.ensures.steps)

pub loop-preserved : goal.loop-preserved
loop-preserved c =
    let l = c.loop in
    let count : 64 - l.counter ≡ suc (64 - (l.counter + 1)) = omega arith in
    let so_far = rw count at l.invariant.so_far in
    let same = c.takes.ensures.end ∙ c.in_ok-requirement.ensures.0 in
    record {
      same_end = same ∙ l.invariant.same_end;
      so_far = rw (c.in_ok-push.ensures.items, same) (requirements_more l.tokens.end l.requirements.items (64 - (l.counter + 1)) (left l.tokens) _ so_far c.in_ok-requirement.requirement (left c.requirement_of.new.tokens) (left c.takes.new.self) c.in_ok-requirement.ensures.1 c.if-not-takes.ensures.steps);
    }

pub returns : goal.returns
returns c =
    let l = c.loop in
    let count : 64 - l.counter ≡ 0 = omega arith in
    let so_far = rw count at l.invariant.so_far in
    requirements_spent l.tokens.end l.requirements.items (left l.tokens) _ so_far
