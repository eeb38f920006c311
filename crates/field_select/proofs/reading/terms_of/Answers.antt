use Rattle.std.proofs.Common.{◌≡◌, ◌-◌, ◌+◌, suc, length, sym, ap, ◌∙◌, arith}
use Rattle.std.proofs.lemmas.Bool.{eqb-true, eqb-false}
use Rattle.std.proofs.lemmas.Result.{err_from_is_err_and}
use Rattle.field_select.proofs.Loops.{after_these, terms_none, terms_many, terms_end, terms_fail, terms_more}
use Rattle.field_select.proofs.reading.terms_of.Goals as goal

pub returns-then-is_done : goal.returns-then-is_done
returns-then-is_done c =
    let l = c.loop in
    let none : length l.reader.rest.now ≡ 0 = eqb-true _ _ (sym c.is_done.ensures ∙ c.if-is_done.true) in
    terms_end l.terms.items _ _ (terms_none c.args.resource (64 - l.counter) l.reader.end l.reader.rest.now none) l.invariant.so_far

pub returns-in_err-term : goal.returns-in_err-term
returns-in_err-term c =
    let p = err_from_is_err_and c.from_residual.result c.from_residual.ensures.1 in
    let l = c.loop in
    let count : 64 - l.counter ≡ suc (64 - (l.counter + 1)) = omega arith in
    let so_far = rw count at l.invariant.so_far in
    let some = eqb-false (length l.reader.rest.now) 0 (sym c.is_done.ensures ∙ c.if-is_done.false) in
    rw (p.1, p.2) (terms_fail c.args.resource l.reader.end l.terms.items (64 - (l.counter + 1)) l.reader.rest.now _ some so_far c.in_err-term.field-0.0 c.in_err-term.ensures.1)

pub loop-preserved : goal.loop-preserved
loop-preserved c =
    let l = c.loop in
    let count : 64 - l.counter ≡ suc (64 - (l.counter + 1)) = omega arith in
    let so_far = rw count at l.invariant.so_far in
    let some = eqb-false (length l.reader.rest.now) 0 (sym c.is_done.ensures ∙ c.if-is_done.false) in
    let same = c.take_run-in-loop.ensures.end ∙ c.in_ok-term.ensures.0 in
    record {
      same_end = same ∙ l.invariant.same_end;
      so_far = rw (c.in_ok-push.ensures.items, same) (terms_more c.args.resource l.reader.end l.terms.items (64 - (l.counter + 1)) l.reader.rest.now _ some so_far c.in_ok-term.term c.term_of.new.reader.rest.now c.take_run-in-loop.new.self.rest.now c.in_ok-term.ensures.1 c.take_run-in-loop.ensures.left);
    }

pub returns-then-is_done-2 : goal.returns-then-is_done-2
returns-then-is_done-2 c =
    let l = c.loop in
    let none : length l.reader.rest.now ≡ 0 = eqb-true _ _ (sym c.is_done-2.ensures ∙ c.if-is_done-2.true) in
    terms_end l.terms.items _ _ (terms_none c.args.resource (64 - l.counter) l.reader.end l.reader.rest.now none) l.invariant.so_far

pub returns : goal.returns
returns c =
    let l = c.loop in
    let count : 64 - l.counter ≡ 0 = omega arith in
    let so_far = rw count at l.invariant.so_far in
    let some = eqb-false (length l.reader.rest.now) 0 (sym c.is_done-2.ensures ∙ c.if-is_done-2.false) in
    sym so_far ∙ ap (after_these l.terms.items) (terms_many c.args.resource l.reader.end l.reader.rest.now some)
