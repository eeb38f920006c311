use Rattle.std.proofs.Common.{◌∙◌}
use Rattle.std.proofs.lemmas.Result.{err_from_is_err_and}
use Rattle.label_select.specs.Left.{left}
use Rattle.label_select.proofs.Loops.{requirement_at_key, requirement_no_key}
use Rattle.label_select.proofs.reading.requirement_of.Goals as goal

pub returns-in_err-key-2 : goal.returns-in_err-key-2
returns-in_err-key-2 c =
    let p = err_from_is_err_and c.from_residual-in_err-key-2.result c.from_residual-in_err-key-2.ensures.1 in
    let same = c.takes.ensures.end in
    let fails = rw same at c.in_err-key-2.ensures.1 in
    rw (p.1, p.2) (c.in_err-key-2.ensures.0 ∙ same, requirement_no_key c.args.tokens.now.end (left c.args.tokens.now) (left c.takes.new.self) c.if-takes.ensures.steps c.in_err-key-2.field-0.0 fails)

pub returns : goal.returns
returns c =
    let same = c.takes.ensures.end in
    let read = rw same at c.in_ok-key-2.ensures.1 in
    let same_key = c.in_ok-key-2.ensures.0 ∙ same in
    let e = requirement_at_key c.args.tokens.now.end (left c.args.tokens.now) (left c.takes.new.self) c.if-takes.ensures.steps c.in_ok-key-2.key (left c.key_of-2.new.tokens) read in
    (c.requirement_on.ensures.0 ∙ same_key, rw (e, ← same_key) c.requirement_on.ensures.1)
