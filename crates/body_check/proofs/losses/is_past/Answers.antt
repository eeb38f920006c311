use Rattle.std.proofs.Common.{◌-◌, ◌+◌, length, ◌∙◌, ap}
use Rattle.std.specs.Prelude.{sum_by}
use Rattle.select_all.specs.Floors.{changes_in, changes_between}
use Rattle.body_check.specs.Losses.{log_from}
use Rattle.body_check.proofs.LossLemmas.{passed_by, passed_not, one_is, rest_is}
use Rattle.body_check.proofs.losses.is_past.Goals as goal

pub returns-then-lacking-eq0 : goal.returns-then-lacking-eq0
returns-then-lacking-eq0 c =
    let first = c.args.first in
    let log = c.args.log.now in
    let v = c.args.rev in
    let counted = sum_by (changes_in c.args.resource) in
    passed_by c.lacking.result c.lacking-then-lacking-eq0.result (changes_between (log_from first log) c.args.resource (v - 1) v) (changes_between (log_from first log) c.args.resource v (first + length log)) c.args.window
    (c.lacking.ensures ∙ ap (λ xs. 1 - counted xs) (one_is first log v c.if-rev-first.false c.if-rev-first-2.false))
    (c.lacking-then-lacking-eq0.ensures ∙ ap (λ xs. c.args.window - counted xs) (rest_is first log v c.if-rev-first.false c.if-rev-first-2.false))
    c.if-lacking-eq0.true

pub returns-else-lacking-eq0 : goal.returns-else-lacking-eq0
returns-else-lacking-eq0 c =
    let first = c.args.first in
    let log = c.args.log.now in
    let v = c.args.rev in
    let counted = sum_by (changes_in c.args.resource) in
    passed_not c.lacking.result (changes_between (log_from first log) c.args.resource (v - 1) v) (changes_between (log_from first log) c.args.resource v (first + length log)) c.args.window
    (c.lacking.ensures ∙ ap (λ xs. 1 - counted xs) (one_is first log v c.if-rev-first.false c.if-rev-first-2.false))
    c.if-lacking-eq0.false
