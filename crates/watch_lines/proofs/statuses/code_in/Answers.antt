use Rattle.std.proofs.Common.{◌∙◌}
use Rattle.serde_json.specs.View.{view}
use Rattle.watch_lines.proofs.StatusLemmas.{no-status-valued, no-status-refused, no-status-text}
use Rattle.watch_lines.proofs.statuses.code_in.Goals as goal

pub returns-in_default : goal.returns-in_default
returns-in_default c = no-status-valued c.args.text.now (rw c.in_default.is at c.in_ok-value.ensures)

pub returns-in_default-2 : goal.returns-in_default-2
returns-in_default-2 c = no-status-refused c.args.text.now (view c.in-Some.value) (rw c.in-Some.is at c.in_ok-value.ensures) (rw c.in_default-2.is at c.in_ok-refusal.ensures)

pub returns : goal.returns
returns c =
    no-status-text c.args.text.now c.as_slice.result.now (view c.in-Some.value) c.in-Some-2.refusal c.eq.result (rw c.in-Some.is at c.in_ok-value.ensures) (rw c.in-Some-2.is at c.in_ok-refusal.ensures)
    (c.as_slice.ensures.value ∙ c.in_ok-told.ensures) c.eq.ensures c.if-eq.false
