use Rattle.std.proofs.Common.{ap, ◌∙◌}
use Rattle.api_errors.specs.declared.reasons.Reason.TheVariants.{Timeout}
use Rattle.api_errors.proofs.failures.too_large.Goals as goal

pub returns : goal.returns
returns c = ap (λ message. record { reason = Timeout; message = message }) (c.from_string.ensures ∙ c.in_ok-message.ensures.ok)
