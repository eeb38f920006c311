use Rattle.std.specs.Prelude.{⊤}
use Rattle.sess_reply.proofs.SendLemmas.{sends-error, sends-on}
use Rattle.sess_turns.proofs.turns.tell_events.Goals as goal

pub returns-in_err-events : goal.returns-in_err-events
returns-in_err-events g c = sends-error ⊤ c.from_residual.result c.in_err-events.field-0.0 _ _ c.from_residual.ensures.1 c.in_err-events.ensures

pub returns : goal.returns
returns g c = sends-on c.send_on.result _ _ _ _ _ _ _ _ _ _ c.in_ok-events.ensures c.send_on.ensures
