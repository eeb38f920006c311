use Rattle.std.specs.Prelude.{⊤}
use Rattle.sess_reply.proofs.SendLemmas.{sends-error}
use Rattle.sess_turns.proofs.turns.close.Goals as goal

pub returns-in_err-end-clause-sends : goal.returns-in_err-end-clause-sends
returns-in_err-end-clause-sends g c = sends-error ⊤ c.from_residual.result c.in_err-end.field-0.0 _ _ c.from_residual.ensures.1 c.in_err-end.ensures.0
