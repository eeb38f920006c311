use Rattle.sess_reply.proofs.SendLemmas.{emits-broken}
use Rattle.sess_turns.proofs.frames.event.Goals as goal

pub returns-in_err-frame : goal.returns-in_err-frame
returns-in_err-frame g c = emits-broken c.from_residual.result _ _ c.from_residual.ensures.1 c.in_err-frame.ensures
