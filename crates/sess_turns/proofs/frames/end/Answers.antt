use Rattle.sess_reply.proofs.SendLemmas.{sends-broken, sends-on}
use Rattle.sess_turns.proofs.frames.end.Goals as goal

pub returns-in_err-write_end : goal.returns-in_err-write_end
returns-in_err-write_end g c = sends-broken c.from_residual.result _ _ c.from_residual.ensures.1 c.in_err-write_end.ensures

pub returns : goal.returns
returns g c = sends-on c.send_on.result _ _ _ _ _ _ _ _ _ _ c.in_ok-write_end.ensures c.send_on.ensures
