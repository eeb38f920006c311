use Rattle.sess_reply.proofs.SendLemmas.{flushed, flush-broken}
use Rattle.sess_reply.proofs.body.send_on.Goals as goal

pub returns-in-Ok : goal.returns-in-Ok
returns-in-Ok g c = (flushed _ _ _ _ c.in-Ok.ensures.kept c.in-Ok.ensures.quiet, c.in-Ok.ensures.settled)

pub returns-in-Err : goal.returns-in-Err
returns-in-Err g c = (flush-broken _ _ _ _ c.in-Err.ensures.kept c.in-Err.ensures.counted, tt)
