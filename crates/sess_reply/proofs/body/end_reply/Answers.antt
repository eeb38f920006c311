use Rattle.std.proofs.Common.{[], ◌∷◌}
use Rattle.sess_reply.proofs.SendLemmas.{sends-broken, sends-behind}
use Rattle.sess_reply.proofs.body.end_reply.Goals as goal

pub returns-in_err-part : goal.returns-in_err-part
returns-in_err-part g c = sends-broken c.from_residual.result _ _ c.from_residual.ensures.1 c.in_err-part.ensures

pub returns : goal.returns
returns g c = sends-behind c.send_on.result _ _ _ _ _ _ _ _ _ (10 ∷ []) [] c.in_ok-part.ensures c.send_on.ensures
