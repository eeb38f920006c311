use Rattle.sess_reply.proofs.SendLemmas.{sends-nothing}
use Rattle.sess_reply.proofs.lists.send_list.Goals as goal

pub returns-in_err-token-in-Some : goal.returns-in_err-token-in-Some
returns-in_err-token-in-Some g c = sends-nothing c.from_residual.result _ _ _ _ c.from_residual.ensures.1
