use Rattle.sess_serve.proofs.Exact.{settle}
use Rattle.sess_serve.proofs.laws.sessions_settle.Goals as goal

pub returns : goal.returns
returns c = settle
