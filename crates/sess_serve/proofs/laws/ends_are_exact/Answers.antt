use Rattle.sess_serve.proofs.Exact.{ends-exact}
use Rattle.sess_serve.proofs.laws.ends_are_exact.Goals as goal

pub returns : goal.returns
returns c = ends-exact
