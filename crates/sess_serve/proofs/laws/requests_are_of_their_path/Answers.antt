use Rattle.sess_serve.proofs.EachPaths.{of-path}
use Rattle.sess_serve.proofs.laws.requests_are_of_their_path.Goals as goal

pub returns : goal.returns
returns c = of-path
