use Rattle.line_stream.proofs.BodyAgreeLemmas.{bodies-are-determined}
use Rattle.line_stream.proofs.laws.bodies_are_read_in_one_way.Goals as goal

pub returns : goal.returns
returns c = bodies-are-determined
