use Rattle.line_stream.proofs.AgreeLemmas.{readings-agree}
use Rattle.line_stream.proofs.laws.readings_agree.Goals as goal

pub returns : goal.returns
returns c = readings-agree
