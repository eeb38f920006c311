use Rattle.line_stream.proofs.OutcomeLemmas.{outcomes-agree}
use Rattle.line_stream.proofs.laws.outcomes_agree.Goals as goal

pub returns : goal.returns
returns c = outcomes-agree
