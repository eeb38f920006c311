use Rattle.body_check.proofs.JudgeLemmas.{judged_once}
use Rattle.body_check.proofs.judging.judgements_are_one.Goals as goal

pub returns : goal.returns
returns c = judged_once
