use Rattle.laws.proofs.LoadLemmas.{figures_are_determined}
use Rattle.laws.proofs.answered.figures_are_determined.Goals as goal

pub returns : goal.returns
returns c = figures_are_determined c.replies_are_determined.ensures c.sessions_settle.ensures c.ends_are_exact.ensures
