use Rattle.cache_world.proofs.TieLemmas.{pumps_are_steps as lemma}
use Rattle.cache_world.proofs.laws.pumps_are_steps.Goals as goal

pub returns : goal.returns
returns c = lemma
