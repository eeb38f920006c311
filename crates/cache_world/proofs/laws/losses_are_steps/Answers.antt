use Rattle.cache_world.proofs.TieLemmas.{losses_are_steps as lemma}
use Rattle.cache_world.proofs.laws.losses_are_steps.Goals as goal

pub returns : goal.returns
returns c = lemma
