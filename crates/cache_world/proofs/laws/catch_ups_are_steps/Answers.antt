use Rattle.cache_world.proofs.TieLemmas.{catch_ups_are_steps as lemma}
use Rattle.cache_world.proofs.laws.catch_ups_are_steps.Goals as goal

pub returns : goal.returns
returns c = lemma
