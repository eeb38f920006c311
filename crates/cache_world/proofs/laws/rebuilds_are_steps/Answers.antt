use Rattle.cache_world.proofs.TieLemmas.{rebuilds_are_steps as lemma}
use Rattle.cache_world.proofs.laws.rebuilds_are_steps.Goals as goal

pub returns : goal.returns
returns c = lemma
