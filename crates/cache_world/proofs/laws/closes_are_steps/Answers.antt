use Rattle.cache_world.proofs.TieLemmas.{closes_are_steps as lemma}
use Rattle.cache_world.proofs.laws.closes_are_steps.Goals as goal

pub returns : goal.returns
returns c = lemma
