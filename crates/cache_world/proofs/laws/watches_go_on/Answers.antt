use Rattle.cache_world.proofs.ServeLemmas.{watches_go_on as lemma}
use Rattle.cache_world.proofs.laws.watches_go_on.Goals as goal

pub returns : goal.returns
returns c = lemma
