use Rattle.cache_world.proofs.LawLemmas.{every_world}
use Rattle.cache_world.proofs.laws.every_world_is_lawful.Goals as goal

pub returns : goal.returns
returns c = every_world
