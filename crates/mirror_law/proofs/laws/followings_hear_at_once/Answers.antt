use Rattle.mirror_law.proofs.OnceLemmas.{followings_hear_at_once}
use Rattle.mirror_law.proofs.laws.followings_hear_at_once.Goals as goal

pub returns : goal.returns
returns c = followings_hear_at_once
