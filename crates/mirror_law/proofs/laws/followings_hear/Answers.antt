use Rattle.mirror_law.proofs.FollowLemmas.{followings_hear}
use Rattle.mirror_law.proofs.laws.followings_hear.Goals as goal

pub returns : goal.returns
returns c = followings_hear
