use Rattle.mirror_law.proofs.FollowLemmas.{followings_mark}
use Rattle.mirror_law.proofs.laws.followings_mark.Goals as goal

pub returns : goal.returns
returns c = followings_mark
