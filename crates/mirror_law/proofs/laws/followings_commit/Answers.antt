use Rattle.mirror_law.proofs.FollowLemmas.{followings_commit}
use Rattle.mirror_law.proofs.laws.followings_commit.Goals as goal

pub returns : goal.returns
returns c = followings_commit
