use Rattle.mirror_law.proofs.FollowLemmas.{followings_begin_anew}
use Rattle.mirror_law.proofs.laws.followings_begin_anew.Goals as goal

pub returns : goal.returns
returns c = followings_begin_anew
