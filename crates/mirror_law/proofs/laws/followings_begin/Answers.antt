use Rattle.mirror_law.proofs.FollowLemmas.{followings_begin}
use Rattle.mirror_law.proofs.laws.followings_begin.Goals as goal

pub returns : goal.returns
returns c = followings_begin
