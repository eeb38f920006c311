use Rattle.mirror_law.proofs.FollowLemmas.{followings_resume}
use Rattle.mirror_law.proofs.laws.followings_resume.Goals as goal

pub returns : goal.returns
returns c = followings_resume
