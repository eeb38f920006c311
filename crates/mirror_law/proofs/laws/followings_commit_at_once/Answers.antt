use Rattle.mirror_law.proofs.OnceLemmas.{followings_commit_at_once}
use Rattle.mirror_law.proofs.laws.followings_commit_at_once.Goals as goal

pub returns : goal.returns
returns c = followings_commit_at_once
