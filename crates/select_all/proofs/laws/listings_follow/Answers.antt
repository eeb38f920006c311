use Rattle.select_all.proofs.FollowLaws.{listings_are_followed}
use Rattle.select_all.proofs.laws.listings_follow.Goals as goal

pub returns : goal.returns
returns c = listings_are_followed
