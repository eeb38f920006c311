use Rattle.select_all.proofs.ListingLaws.{listings_are_one}
use Rattle.select_all.proofs.laws.listings_are_unique.Goals as goal

pub returns : goal.returns
returns c = listings_are_one
