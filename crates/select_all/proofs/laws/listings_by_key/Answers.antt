use Rattle.select_all.proofs.ListingLaws.{listings_are_by_key}
use Rattle.select_all.proofs.laws.listings_by_key.Goals as goal

pub returns : goal.returns
returns c = listings_are_by_key
