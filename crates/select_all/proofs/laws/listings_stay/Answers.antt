use Rattle.select_all.proofs.ListingLaws.{listings_are_kept}
use Rattle.select_all.proofs.laws.listings_stay.Goals as goal

pub returns : goal.returns
returns c = listings_are_kept
