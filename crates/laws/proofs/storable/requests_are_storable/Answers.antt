use Rattle.laws.proofs.RouteStorableLemmas as lemmas
use Rattle.laws.proofs.storable.requests_are_storable.Goals as goal

pub returns : goal.returns
returns c = lemmas.requests_are_storable c.values_are_orderly.ensures c.item_objects_are_plain.ensures
