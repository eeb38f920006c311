use Rattle.laws.proofs.StoredRunLemmas as lemmas
use Rattle.laws.proofs.storable.logs_stay_stored.Goals as goal

pub returns : goal.returns
returns c = lemmas.logs_stay_stored c.requests_are_storable.ensures
