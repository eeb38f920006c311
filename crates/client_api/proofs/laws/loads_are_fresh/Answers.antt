use Rattle.client_api.proofs.LawLemmas.{loads_are_fresh_for}
use Rattle.client_api.proofs.laws.loads_are_fresh.Goals as goal

pub returns : goal.returns
returns c = loads_are_fresh_for
