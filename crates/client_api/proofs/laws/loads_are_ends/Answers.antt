use Rattle.client_api.proofs.LawLemmas.{loads_do_end}
use Rattle.client_api.proofs.laws.loads_are_ends.Goals as goal

pub returns : goal.returns
returns c = loads_do_end
