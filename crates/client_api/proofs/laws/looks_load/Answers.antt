use Rattle.client_api.proofs.LawLemmas.{looks_do_load}
use Rattle.client_api.proofs.laws.looks_load.Goals as goal

pub returns : goal.returns
returns c = looks_do_load
