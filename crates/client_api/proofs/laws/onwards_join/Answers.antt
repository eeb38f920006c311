use Rattle.client_api.proofs.LawLemmas.{onwards_do_join}
use Rattle.client_api.proofs.laws.onwards_join.Goals as goal

pub returns : goal.returns
returns c = onwards_do_join
