use Rattle.client_api.proofs.LawLemmas.{lists_do_agree}
use Rattle.client_api.proofs.laws.lists_agree.Goals as goal

pub returns : goal.returns
returns c = lists_do_agree
