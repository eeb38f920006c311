use Rattle.client_api.proofs.LawLemmas.{turns_do_tell}
use Rattle.client_api.proofs.laws.turns_tell.Goals as goal

pub returns : goal.returns
returns c = turns_do_tell
