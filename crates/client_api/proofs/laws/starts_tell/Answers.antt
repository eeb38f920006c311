use Rattle.client_api.proofs.LawLemmas.{starts_do_tell}
use Rattle.client_api.proofs.laws.starts_tell.Goals as goal

pub returns : goal.returns
returns c = starts_do_tell
