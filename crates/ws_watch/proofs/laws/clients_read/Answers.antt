use Rattle.ws_watch.proofs.ClientLemmas.{clients_read}
use Rattle.ws_watch.proofs.laws.clients_read.Goals as goal

pub returns : goal.returns
returns c = clients_read
