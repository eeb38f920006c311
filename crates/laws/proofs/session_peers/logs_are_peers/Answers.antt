use Rattle.laws.proofs.PeerLemmas.{logs_are_peers, told_objects_are_stored}
use Rattle.laws.proofs.session_peers.logs_are_peers.Goals as goal

pub returns : goal.returns
returns c = record { peers = logs_are_peers c.fitting_logs_are_logs.ensures; told = told_objects_are_stored }
