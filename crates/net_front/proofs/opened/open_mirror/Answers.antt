use Rattle.net_front.proofs.StartLemmas.{start_of}
use Rattle.net_front.proofs.opened.open_mirror.Goals as goal

pub returns-in-Err : goal.returns-in-Err
returns-in-Err g c = start_of c.args.list.now c.in-Err.why c.in-Err.ensures
