use Rattle.rev_front.proofs.Passing.{looks_hold}
use Rattle.rev_front.proofs.laws.looks_stand.Goals as goal

pub returns : goal.returns
returns g c = looks_hold
