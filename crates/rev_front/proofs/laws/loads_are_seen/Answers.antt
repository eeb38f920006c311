use Rattle.rev_front.proofs.Passing.{loads_hold}
use Rattle.rev_front.proofs.laws.loads_are_seen.Goals as goal

pub returns : goal.returns
returns g c = loads_hold g.E.Entry.fits
