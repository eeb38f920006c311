use Rattle.http_read.proofs.EndingLemmas.{nothing-stands, refused-finished, endings}
use Rattle.http_read.proofs.laws.endings_are_determined.Goals as goal

pub returns : goal.returns
returns c = record {
  nothing = nothing-stands;
  refused = refused-finished;
  determined = endings;
}
