use Rattle.http_read.proofs.EndingLemmas.{agree, some-stay}
use Rattle.http_read.proofs.laws.requests_agree.Goals as goal

pub returns : goal.returns
returns c = record {
  agree = agree;
  stay = some-stay;
}
