use Rattle.http_read.proofs.LawLemmas.{one-way, not-refused, not-cut-short, whole-stays, refusal-stays, determined}
use Rattle.http_read.proofs.EndingLemmas.{not-unfinished}
use Rattle.http_read.proofs.laws.requests_are_read_in_one_way.Goals as goal

pub returns : goal.returns
returns c = record {
  one = one-way;
  not_refused = not-refused;
  not_cut_short = not-cut-short;
  not_unfinished = not-unfinished;
  whole_stays = whole-stays;
  refusal_stays = refusal-stays;
  determined = determined;
}
