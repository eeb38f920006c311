use Rattle.laws.proofs.PeerHeadLemmas.{begins_once, begun_is_not_refused, refusals_stay, refusals_agree, open_is_not_refused}
use Rattle.laws.proofs.peer_heads.heads_have_one_reading.Goals as goal

pub returns : goal.returns
returns c = record {
  begin = begins_once;
  begun = begun_is_not_refused;
  stay = refusals_stay;
  agree = refusals_agree;
  unfinished = open_is_not_refused;
}
