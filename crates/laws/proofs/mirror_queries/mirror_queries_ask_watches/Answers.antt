use Rattle.laws.proofs.QueryLemmas.{queries_ask_watches, watches_are_taken}
use Rattle.laws.proofs.mirror_queries.mirror_queries_ask_watches.Goals as goal

pub returns : goal.returns
returns c = record { ask = queries_ask_watches c.revisions_are_read_back.ensures c.selections_agree.ensures; taken = watches_are_taken }
