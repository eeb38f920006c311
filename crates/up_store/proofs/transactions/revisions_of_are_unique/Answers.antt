use Rattle.up_store.proofs.OrderLemmas.{revisions_are_one}
use Rattle.up_store.proofs.transactions.revisions_of_are_unique.Goals as goal

pub returns : goal.returns
returns c = revisions_are_one
