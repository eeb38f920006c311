use Rattle.up_store.proofs.KeptLemmas.{history-made}
use Rattle.up_store.proofs.past.OldHistory.made.Goals as goal

pub returns-clause-history : goal.returns-clause-history
returns-clause-history c = λ log log_floor resource is.
    history-made log log_floor resource c.args.self c.deref.result.now c.in_ok-rows.rows.items c.in_ok-parts.parts.items c.deref.ensures.value c.in_ok-parts.ensures c.in_ok-rows.ensures is
