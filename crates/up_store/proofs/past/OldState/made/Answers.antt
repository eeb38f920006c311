use Rattle.rev_log.proofs.StateLemmas.{if_ok}
use Rattle.up_store.proofs.KeptLemmas.{state-made}
use Rattle.up_store.proofs.past.OldState.made.Goals as goal

pub returns : goal.returns
returns c = if_ok c.made_upon.result (λ made stepped log resource at is. state-made log resource at c.args.self c.deref.result.now made c.deref.ensures.value stepped is) c.made_upon.ensures
