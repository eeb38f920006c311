use Rattle.std.proofs.Common.{sym, subst}
use Rattle.rev_log.specs.States.{IsStateAt}
use Rattle.rev_log.proofs.StateLemmas.{if_ok}
use Rattle.up_store.proofs.past.OldState.rows.Goals as goal

pub returns : goal.returns
returns c = if_ok c.listed.result (λ list items log resource at is. subst (IsStateAt log resource at) (sym items) (c.in_ok-made.ensures log resource at is)) c.listed.ensures
