use Rattle.cache_core.proofs.RowLemmas.{keyed_before}
use Rattle.std.proofs.Common.{◌∙◌}
use Rattle.cache_core.proofs.making.event_made.Goals as goal

pub new-requires-clause-before_keyed : goal.new-requires-clause-before_keyed
new-requires-clause-before_keyed c = keyed_before c.in_ok-before.before _ _ (c.in_ok-before.ensures ∙ c.get.ensures)
