use Rattle.std.proofs.Common.{rules}
use Rattle.cache_hub.proofs.BothLemmas.{alike_where_none}
use Rattle.cache_hub.proofs.lanes.Lanes.new.Goals as goal

pub invariant_of-result : goal.invariant_of-result
invariant_of-result g c = (c.requires.some, c.requires.bounded, search rules, search rules, search rules, alike_where_none _ (search rules), search rules)
