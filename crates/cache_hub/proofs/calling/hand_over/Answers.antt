use Rattle.std.proofs.Common.{rules}
use Rattle.cache_hub.proofs.IndexLemmas.{kept_entries}
use Rattle.cache_hub.proofs.calling.hand_over.Goals as goal

pub returns-in-Some : goal.returns-in-Some
returns-in-Some g c = kept_entries c.args.id c.args.lanes.now.entries c.in-Some.lane.now c.hand_over.new.self (c.get_mut.follows.lender c.hand_over.new.self).entries
    c.hand_over.ensures (search rules) (search rules)
