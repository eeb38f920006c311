use Rattle.std.proofs.Common.{rules}
use Rattle.cache_hub.proofs.IndexLemmas.{kept_entries}
use Rattle.cache_hub.proofs.calling.hang.Goals as goal

pub returns-in-Some : goal.returns-in-Some
returns-in-Some g c = kept_entries c.args.id c.args.lanes.now.entries c.in-Some.lane.now c.ring_by.new.self (c.get_mut.follows.lender c.ring_by.new.self).entries
    c.ring_by.ensures (search rules) (search rules)
