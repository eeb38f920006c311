use Rattle.std.proofs.Common.{refl}
use Rattle.watch_record.proofs.LaterLemmas.{no-list, below-list}
use Rattle.watch_record.proofs.between_lists.later_at.Goals as goal

pub returns-in_default-clause-refused : goal.returns-in_default-clause-refused
returns-in_default-clause-refused c =
    let none = rw c.in_default.is at c.in_ok-rows.ensures in
    λ no_memory. (refl, no-list c.args.resource c.args.from c.args.text.now none)

pub returns-then-at-from-clause-refused : goal.returns-then-at-from-clause-refused
returns-then-at-from-clause-refused c =
    let read = rw c.in-Some.is at c.in_ok-rows.ensures in
    λ no_memory. (refl, below-list c.args.resource c.args.from c.args.text.now c.in-Some.rows.items c.in-Some.at read c.if-at-from.true)
