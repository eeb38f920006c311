use Rattle.std.proofs.Common.{refl, sym}
use Rattle.watch_record.proofs.between_reading.first_of.Goals as goal

pub returns-in_default-clause-refused : goal.returns-in_default-clause-refused
returns-in_default-clause-refused c =
    let none = rw c.in_default.is at c.in_ok-rows.ensures in
    λ no_memory. (refl, λ rows is. none rows c.args.from is)

pub returns-then-at-from-clause-refused : goal.returns-then-at-from-clause-refused
returns-then-at-from-clause-refused c =
    let read = rw c.in-Some.is at c.in_ok-rows.ensures in
    λ no_memory. (refl, λ rows is. c.if-at-from.true (sym (read.one rows c.args.from is)))
