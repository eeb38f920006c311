use Rattle.std.proofs.Common.{[]}
use Rattle.watch_record.proofs.between_lists.list_of.Goals as goal

pub returns-in_default : goal.returns-in_default
returns-in_default c = let none = rw c.in_default.is at c.in_ok-page.ensures in λ rows at is. none rows at [] is
