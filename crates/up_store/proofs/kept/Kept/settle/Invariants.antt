use Rattle.std.proofs.Common.{◌≡◌, ◌+◌, ◌-◌, ◌≤◌, length}
use Rattle.rev_log.specs.Logs.{Log}
use Rattle.up_store.specs.Kept.{Keeps, IsPlace}
use Rattle.up_store.proofs.kept.Kept.settle.Given as goal

-- the floor's rows have followed the log so far
abbrev pub invariant-loop : goal.invariant-loop
invariant-loop l = record {
  whole : l.self.last_at ≡ l.self.end;
  some : l.count ≤ l.counter + length l.self.revisions.items;
  keeps : (log : Log) → Keeps log l.floor l.fn.self → Keeps log l.floor l.self × IsPlace log l.self l.floor (l.count - l.counter);
}
