use Rattle.std.proofs.Common.{◌≡◌, ℕ, drop}
use Rattle.rev_log.specs.Logs.{Log, end_of}
use Rattle.up_store.specs.Kept.{Keeps, changed}
use Rattle.up_store.proofs.kept.Kept.catch_up.Given as goal

-- the last rows have made the revisions so far
abbrev pub invariant-loop-i : goal.invariant-loop-i
invariant-loop-i l = record {
  from : l.self.from ≡ l.fn.self.from;
  end : l.self.end ≡ l.fn.self.end;
  revisions : l.self.revisions ≡ l.fn.self.revisions;
  keeps : (log : Log) (floor : ℕ) → Keeps log floor l.fn.self → Keeps log floor l.self × (drop l.i l.self.revisions.items ≡ changed log l.self.last_at (end_of log));
}
