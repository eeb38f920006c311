use Rattle.std.proofs.Common.{◌≡◌}
use Rattle.edge_io.proofs.real.ReadEndSource.read.Given as goal

-- no fault is counted while the read is tried
abbrev pub invariant-loop : goal.invariant-loop
invariant-loop g l = l.self.faults ≡ l.initial.self.faults
