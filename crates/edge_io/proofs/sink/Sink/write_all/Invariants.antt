use Rattle.std.proofs.Common.{length, take, ◌-◌, ◌≡◌, ◌≤◌}
use Rattle.edge_io.specs.Told.{appended}
use Rattle.edge_io.proofs.sink.Sink.write_all.Given as goal

-- the front of the bytes went out
abbrev pub invariant-loop-at : goal.invariant-loop-at
invariant-loop-at g l = record {
  within : l.at ≤ length l.bytes;
  taken : g.Self.Sink.written l.self ≡ appended (g.Self.Sink.written l.initial.self) (take l.at l.bytes);
  quiet : g.Self.Sink.faults l.self ≡ g.Self.Sink.faults l.initial.self;
}

abbrev pub decreases-loop-at : goal.decreases-loop-at
decreases-loop-at g l = length l.bytes - l.at
