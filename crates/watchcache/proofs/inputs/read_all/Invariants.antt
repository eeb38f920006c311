use Rattle.std.proofs.Common.{◌≡◌, ◌+◌, ◌≤◌, vec_len}
use Rattle.edge_io.specs.Told.{prepended}
use Rattle.watchcache.proofs.inputs.read_all.Given as goal

-- what was read stands in front of what is left, no fault was counted, and each turn read a byte, but none behind the last
abbrev pub invariant-loop : goal.invariant-loop
invariant-loop g l =
    (g.S.Source.left l.fn.source ≡ prepended l.bytes.items (g.S.Source.left l.source))
    × (g.S.Source.faults l.source ≡ g.S.Source.faults l.fn.source)
    × (l.counter ≤ vec_len l.bytes) × (vec_len l.bytes ≤ l.fn.most + 1)
