use Rattle.std.proofs.Common.{◌≡◌, take}
use Rattle.kube_meta.specs.Hashes.{spelled}
use Rattle.kube_meta.proofs.hashes.spelled.Given as goal

-- the number is that of the bytes so far
abbrev pub invariant-loop-byte : goal.invariant-loop-byte
invariant-loop-byte l = l.number ≡ spelled (take l.byte-index l.bytes)
