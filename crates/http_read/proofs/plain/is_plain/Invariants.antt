use Rattle.std.proofs.Common.{take}
use Rattle.std.specs.Prelude.{All, IsTrue}
use Rattle.http_read.specs.Pieces.{IsItself}
use Rattle.http_read.proofs.plain.is_plain.Given as goal

-- the bytes so far are plain, if `plain` says so
abbrev pub invariant-loop-byte : goal.invariant-loop-byte
invariant-loop-byte l = IsTrue l.plain → All IsItself (take l.byte-index l.raw)
