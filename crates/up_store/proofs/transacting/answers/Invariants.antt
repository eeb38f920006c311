use Rattle.std.proofs.Common.{◌≡◌, ℕ, take}
use Rattle.rev_log.specs.Logs.{Log, end_of}
use Rattle.up_store.specs.Kept.{Keeps}
use Rattle.up_store.specs.Transacting.{AreWritten}
use Rattle.up_store.proofs.transacting.answers.Given as goal

-- the writes so far are answered
abbrev pub invariant-loop-i : goal.invariant-loop-i
invariant-loop-i l = (log : Log) (floor : ℕ) → Keeps log floor l.kept → l.at ≡ end_of log → AreWritten log (take l.i l.asks) l.answers.items
