use Rattle.std.proofs.Common.{◌≡◌, ℕ, drop}
use Rattle.rev_log.specs.Logs.{Log, end_of}
use Rattle.up_store.specs.Kept.{Keeps}
use Rattle.up_store.specs.Transacting.{first_fault}
use Rattle.up_store.proofs.transacting.refused_item.Given as goal

-- none so far is refused, so the rest decides
abbrev pub invariant-loop-index : goal.invariant-loop-index
invariant-loop-index l = (log : Log) (floor : ℕ) → Keeps log floor l.kept → l.at ≡ end_of log → first_fault log 0 l.asks ≡ first_fault log l.index (drop l.index l.asks)
