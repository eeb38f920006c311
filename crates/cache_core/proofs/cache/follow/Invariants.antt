use Rattle.std.proofs.Common.{ℕ, drop}
use Rattle.rev_log.specs.Logs.{Log}
use Rattle.cache_core.specs.Steps.{IsFedTo, HasCome, Keeps}
use Rattle.cache_core.proofs.cache.follow.Given as goal

-- the first revisions are taken in, and the others are still to come
abbrev pub invariant-loop-revision : goal.invariant-loop-revision
invariant-loop-revision l = record {
  come : (log : Log) (upto : ℕ) → IsFedTo log l.initial.cache l.revisions upto →
      HasCome log l.initial.cache l.cache l.initial.fresh.items l.fresh.items (drop l.revision-index l.revisions) upto;
  keeps : Keeps l.initial.cache l.cache;
}
