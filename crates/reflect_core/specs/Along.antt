-- What a cache makes of itself on the way of a pump. Of the caches, `ends_at` says up to which revision one stands for
-- the log, `goes_along` what it makes of what came of a log, and `begins_anew` what it makes of a history.
use Rattle.std.specs.Prelude.{◌≡◌, ℕ, zero, suc, ◌≤◌, List, [], ◌∷◌}
use Rattle.rev_log.specs.Changes.{RevisionData}
use Rattle.rev_log.specs.Logs.{Log, grown, end_of}

-- it took in what a poll gave, by a beginning of the log that reaches its new end
pub record TakesIn {S : Type 0} (ends_at : S → ℕ) (goes_along : Log → S → S → Type 0) (log : Log) (old new : S) : Type 0 where
  pub known : Log
  pub later : List RevisionData
  pub begins : log ≡ grown known later
  pub within : ends_at new ≤ end_of known
  pub goes : goes_along known old new

-- it took in what polls gave, one after the other, and was these between them, the latest first
abbrev pub TakesInEach : {S : Type 0} → (S → ℕ) → (Log → S → S → Type 0) → Log → List S → S → S → Type 0
TakesInEach ends_at goes_along log [] old new = new ≡ old
TakesInEach ends_at goes_along log (last ∷ before) old new =
    TakesInEach ends_at goes_along log before old last × TakesIn ends_at goes_along log last new

-- it took in what polls gave, and did nothing else
pub record TakesInPolls {S : Type 0} (ends_at : S → ℕ) (goes_along : Log → S → S → Type 0) (log : Log) (old new : S) : Type 0 where
  pub caches : List S
  pub each : TakesInEach ends_at goes_along log caches old new

-- it was built anew this often, once at most, or is as it was
abbrev pub IsBuiltAnew : {S : Type 0} → (S → S → Type 0) → ℕ → S → S → Type 0
IsBuiltAnew begins_anew zero old new = new ≡ old
IsBuiltAnew begins_anew (suc more) old new = begins_anew old new

-- it took in what polls gave, and where it was built anew, that came last
pub record GoesTo {S : Type 0} (ends_at : S → ℕ) (goes_along : Log → S → S → Type 0) (begins_anew : S → S → Type 0) (log : Log) (rebuilds : ℕ) (old new : S) : Type 0 where
  pub last : S
  pub polls : TakesInPolls ends_at goes_along log old last
  pub anew : IsBuiltAnew begins_anew rebuilds last new
