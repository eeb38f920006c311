-- Why a read at a revision is refused.
use Rattle.std.specs.Prelude.{◌≡◌, ℕ, ◌<◌, ◌≤◌, nat_lt, Option, Some, None, option_and_then, if◌then◌else◌}
use Rattle.rev_front.specs.Passes.{Pass, last_of}
use Rattle.rev_log.specs.Changes.{RevisionData}
use Rattle.select_all.specs.declared.selection.Meaning.{Meaning}
use Rattle.select_all.specs.declared.selection.Meaning.TheVariants.{MostRecent, Any, NotOlder, Exact}
use Rattle.client_api.specs.declared.answers.ListNo.{ListNo}
use Rattle.client_api.specs.declared.answers.ListNo.TheVariants.{TooLarge}
use Rattle.client_api.specs.Facts.{HasLoaded}

-- the revision that a meaning names
abbrev pub revision_named : Meaning → Option ℕ
revision_named MostRecent = None
revision_named Any = None
revision_named (NotOlder asked) = Some asked
revision_named (Exact asked) = Some asked

-- the revision that the meaning names is above what the log had reached as it was loaded in this call
pub record IsTooLarge (p : Pass RevisionData) (meaning : Meaning) (asked current : ℕ) (q : Pass RevisionData) : Type 0 where
  pub named : revision_named meaning ≡ Some asked
  pub loaded : HasLoaded p q
  pub current_is : current ≡ last_of q
  pub above : current < asked

-- the refusal of a meaning that names a revision above this one
abbrev pub refusal_above : Meaning → ℕ → Option ListNo
refusal_above meaning current = option_and_then (λ asked. if nat_lt current asked then Some (TooLarge asked current) else None) (revision_named meaning)

-- the one revision that will do was reached, and is below a compaction floor
pub record IsExpired (meaning : Meaning) (asked floor : ℕ) (q : Pass RevisionData) : Type 0 where
  pub exact : meaning ≡ Exact asked
  pub reached : asked ≤ q.shown
  pub below : asked < floor
  pub known : floor ≤ q.floor
