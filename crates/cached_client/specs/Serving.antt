-- What a read is answered from: the objects of a resource at a revision.
use Rattle.std.specs.Prelude.{◌≡◌, ℕ, ◌<◌, ◌≤◌, Bool, true, false, nat_lt, List, IfSome}
use Rattle.kube_meta.specs.Rows.{RowData}
use Rattle.kube_meta.specs.declared.resources.Resource.{Resource}
use Rattle.rev_front.specs.Passes.{Pass, end_from, last_of}
use Rattle.rev_log.specs.Changes.{RevisionData}
use Rattle.rev_log.specs.States.{IsStateAt}
use Rattle.up_api.specs.Sections.{log_of}
use Rattle.select_all.specs.declared.selection.Meaning.{Meaning}
use Rattle.select_all.specs.declared.selection.Meaning.TheVariants.{MostRecent, Any, NotOlder, Exact}
use Rattle.client_api.specs.declared.answers.ListNo.{ListNo}
use Rattle.client_api.specs.declared.answers.ListNo.TheVariants.{Expired, TooLarge, Absent, Memory}
use Rattle.client_api.specs.Facts.{HasLoaded}
use Rattle.cached_client.specs.declared.reads.Found.{Found}
use Rattle.cached_client.specs.declared.reads.Found.TheVariants.{State, Older}
use Rattle.client_api.specs.Refusals.{revision_named, IsTooLarge, IsExpired}

-- the revision that a meaning names, if it names one, was shown
abbrev pub IsShown : Meaning → ℕ → Type 0
IsShown meaning shown = IfSome (revision_named meaning) (λ asked. asked ≤ shown)

-- whether a read of this meaning loads the revision that the log has reached
abbrev pub needs_load : Meaning → ℕ → Bool
needs_load MostRecent shown = true
needs_load Any shown = false
needs_load (NotOlder asked) shown = nat_lt shown asked
needs_load (Exact asked) shown = nat_lt shown asked

-- where a revision has to be current, it was loaded in between, and what the load gave was shown
abbrev pub IsLoadedFor : Meaning → Pass RevisionData → Pass RevisionData → Type 0
IsLoadedFor MostRecent p q = HasLoaded p q × (last_of q ≤ q.shown)
IsLoadedFor meaning p q = Unit {0}

-- a read of this meaning may be served
pub record IsReached (p : Pass RevisionData) (meaning : Meaning) (q : Pass RevisionData) : Type 0 where
  pub onward : p.shown ≤ q.shown
  pub loaded : IsLoadedFor meaning p q
  pub shown : IsShown meaning q.shown

-- the refusal of a revision that isn't reached
abbrev pub IsUnreached : Pass RevisionData → Meaning → Pass RevisionData → ListNo → Type 0
IsUnreached p meaning q (Expired asked floor) = ⊥
IsUnreached p meaning q (TooLarge asked current) = IsTooLarge p meaning asked current q
IsUnreached p meaning q (Absent at) = ⊥
IsUnreached p meaning q Memory = ⊥

-- the one revision that will do, which isn't below the compaction floor; or one that isn't older than what was shown
abbrev pub Serves : Meaning → ℕ → ℕ → Pass RevisionData → Type 0
Serves (Exact asked) shown at q = (at ≡ asked) × (q.floor ≤ at)
Serves meaning shown at q = shown ≤ at

-- the objects of the resource at a revision that the caller has seen then, and that will do for the meaning
pub record IsServed (base : List RowData) (resource : Resource) (meaning : Meaning) (shown : ℕ) (q : Pass RevisionData) (at : ℕ) (rows : List RowData) : Type 0 where
  pub state : IsStateAt (log_of base q) resource at rows
  pub seen : at ≤ end_from q.first q.seen
  pub serves : Serves meaning shown at q

-- What was found so: the objects, where the cache has them; or the one revision that will do, which was shown.
abbrev pub IsFound : List RowData → Resource → Meaning → ℕ → Pass RevisionData → Found → Type 0
IsFound base resource meaning shown q (State at rows) = IsServed base resource meaning shown q at rows
IsFound base resource meaning shown q (Older at) = (meaning ≡ Exact at) × (at ≤ q.shown)

-- the revision of what was found
abbrev pub found_at : Found → ℕ
found_at (State at rows) = at
found_at (Older at) = at

-- the only refusal: the one revision that will do is below the compaction floor
abbrev pub IsUnserved : Meaning → Pass RevisionData → ListNo → Type 0
IsUnserved meaning q (Expired asked floor) = (meaning ≡ Exact asked) × (floor ≡ q.floor) × (asked < floor)
IsUnserved meaning q (TooLarge asked current) = ⊥
IsUnserved meaning q (Absent at) = ⊥
IsUnserved meaning q Memory = Unit {0}

-- why a read isn't answered, between what was known before it and what is known afterwards
abbrev pub IsRefused : Pass RevisionData → Meaning → Pass RevisionData → ListNo → Type 0
IsRefused p meaning q (Expired asked floor) = IsExpired meaning asked floor q
IsRefused p meaning q (TooLarge asked current) = IsTooLarge p meaning asked current q
IsRefused p meaning q (Absent at) = ⊥
IsRefused p meaning q Memory = Unit {0}
