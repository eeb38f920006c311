-- What a watcher that catches up is told.
use Rattle.std.specs.Prelude.{◌≡◌, ◌≢◌, ℕ, ◌<◌, ◌≤◌, ◌⊎◌, max, List, [], ◌∷◌, ◌++◌, length, All, Bool, ◌&&◌, nat_le, nat_lt, is_some, Option, None, Some}
use Rattle.std.specs.List.{AllByRecursion}
use Rattle.rev_log.specs.Logs.{Log}
use Rattle.select_all.specs.declared.selection.Selection.{Selection}
use Rattle.select_all.specs.Streams.{TransitionData, transitions}
use Rattle.cache_core.specs.Caches.{CacheData}
use Rattle.event_ring.specs.Events.{EventRows}
use Rattle.cache_hub.specs.Due.{transition_of}
use Rattle.cache_hub.specs.declared.catching.CatchNo.{CatchNo}
use Rattle.cache_hub.specs.declared.catching.CatchNo.TheVariants.{Lost, Memory}

-- the lines, and the revision up to which they are all
pub record CaughtData : Type 0 where
  pub upto : ℕ
  pub lines : List TransitionData

-- of revisions that hold at least so many lines these are the fewest: without those of the last one there are fewer
pub record AreFewest (many : ℕ) (lines : List TransitionData) : Type 0 where
  pub before : List TransitionData
  pub last : List TransitionData
  pub are : lines ≡ before ++ last
  pub fewer : length before < many
  pub rev : ℕ
  pub one_revision : All (λ t. t.rev ≡ rev) last

-- the last of the lines is of this revision
pub record EndsWith (lines : List TransitionData) (rev : ℕ) : Type 0 where
  pub before : List TransitionData
  pub line : TransitionData
  pub are : lines ≡ before ++ line ∷ []
  pub is : line.rev ≡ rev

-- What a watcher at a position is told by a cache that ends at `end`: all lines of its selection up to a revision, the
-- fewest whole revisions that hold at least so many lines. Where no more are left, that is the cache's end, or the
-- position where this is above it; else it is the revision of the last line.
pub record IsCaught (log : Log) (s : Selection) (at end many : ℕ) (caught : CaughtData) : Type 0 where
  pub exact : caught.lines ≡ transitions log s at caught.upto
  pub fewest : AreFewest many caught.lines
  pub stops : (caught.upto ≡ max at end) ⊎
      ((many ≤ length caught.lines) × EndsWith caught.lines caught.upto × (caught.upto ≤ end) × (transitions log s caught.upto end ≢ []))

-- why a watcher can't catch up: its position is below the floor of the cache's ring
abbrev pub RefusesCatch : CacheData → ℕ → CatchNo → Type 0
RefusesCatch cache at (Lost asked floor) = (asked ≡ at) × (floor ≡ cache.ring.floor) × (asked < floor)
RefusesCatch cache at Memory = Unit {0}

-- ---- over a list of lines

-- events rise from one revision on
abbrev pub AreRisingFrom : ℕ → List EventRows → Type 0
AreRisingFrom low [] = Unit {0}
AreRisingFrom low (event ∷ more) = (low ≤ event.rev) × AreRisingFrom event.rev more

-- events above one revision and up to another, in order
pub record AreInOrder (at all : ℕ) (events : List EventRows) : Type 0 where
  pub rising : AreRisingFrom at events
  pub within : AllByRecursion (λ event. (at < event.rev) × (event.rev ≤ all)) events

-- the lines are enough, and the event is one for the watcher and of a later revision
abbrev pub ends_before : Selection → ℕ → CaughtData → EventRows → Bool
ends_before s many caught event = nat_le many (length caught.lines) && (nat_lt caught.upto event.rev && is_some (transition_of s event))

-- of all lines these are the fewest whole revisions that hold so many, up to a revision; `all` is the one where no more are left
pub record AreFirst (many all : ℕ) (lines : List TransitionData) (caught : CaughtData) : Type 0 where
  pub left : List TransitionData
  pub split : lines ≡ caught.lines ++ left
  pub up : All (λ t. t.rev ≤ caught.upto) caught.lines
  pub above : All (λ t. caught.upto < t.rev) left
  pub fewest : AreFewest many caught.lines
  pub stops : ((left ≡ []) × (caught.upto ≡ all)) ⊎ ((many ≤ length caught.lines) × EndsWith caught.lines caught.upto × (left ≢ []))

-- what was taken so far, and the line of an event behind it, if there is one
abbrev pub taken : CaughtData → ℕ → Option TransitionData → CaughtData
taken caught rev None = caught
taken caught rev (Some line) = record { upto = rev; lines = caught.lines ++ line ∷ [] }
