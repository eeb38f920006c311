-- Where a watch begins, and why it is refused, between what was known before and what is known afterwards (Kubernetes
-- API concepts, "Efficient detection of changes"; KEP-3157).
use Rattle.std.specs.Prelude.{◌≡◌, ℕ, List, Option, Some, None, IfSome, Result, Ok, Err}
use Rattle.kube_meta.specs.Rows.{RowData}
use Rattle.rev_front.specs.Passes.{Pass}
use Rattle.rev_log.specs.Changes.{RevisionData}
use Rattle.up_api.specs.Sections.{log_of}
use Rattle.select_all.specs.declared.selection.Meaning.{Meaning}
use Rattle.select_all.specs.declared.selection.Meaning.TheVariants.{NotOlder}
use Rattle.select_all.specs.Floors.{IsEvicted}
use Rattle.watch_rules.specs.declared.ask.WatchAsk.{WatchAsk}
use Rattle.watch_rules.specs.declared.starts.Start.{Start}
use Rattle.watch_rules.specs.declared.starts.Start.TheVariants.{FromState, FromHere, FromRevision}
use Rattle.watch_rules.specs.Bodies.{IsOpening}
use Rattle.client_api.specs.declared.answers.ListNo.{ListNo}
use Rattle.client_api.specs.declared.answers.ListNo.TheVariants.{Expired, TooLarge, Absent, Memory}
use Rattle.client_api.specs.Answers.{BegunData}
use Rattle.client_api.specs.Facts.{Watched, HasLoaded}
use Rattle.client_api.specs.Fresh.{IsFresh}
use Rattle.client_api.specs.Refusals.{IsTooLarge}

-- the meaning by which a start's revision is chosen
abbrev pub meaning_of : Start → Option Meaning
meaning_of (FromState meaning) = Some meaning
meaning_of (FromHere meaning) = Some meaning
meaning_of (FromRevision revision) = None

-- A watch begins: the revision that the log has reached was loaded. A start from a state is at a fresh revision, with
-- the rows of the selection there; one from here is at a fresh revision, with none; and one from a revision is at
-- that one, with none.
pub record IsWatchStart (base : List RowData) (p : Pass RevisionData) (ask : WatchAsk) (begun : BegunData) (q : Pass RevisionData) : Type 0 where
  pub loaded : HasLoaded p q
  pub fresh : IfSome (meaning_of ask.start) (λ meaning. IsFresh p meaning begun.at q)
  pub opening : IsOpening (log_of base q) ask.selection ask.start begun.at begun.rows

-- a watch can't begin with a state, or from one, that isn't older than a revision that isn't reached
pub record StartsTooLarge (p : Pass RevisionData) (ask : WatchAsk) (asked current : ℕ) (q : Pass RevisionData) : Type 0 where
  pub asks : meaning_of ask.start ≡ Some (NotOlder asked)
  pub too_large : IsTooLarge p (NotOlder asked) asked current q

-- a watch can't begin from a revision behind which the changes may not all be kept
pub record StartsLost (base : List RowData) (window : ℕ) (p : Pass RevisionData) (ask : WatchAsk) (asked floor : ℕ) (q : Pass RevisionData) : Type 0 where
  pub loaded : HasLoaded p q
  pub from : ask.start ≡ FromRevision asked
  pub lost : IsEvicted (log_of base q) q.floor window ask.selection.resource asked floor

-- what a watch answers; of want of memory nothing is said
abbrev pub IsWatchAnswer : List RowData → ℕ → Pass RevisionData → WatchAsk → Result BegunData ListNo → Pass RevisionData → Type 0
IsWatchAnswer base window p ask (Ok begun) q = IsWatchStart base p ask begun q
IsWatchAnswer base window p ask (Err (Expired asked floor)) q = StartsLost base window p ask asked floor q
IsWatchAnswer base window p ask (Err (TooLarge asked current)) q = StartsTooLarge p ask asked current q
IsWatchAnswer base window p ask (Err (Absent at)) q = ⊥
IsWatchAnswer base window p ask (Err Memory) q = Unit {0}

-- the watch that stands then
abbrev pub begun_watch : WatchAsk → Result BegunData ListNo → Option Watched
begun_watch ask (Ok begun) = Some (record { selection = ask.selection; position = begun.at })
begun_watch ask (Err fault) = None
