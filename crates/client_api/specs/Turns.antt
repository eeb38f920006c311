-- What a turn of a watch gives, between what was known before and what is known afterwards (Kubernetes API concepts,
-- "Efficient detection of changes"; KEP-956).
use Rattle.std.specs.Prelude.{◌≡◌, ℕ, ◌<◌, ◌≤◌, ◌⊎◌, Bool, nat_le, List, [], length, Option, Some, None, option_and_then, Result, Ok, Err}
use Rattle.std.specs.declared.alloc.AllocError.{AllocError}
use Rattle.kube_meta.specs.Rows.{RowData}
use Rattle.rev_front.specs.Passes.{Pass, end_from, last_of}
use Rattle.rev_log.specs.Changes.{RevisionData}
use Rattle.up_api.specs.Sections.{log_of}
use Rattle.select_all.specs.Floors.{IsEvicted}
use Rattle.select_all.specs.Streams.{TransitionData, transitions}
use Rattle.client_api.specs.declared.answers.Took.{Took}
use Rattle.client_api.specs.declared.answers.Took.TheVariants.{Events, Quiet, Lost}
use Rattle.client_api.specs.Facts.{Watched, HasLoaded}

-- Events: the transitions of the selection from the position up to a revision that is seen, at least one.
pub record GivesEvents (base : List RowData) (watched : Watched) (from upto : ℕ) (lines : List TransitionData) (q : Pass RevisionData) : Type 0 where
  pub begins : from ≡ watched.position
  pub lines_are : lines ≡ transitions (log_of base q) watched.selection watched.position upto
  pub some_line : 0 < length lines
  pub seen : upto ≤ end_from q.first q.seen

-- Quiet: the revision that the log has reached was loaded, and both what is seen and the new position are at least
-- that. The position stays, or goes on to a revision that is seen; up to there is nothing to tell.
pub record IsQuiet (base : List RowData) (p : Pass RevisionData) (watched : Watched) (upto : ℕ) (reached : Bool) (q : Pass RevisionData) : Type 0 where
  pub loaded : HasLoaded p q
  pub followed : last_of q ≤ end_from q.first q.seen
  pub current : last_of q ≤ upto
  pub onward : watched.position ≤ upto
  pub seen : (upto ≡ watched.position) ⊎ (upto ≤ end_from q.first q.seen)
  pub nothing : transitions (log_of base q) watched.selection watched.position upto ≡ []
  pub reached_is : reached ≡ nat_le upto (end_from q.first q.seen)

-- Lost: changes above the position may not all be kept.
pub record IsLost (base : List RowData) (window : ℕ) (watched : Watched) (at floor : ℕ) (q : Pass RevisionData) : Type 0 where
  pub stood : at ≡ watched.position
  pub evicted : IsEvicted (log_of base q) q.floor window watched.selection.resource watched.position floor

-- what a turn of a watch gives: events, nothing new, or that the watch is lost
abbrev pub IsWatchTurn : List RowData → ℕ → Pass RevisionData → Watched → Took → Pass RevisionData → Type 0
IsWatchTurn base window p watched (Events from upto lines) q = GivesEvents base watched from upto lines.items q
IsWatchTurn base window p watched (Quiet upto reached) q = IsQuiet base p watched upto reached q
IsWatchTurn base window p watched (Lost at floor) q = IsLost base window watched at floor q

-- what a client with that watch answers at a turn; of want of memory nothing is said
abbrev pub IsTurnAnswer : List RowData → ℕ → Pass RevisionData → Option Watched → Result Took AllocError → Pass RevisionData → Type 0
IsTurnAnswer base window p (Some watched) (Ok took) q = IsWatchTurn base window p watched took q
IsTurnAnswer base window p None (Ok took) q = ⊥
IsTurnAnswer base window p watching (Err memory) q = Unit {0}

-- ---- where the watch stands then

-- it goes on from where it was told up to, and ends where it is lost
abbrev pub watch_after : Took → Watched → Option Watched
watch_after (Events from upto lines) watched = Some (record watched { position = upto })
watch_after (Quiet upto reached) watched = Some (record watched { position = upto })
watch_after (Lost at floor) watched = None

-- after want of memory it stands where it stood
abbrev pub watch_left : Result Took AllocError → Option Watched → Option Watched
watch_left (Ok took) watching = option_and_then (watch_after took) watching
watch_left (Err memory) watching = watching
