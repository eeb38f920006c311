-- What holds of every world that steps lead to, and what no step undoes.
use Rattle.std.specs.Prelude.{◌≡◌, ℕ, ◌^◌, ◌≤◌, ◌⊎◌, max, List, All, Some, IfSome}
use Rattle.std.specs.List.Sorted.{IsStrictlySortedBy}
use mathlib.Core.List.{IsPrefix}
use Rattle.kube_meta.specs.declared.resources.Resource.{Resource}
use Rattle.kube_meta.specs.Rows.{RowData, AreRising}
use Rattle.rev_front.specs.Passes.{Pass, Whole, IsPass, IsWhole, Covers, Extends}
use Rattle.rev_log.specs.Changes.{RevisionData}
use Rattle.rev_log.specs.Logs.{Log, IsLog, Fits, end_of, grown}
use Rattle.select_all.specs.declared.selection.Selection.{Selection}
use Rattle.select_all.specs.Streams.{transition_cmp, transitions}
use Rattle.select_all.specs.Listings.{IsListing}
use Rattle.select_all.specs.Floors.{IsFloorOk, IsEvicted}
use Rattle.cache_world.specs.Lanes.{IsBatchOf, IsInStep}
use Rattle.cache_world.specs.World.{CacheView, WatchData, GivenData, LossData, ClientData, World, Party, whole_of, pass_of, opening}
use Rattle.cache_world.specs.Steps.{Step, Reaches, IsAllowed, cache_of, after}
use Rattle.cache_world.specs.Steps.Step.{CatchUp, Lose, Close, Serve}

-- ---- what holds in each world

-- a watch, of a log that its cache follows up to an end: it received exactly the selection's transitions from its start
-- to its position, in their order; each waiting batch is its stream between the batch's ends; and while its lane isn't
-- behind, nothing is missing from the mark to the cache's end
pub record IsWatch (log : Log) (end : ℕ) (watch : WatchData) : Type 0 where
  pub started : watch.start ≤ watch.position
  pub reached : watch.position ≤ max watch.start (end_of log)
  pub received : watch.received ≡ transitions log watch.lane.selection watch.start watch.position
  pub in_order : IsStrictlySortedBy transition_cmp watch.received
  pub waiting : All (IsBatchOf log watch.lane.selection) watch.waiting
  pub marked : (watch.start ≤ watch.lane.mark) × (watch.lane.mark ≤ max watch.start (end_of log))
  pub in_step : IsInStep log end watch.lane

-- a listing that was given: the log reached its revision, and it is the listing there
pub record IsGiven (log : Log) (given : GivenData) : Type 0 where
  pub reached : given.at ≤ end_of log
  pub listing : IsListing log given.selection given.at given.rows

-- a loss that was told is one that the log bears out
abbrev pub IsLoss : World → LossData → Type 0
IsLoss world loss = IsEvicted world.log world.floor world.window loss.resource loss.at loss.floor

-- a cache follows the log from a base at or below the floor, and serves from a position that a window may have
pub record IsCache (world : World) (resource : Resource) (cache : CacheView) : Type 0 where
  pub begun : world.log.first ≤ cache.base
  pub kept : cache.base ≤ world.floor
  pub ordered : cache.base ≤ cache.end
  pub within : cache.end ≤ end_of world.log
  pub floor_ok : IsFloorOk world.log resource world.window world.window_max cache.base cache.end cache.low

pub record IsClient (world : World) (client : ClientData) : Type 0 where
  pub watch : IfSome client.watch (λ watch. IsWatch world.log (world.caches watch.lane.selection.resource).end watch)
  pub given : All (IsGiven world.log) client.given
  pub losses : All (IsLoss world) client.losses

-- a pass is one, and knows nothing that isn't so
pub record IsKnowledge (whole : Whole RevisionData) (pass : Pass RevisionData) : Type 0 where
  pub lawful : IsPass Fits pass
  pub covered : Covers whole pass

pub record IsLawful (world : World) : Type 0 where
  pub log : IsLog world.log
  pub whole : IsWhole Fits (whole_of world)
  pub passes : (who : Party) → IsKnowledge (whole_of world) (pass_of world who)
  pub caches : (resource : Resource) → IsCache world resource (world.caches resource)
  pub clients : (i : ℕ) → IsClient world (world.clients i)

-- ---- what stays as steps are made

-- the log and its numbers only grow, no pass forgets, caches go on, and what a client was told stays told
pub record GoesOn (world later : World) : Type 0 where
  pub log : (more : List RevisionData) × (later.log ≡ grown world.log more)
  pub floor : world.floor ≤ later.floor
  pub generation : world.generation ≤ later.generation
  pub windows : (later.window ≡ world.window) × (later.window_max ≡ world.window_max)
  pub passes : (who : Party) → Extends (pass_of world who) (pass_of later who)
  pub ends : (resource : Resource) → (world.caches resource).end ≤ (later.caches resource).end
  pub bases : (resource : Resource) → (world.caches resource).base ≤ (later.caches resource).base
  pub given : (i : ℕ) → IsPrefix (world.clients i).given (later.clients i).given
  pub losses : (i : ℕ) → IsPrefix (world.clients i).losses (later.clients i).losses

-- ---- the law

-- from an opening world with base rows as they should be, after each list of steps and each further one
abbrev pub EveryWorldIsLawful : Type 0
EveryWorldIsLawful =
    (first : ℕ) (base : List RowData) (window window_max : ℕ) → first ≤ 2 ^ 62 → AreRising base → All (λ row. row.rev ≤ first) base →
    (steps more : List Step) (world later : World) → Reaches (opening first base window window_max) steps world → Reaches world more later →
    IsLawful world × (GoesOn world later × IsLawful later)

-- ---- what a client may rely on, step by step

-- a watch goes on: it is of the same selection from the same start, it is no earlier, and what it received stays
pub record WatchGoesOn (watch later : WatchData) : Type 0 where
  pub selection : later.lane.selection ≡ watch.lane.selection
  pub start : later.start ≡ watch.start
  pub position : watch.position ≤ later.position
  pub received : IsPrefix watch.received later.received

-- the step ends the watch of client i
abbrev pub Ends : Step → ℕ → Type 0
Ends (Lose j) i = j ≡ i
Ends (Close j) i = j ≡ i
Ends step i = ⊥

-- a watch ends by a loss or by its client alone: no write, compaction, cut, pump or rebuild ends one, nor does what
-- another client does
abbrev pub WatchesGoOn : Type 0
WatchesGoOn =
    (world : World) (step : Step) (i : ℕ) (watch : WatchData) → IsLawful world → IsAllowed world step → (world.clients i).watch ≡ Some watch →
    Ends step i ⊎ ((later : WatchData) × (((after world step).clients i).watch ≡ Some later) × WatchGoesOn watch later)

-- a client that watches can be told all up to its cache's end, unless its position is no longer served, and then the
-- loss can be told
abbrev pub WatchesAreServed : Type 0
WatchesAreServed =
    (world : World) (i : ℕ) (watch : WatchData) → (world.clients i).watch ≡ Some watch →
    IsAllowed world (CatchUp i (max watch.position (cache_of world watch).end)) ⊎ IsAllowed world (Lose i)

-- each client can be given the listing of each selection at its cache's end
abbrev pub ListsAreServed : Type 0
ListsAreServed =
    (world : World) (i : ℕ) (s : Selection) → IsLawful world →
    (rows : List RowData) × IsAllowed world (Serve i s (world.caches s.resource).end rows)
