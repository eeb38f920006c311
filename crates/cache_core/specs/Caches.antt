-- The cache of one resource as plain data, and when it stands for a log.
use Rattle.std.specs.Prelude.{◌≡◌, ℕ, ◌<◌, ◌≤◌, List, map}
use Rattle.kube_meta.specs.Rows.{RowData}
use Rattle.kube_meta.specs.declared.resources.Resource.{Resource}
use Rattle.rev_front.specs.Passes.{FitFrom}
use Rattle.rev_log.specs.Logs.{Log, Fits, end_of, upto}
use Rattle.rev_log.specs.States.{IsStateAt}
use Rattle.select_all.specs.Floors.{IsFloorOk}
use Rattle.select_all.specs.Streams.{EventData, events}
use Rattle.event_ring.specs.Events.{EventRows, event_of}
use Rattle.event_ring.specs.Rings.{RingData, events_of}
use Rattle.cache_core.specs.declared.refusals.AtNo.{AtNo}
use Rattle.cache_core.specs.declared.refusals.AtNo.TheVariants.{Below, Memory}

-- the revision from which it was built, and the one up to which it goes; the time that it was told, in milliseconds;
-- the rows at its end, and the ring of the last events
pub record CacheData : Type 0 where
  pub resource : Resource
  pub base : ℕ
  pub end : ℕ
  pub time : ℕ
  pub rows : List RowData
  pub ring : RingData

-- an event of the log as a ring holds it
abbrev pub held_event : EventData → EventRows
held_event event = event_of event.rev event.key event.before event.now

-- the events of a resource in the revisions above a and up to b, as a ring holds them
abbrev pub held_events : Log → Resource → ℕ → ℕ → List EventRows
held_events log resource a b = map held_event (events log resource a b)

-- each revision of the log fits its number
abbrev pub AreFitting : Log → Type 0
AreFitting log = FitFrom Fits log.first log.revisions

-- the ring is one of a window that began at `base` and has come to `end`: its floor is a lawful one, and it holds all
-- events above that
pub record IsRingOf (log : Log) (resource : Resource) (base end : ℕ) (ring : RingData) : Type 0 where
  pub floor : IsFloorOk log resource ring.window ring.window_max base end ring.floor
  pub events_are : events_of ring.held ≡ held_events log resource ring.floor end

-- The cache stands for the log: it ends where the log does, its rows are the state there, and its ring is one of it.
pub record IsCacheOf (log : Log) (cache : CacheData) : Type 0 where
  pub fitting : AreFitting log
  pub begun : log.first ≤ cache.base
  pub built : cache.base ≤ cache.end
  pub ended : cache.end ≡ end_of log
  pub state : IsStateAt log cache.resource cache.end cache.rows
  pub ring : IsRingOf log cache.resource cache.base cache.end cache.ring

-- the log up to a revision
abbrev pub log_at : Log → ℕ → Log
log_at log at = record log { revisions = upto log at }

-- why no state is answered: the revision is below the floor of the ring
abbrev pub RefusesAt : CacheData → ℕ → AtNo → Type 0
RefusesAt cache at (Below asked floor) = (asked ≡ at) × (floor ≡ cache.ring.floor) × (asked < floor)
RefusesAt cache at Memory = Unit {0}
