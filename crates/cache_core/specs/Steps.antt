-- What one revision makes of a cache.
use Rattle.std.specs.Prelude.{◌≡◌, ℕ, ◌<◌, ◌≤◌, ◌⊎◌, IsTrue, List, [], ◌∷◌, ◌++◌, map, fold, find, length, All, Option, None, Some, option_map, bytes_eq}
use Rattle.std.specs.Option.{option_map_or}
use Rattle.std.specs.Cmp.Lexicographic.{slice_cmp}
use Rattle.std.specs.List.Sorted.{IsStrictlySortedBy}
use Rattle.std.specs.Ordering.{nat_cmp}
use Rattle.kube_meta.specs.Resources.{same_resource}
use Rattle.kube_meta.specs.Rows.{RowData, row_with}
use Rattle.rev_log.specs.Changes.{ChangeData, RevisionData, IsRevision}
use Rattle.obj_tree.specs.Maps.{with_row, without}
use Rattle.event_ring.specs.Events.{EventRows, event_of}
use Rattle.event_ring.specs.Rings.{RingData, IsRing, fitted, pushed}
use Rattle.rev_log.specs.Logs.{Log, end_of}
use Rattle.rev_log.specs.States.{IsStateAt}
use Rattle.up_api.specs.Feeds.{parts_between}
use Rattle.cache_core.specs.Caches.{CacheData, AreFitting, IsRingOf, held_events}
use Rattle.cache_core.specs.Feeding.{Stays}

-- ---- the events of a revision

-- the event of a change at a revision, where these rows stood before
abbrev pub change_event : List RowData → ℕ → ChangeData → EventRows
change_event rows rev change =
    event_of rev change.key (row_with rows change.key) (option_map (λ obj. record { obj = obj; rev = rev }) change.new)

-- those of a revision whose changes are all of the rows' resource
abbrev pub part_events : List RowData → RevisionData → List EventRows
part_events rows revision = map (change_event rows revision.rev) revision.changes

-- ---- the rows

-- the rows with this one at a key, or with none there
abbrev pub row_written : List RowData → List ℕ → Option RowData → List RowData
row_written rows key None = without rows key
row_written rows key (Some row) = with_row rows row

-- the rows after an event, and after several
abbrev pub with_event : List RowData → EventRows → List RowData
with_event rows event = row_written rows event.key event.now

abbrev pub with_events : List RowData → List EventRows → List RowData
with_events rows events = fold with_event rows events

-- the row at a key before events, where this one stands after them
abbrev pub row_before : List EventRows → List ℕ → Option RowData → Option RowData
row_before events key row = option_map_or (λ event. event.before) (find (λ event. bytes_eq event.key key) events) row

-- ---- the ring

-- the ring has taken in the events of a revision at a time: its capacity was fitted first, where there was memory
pub record IsPushed (old : RingData) (events : List EventRows) (time : ℕ) (new : RingData) : Type 0 where
  pub ready : RingData
  pub fits : (ready ≡ old) ⊎ (ready ≡ fitted old time)
  pub is : IsRing ready
  pub pushed_is : new ≡ pushed ready events time

-- the events of one revision above another: 1 to 64, in the order of their keys
pub record IsGroup (last : ℕ) (events : List EventRows) : Type 0 where
  pub rev : ℕ
  pub above : last < rev
  pub some : 0 < length events
  pub few : length events ≤ 64
  pub numbered : All (λ event. event.rev ≡ rev) events
  pub rising : IsStrictlySortedBy (slice_cmp nat_cmp) (map (λ event. event.key) events)

-- nothing in the ring is above a revision
pub record IsUpTo (last : ℕ) (ring : RingData) : Type 0 where
  pub floor : ring.floor ≤ last
  pub held : All (λ x. x.event.rev ≤ last) ring.held

-- ---- the cache

-- the revision may follow: it is above the cache's end and all that the ring holds, and it has changes, all of the
-- cache's resource
pub record MayFollow (cache : CacheData) (revision : RevisionData) : Type 0 where
  pub ring : IsUpTo cache.end cache.ring
  pub above : cache.end < revision.rev
  pub some : 0 < length revision.changes
  pub is : IsRevision revision
  pub of : All (λ change. IsTrue (same_resource change.resource cache.resource)) revision.changes

-- the cache has taken in that revision
pub record HasFollowed (old : CacheData) (revision : RevisionData) (new : CacheData) : Type 0 where
  pub is : new ≡ record old { end = revision.rev; rows = with_events old.rows (part_events old.rows revision); ring = new.ring }
  pub ring : IsPushed old.ring (part_events old.rows revision) old.time new.ring

-- ---- a replay

-- the rows after revisions, and the events of each
abbrev pub rows_along : List RowData → List RevisionData → List RowData
rows_along rows [] = rows
rows_along rows (revision ∷ more) = rows_along (with_events rows (part_events rows revision)) more

abbrev pub events_along : List RowData → List RevisionData → List (List EventRows)
events_along rows [] = []
events_along rows (revision ∷ more) = part_events rows revision ∷ events_along (with_events rows (part_events rows revision)) more

-- revisions whose events may follow each other, from above one on
abbrev pub AreGroups : ℕ → List (List EventRows) → Type 0
AreGroups last [] = Unit {0}
AreGroups last (events ∷ more) = (group : IsGroup last events) × AreGroups group.rev more

-- the ring has taken in these, one after the other
abbrev pub AreReplayed : RingData → List (List EventRows) → ℕ → RingData → Type 0
AreReplayed old [] time new = new ≡ old
AreReplayed old (events ∷ more) time new = (next : RingData) × IsPushed old events time next × AreReplayed next more time new

-- ---- a poll

-- The cache stands for this log up to its end, and what it is still fed, up to a revision of the log, are these.
pub record IsFedTo (log : Log) (cache : CacheData) (revisions : List RevisionData) (upto : ℕ) : Type 0 where
  pub fitting : AreFitting log
  pub begun : log.first ≤ cache.base
  pub built : cache.base ≤ cache.end
  pub onward : cache.end ≤ upto
  pub within : upto ≤ end_of log
  pub state : IsStateAt log cache.resource cache.end cache.rows
  pub ring : IsRingOf log cache.resource cache.base cache.end cache.ring
  pub left : revisions ≡ parts_between log cache.resource cache.end upto

-- from one cache to another it has taken in the first of these revisions, and told their events
pub record HasCome (log : Log) (old new : CacheData) (told fresh : List EventRows) (left : List RevisionData) (upto : ℕ) : Type 0 where
  pub fed : IsFedTo log new left upto
  pub onward : old.end ≤ new.end
  pub told_is : fresh ≡ told ++ held_events log old.resource old.end new.end

-- what no revision changes; the ring's floor may only rise
pub record Keeps (old new : CacheData) : Type 0 where
  pub stays : Stays old new
  pub base : new.base ≡ old.base
  pub floor : old.ring.floor ≤ new.ring.floor
