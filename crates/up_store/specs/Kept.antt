-- What a store keeps of its log: the rows of each resource at its compaction floor and at its end, and the revisions
-- with changes after the floor.
use Rattle.std.specs.Prelude.{◌≡◌, ℕ, suc, ◌+◌, ◌-◌, ◌^◌, ◌≤◌, nat_le, min, max, Bool, true, false, List, [], ◌∷◌, length, take, drop, map, filter, fold, Option, Some, None, if◌then◌else◌}
use Rattle.std.specs.List.{sum_by}
use Rattle.std.specs.VecDeque.{deque_len, deque_capacity}
use Rattle.kube_meta.specs.Rows.{RowData, AreRising, row_with}
use Rattle.kube_meta.specs.declared.objects.Obj.{Obj}
use Rattle.kube_meta.specs.declared.resources.Resource.{Resource}
use Rattle.kube_meta.specs.declared.resources.Resource.TheVariants.{Pods, ConfigMaps, Deployments}
use Rattle.rev_front.specs.Passes.{last_or}
use Rattle.rev_log.specs.Changes.{ChangeData, RevisionData}
use Rattle.rev_log.specs.Logs.{Log, end_of, between, AreNumbered}
use Rattle.rev_log.specs.States.{row_after, row_next, row_at}
use Rattle.up_store.specs.declared.kept.Kept.{Kept}
use Rattle.up_store.specs.declared.tables.Tables.{Tables}

-- the rows of one resource
abbrev pub rows_of : Tables → Resource → List RowData
rows_of tables Pods = tables.pods
rows_of tables ConfigMaps = tables.config_maps
rows_of tables Deployments = tables.deployments

-- the rows that stand at the keys, in the order of these
pub record AreStanding (rows : List RowData) (stands : List ℕ → Option RowData) : Type 0 where
  pub rising : AreRising rows
  pub reads : (key : List ℕ) → row_with rows key ≡ stands key

-- each resource's rows are these
abbrev pub HoldEach : Tables → (Resource → List ℕ → Option RowData) → Type 0
HoldEach tables stands = (resource : Resource) → AreStanding (rows_of tables resource) (stands resource)

-- rows in their order stay in it, and at each key stands what a step makes of the row that stood there
pub record AreStepped (old new : List RowData) (step : List ℕ → Option RowData → Option RowData) : Type 0 where
  pub rising : AreRising old → AreRising new
  pub reads : (key : List ℕ) → row_with new key ≡ step key (row_with old key)

-- each resource's rows have made this revision's changes
abbrev pub HaveMade : RevisionData → Tables → Tables → Type 0
HaveMade revision old new =
    (resource : Resource) → AreStepped (rows_of old resource) (rows_of new resource) (λ key row. row_next resource key row revision)

-- the rows of one resource have made the first of a revision's changes
abbrev pub ArePartlyMade : Resource → RevisionData → List RowData → List RowData → Type 0
ArePartlyMade resource revision old new =
    (n : ℕ) × AreStepped old new (λ key row. fold (row_after resource key revision.rev) row (take n revision.changes))

-- each resource's rows have made the first of this revision's changes
abbrev pub HaveBegun : RevisionData → Tables → Tables → Type 0
HaveBegun revision old new = (resource : Resource) → ArePartlyMade resource revision (rows_of old resource) (rows_of new resource)

-- where the revisions above `from` are made again upon the tables, the log's rows stand at each revision from `least` on
pub record Replay (log : Log) (from least : ℕ) (tables : Tables) : Type 0 where
  pub rising : (resource : Resource) → AreRising (rows_of tables resource)
  pub replays : (resource : Resource) (key : List ℕ) (at : ℕ) → least ≤ at → at ≤ end_of log →
      fold (row_next resource key) (row_with (rows_of tables resource) key) (between log from at) ≡ row_at log resource at key

-- there are any changes
abbrev pub are_any : List ChangeData → Bool
are_any [] = false
are_any (change ∷ more) = true

-- something changes at the revision
abbrev pub has_changes : RevisionData → Bool
has_changes revision = are_any revision.changes

-- those of the revisions at which something changes
abbrev pub with_changes : List RevisionData → List RevisionData
with_changes revisions = filter has_changes revisions

-- the revisions with changes above one number and up to another
abbrev pub changed : Log → ℕ → ℕ → List RevisionData
changed log from to = with_changes (between log from to)

-- the bytes of an object's text, without its revision
abbrev pub text_size : Option Obj → ℕ
text_size None = 0
text_size (Some obj) = length obj.front + length obj.back

-- the bytes that a revision carries: the texts of its new objects
abbrev pub carried : RevisionData → ℕ
carried revision = min (sum_by (λ change. text_size change.new) revision.changes) (2 ^ 64 - 1)

-- what is kept of a log with this floor
pub record Keeps (log : Log) (floor : ℕ) (kept : Kept) : Type 0 where
  pub numbered : AreNumbered log.first log.revisions
  pub ends : end_of log ≤ 2 ^ 62
  pub begun : log.first ≤ kept.from
  pub within : kept.from ≤ floor
  pub reached : floor ≤ end_of log
  pub end_is : kept.end ≡ end_of log
  pub revisions : kept.revisions.items ≡ changed log kept.from (end_of log)
  pub bytes : kept.bytes ≡ sum_by carried kept.revisions.items
  pub floor_rows : Replay log kept.from floor kept.floor_rows
  pub followed : kept.from ≤ kept.last_at
  pub behind : kept.last_at ≤ end_of log
  pub last_rows : Replay log kept.last_at (end_of log) kept.last_rows

-- the place among what is kept behind the revisions up to a number, and before those above it
pub record IsPlace (log : Log) (kept : Kept) (at n : ℕ) : Type 0 where
  pub below : take n kept.revisions.items ≡ changed log kept.from at
  pub above : drop n kept.revisions.items ≡ changed log at (end_of log)

-- of the revisions with changes the last one that has this many others behind it, or 0 where there is none: no more
-- than this many are above it
abbrev pub floor_behind : ℕ → List RevisionData → ℕ
floor_behind history revisions =
    let those : List RevisionData = with_changes revisions in
    last_or 0 (map (λ r. r.rev) (take (length those - history) those))

-- how many of the last revisions carry at most this many bytes together, or one where the last carries more
abbrev pub fitting : ℕ → List RevisionData → ℕ
fitting bytes [] = 0
fitting bytes (r ∷ rest) = if nat_le (sum_by carried (r ∷ rest)) bytes then suc (length rest) else max 1 (fitting bytes rest)

-- the same of the revisions with changes above it: they carry no more than this many bytes, but for the last one, which
-- stays whatever it carries
abbrev pub floor_within : ℕ → List RevisionData → ℕ
floor_within bytes revisions = floor_behind (fitting bytes (with_changes revisions)) revisions

-- there is room for this many more revisions
abbrev pub HasRoom : ℕ → Kept → Type 0
HasRoom count kept = deque_len kept.revisions + count ≤ deque_capacity kept.revisions
