-- What the replay of a history leaves.
use Rattle.std.proofs.Common.{◌≡◌, ℕ, ◌≤◌, inl, inr, List, [], ◌∷◌, map, sym, ap, ◌∙◌, subst, arith}
use Rattle.kube_meta.specs.declared.resources.Resource.{Resource}
use Rattle.kube_meta.specs.Rows.{RowData}
use Rattle.rev_log.specs.Changes.{RevisionData}
use Rattle.rev_log.specs.Logs.{Log, end_of}
use Rattle.rev_log.specs.States.{IsStateAt}
use Rattle.rev_log.proofs.FitLemmas.{numbered}
use Rattle.select_all.specs.Floors.{IsFloorOk}
use Rattle.select_all.proofs.FloorSteps.{floors_begin}
use Rattle.select_all.proofs.StreamLaws.{no_events}
use Rattle.event_ring.specs.Events.{EventRows}
use Rattle.event_ring.specs.Rings.{RingData, events_of}
use Rattle.up_api.specs.Feeds.{HistoryData, parts_between}
use Rattle.cache_core.specs.Caches.{CacheData, AreFitting, IsRingOf, IsCacheOf, held_event, log_at}
use Rattle.cache_core.specs.Feeding.{IsHistoryOf}
use Rattle.cache_core.specs.Steps.{part_events, with_events, IsPushed, rows_along, events_along, AreGroups, AreReplayed, IsFedTo}
use Rattle.cache_core.proofs.HeadLemmas.{IsNextPart, next_part, next_state}
use Rattle.cache_core.proofs.RingLemmas.{ring_goes_on}
use Rattle.cache_core.proofs.FeedLemmas.{group_of, come_to, is_cache}

-- a cache that is made of these
abbrev pub cache_made : Resource → ℕ → ℕ → ℕ → List RowData → RingData → CacheData
cache_made resource base end time rows ring = record { resource = resource; base = base; end = end; time = time; rows = rows; ring = ring }

module _ (log : Log) (resource : Resource) (base to time : ℕ) (fit : AreFitting log) (begun : log.first ≤ base) (within : to ≤ end_of log) where
  next_at : (e : ℕ) (part : RevisionData) (rest : List RevisionData) → base ≤ e → e ≤ to → part ∷ rest ≡ parts_between log resource e to → IsNextPart log resource e to part rest
  next_at e part rest from le left = next_part log resource e to fit (omega (arith, begun, from)) le within part rest (sym left)

  pub groups_along : (revisions : List RevisionData) (e : ℕ) (rows : List RowData) → base ≤ e → e ≤ to → revisions ≡ parts_between log resource e to → AreGroups e (events_along rows revisions)
  unfolding group_of
  groups_along [] e rows from le left = tt
  groups_along (part ∷ rest) e rows from le left =
      let next = next_at e part rest from le left in
      (group_of resource rows e part next.above next.is next.of next.some, groups_along rest part.rev (with_events rows (part_events rows part)) (omega (arith, from, next.above)) next.within next.rest_are)

  -- the rows and the ring after all of the history
  pub replayed : (revisions : List RevisionData) (e : ℕ) (rows : List RowData) (ring new : RingData) → base ≤ e → e ≤ to → IsStateAt log resource e rows → IsRingOf log resource base e ring →
      revisions ≡ parts_between log resource e to → AreReplayed ring (events_along rows revisions) time new →
      IsFedTo log (cache_made resource base to time (rows_along rows revisions) new) [] to
  replayed [] e rows ring new from le state is left same =
      let fed : IsFedTo log (cache_made resource base e time rows new) [] to = record {
        fitting = fit;
        begun = begun;
        built = from;
        onward = le;
        within = within;
        state = state;
        ring = subst (IsRingOf log resource base e) (sym same) is;
        left = left;
      } in
      (come_to log (cache_made resource base e time rows new) to fed).0
  replayed (part ∷ rest) e rows ring new from le state is left replay =
      let next = next_at e part rest from le left in
      replayed rest part.rev (with_events rows (part_events rows part)) replay.0 new (omega (arith, from, next.above)) next.within
      (next_state log resource e to part rest rows state next)
      (ring_goes_on log resource base e part.rev time ring replay.0 (part_events rows part) (numbered log.first log.revisions fit).0 from (omega (arith, next.above)) is
      (group_of resource rows e part next.above next.is next.of next.some) (next.events_are rows state.exact) replay.1)
      next.rest_are replay.2

-- what a ring without events is of a log at its floor
empty_ring : (log : Log) (resource : Resource) (floor : ℕ) (ring : RingData) → ring.held ≡ [] → ring.floor ≡ floor → IsRingOf log resource floor floor ring
empty_ring log resource floor ring none at = record {
  floor = subst (λ f. IsFloorOk log resource ring.window ring.window_max floor floor f) (sym at) (floors_begin log resource ring.window ring.window_max floor floor (omega arith));
  events_are = ap events_of none ∙ sym (ap (map held_event) (no_events log resource ring.floor floor (omega (arith, at))));
}

pub history_groups : (log : Log) (resource : Resource) (history : HistoryData) → IsHistoryOf log resource history → AreGroups history.floor (events_along history.rows history.revisions)
history_groups log resource history of =
    groups_along log resource history.floor history.upto 0 of.fitting of.is.begun of.is.within history.revisions history.floor history.rows (omega arith) of.is.ordered of.is.parts

pub history_cache : (log : Log) (resource : Resource) (history : HistoryData) (time : ℕ) (rows : List RowData) (ring new : RingData) → IsHistoryOf log resource history →
    rows ≡ rows_along history.rows history.revisions → ring.held ≡ [] → ring.floor ≡ history.floor → AreReplayed ring (events_along history.rows history.revisions) time new →
    IsCacheOf (log_at log history.upto) (cache_made resource history.floor history.upto time rows new)
history_cache log resource history time rows ring new of are none at replay =
    let fed = replayed log resource history.floor history.upto time of.fitting of.is.begun of.is.within history.revisions history.floor history.rows ring new (omega arith) of.is.ordered of.is.state
    (empty_ring log resource history.floor ring none at) of.is.parts replay in
    subst (λ r. IsCacheOf (log_at log history.upto) (cache_made resource history.floor history.upto time r new)) (sym are)
    (is_cache log (cache_made resource history.floor history.upto time (rows_along history.rows history.revisions) new) [] history.upto fed)

-- a replay leaves the bounds of the ring
pub record SameBounds (old new : RingData) : Type 0 where
  pub window : new.window ≡ old.window
  pub window_max : new.window_max ≡ old.window_max
  pub fresh_ms : new.fresh_ms ≡ old.fresh_ms

pub pushed_bounds : (old new : RingData) (group : List EventRows) (time : ℕ) → IsPushed old group time new → SameBounds old new
pushed_bounds old new group time push = elim push.fits [
  | inl same ↦ record {
    window = ap (λ r. r.window) push.pushed_is ∙ ap (λ r. r.window) same;
    window_max = ap (λ r. r.window_max) push.pushed_is ∙ ap (λ r. r.window_max) same;
    fresh_ms = ap (λ r. r.fresh_ms) push.pushed_is ∙ ap (λ r. r.fresh_ms) same;
  }
  | inr fit ↦ record {
    window = ap (λ r. r.window) push.pushed_is ∙ ap (λ r. r.window) fit;
    window_max = ap (λ r. r.window_max) push.pushed_is ∙ ap (λ r. r.window_max) fit;
    fresh_ms = ap (λ r. r.fresh_ms) push.pushed_is ∙ ap (λ r. r.fresh_ms) fit;
  }
]

pub replay_bounds : (old new : RingData) (groups : List (List EventRows)) (time : ℕ) → AreReplayed old groups time new → SameBounds old new
replay_bounds old new [] time same = record { window = ap (λ r. r.window) same; window_max = ap (λ r. r.window_max) same; fresh_ms = ap (λ r. r.fresh_ms) same }
replay_bounds old new (group ∷ groups) time replay =
    let first = pushed_bounds old replay.0 group time replay.1 in
    let rest = replay_bounds replay.0 new groups time replay.2 in
    record { window = rest.window ∙ first.window; window_max = rest.window_max ∙ first.window_max; fresh_ms = rest.fresh_ms ∙ first.fresh_ms }

-- ---- what the code has made of a history, part by part

pub groups_found : (log : Log) (resource : Resource) (history : HistoryData) (floor : ℕ) (tree : List RowData) (slice : List RevisionData) (groups : List (List EventRows)) → IsHistoryOf log resource history →
    history.floor ≡ floor → history.rows ≡ tree → history.revisions ≡ slice → groups ≡ events_along tree slice → AreGroups floor groups
groups_found log resource history floor tree slice groups of floor_is rows_are revisions_are are =
    let whole : AreGroups floor (events_along history.rows history.revisions) = subst (λ f. AreGroups f (events_along history.rows history.revisions)) floor_is (history_groups log resource history of) in
    let same : events_along history.rows history.revisions ≡ groups = ap (λ rows. events_along rows history.revisions) rows_are ∙ ap (events_along tree) revisions_are ∙ sym are in
    subst (AreGroups floor) same whole

pub cache_found : (log : Log) (resource : Resource) (history : HistoryData) (floor upto time : ℕ) (tree rows : List RowData) (slice : List RevisionData) (groups : List (List EventRows)) (ring new : RingData) → IsHistoryOf log resource history →
    history.floor ≡ floor → history.upto ≡ upto → history.rows ≡ tree → history.revisions ≡ slice → rows ≡ rows_along tree slice → groups ≡ events_along tree slice → ring.held ≡ [] → ring.floor ≡ floor → AreReplayed ring groups time new →
    IsCacheOf (log_at log history.upto) (cache_made resource floor upto time rows new)
cache_found log resource history floor upto time tree rows slice groups ring new of floor_is upto_is rows_are revisions_are made are none at replay =
    let along : rows ≡ rows_along history.rows history.revisions = made ∙ ap (λ r. rows_along r slice) (sym rows_are) ∙ ap (rows_along history.rows) (sym revisions_are) in
    let same : groups ≡ events_along history.rows history.revisions = are ∙ ap (λ r. events_along r slice) (sym rows_are) ∙ ap (events_along history.rows) (sym revisions_are) in
    let whole = history_cache log resource history time rows ring new of along none (at ∙ sym floor_is) (subst (λ g. AreReplayed ring g time new) same replay) in
    subst (λ (f : ℕ). IsCacheOf (log_at log history.upto) (cache_made resource f upto time rows new)) floor_is
    (subst (λ (u : ℕ). IsCacheOf (log_at log history.upto) (cache_made resource history.floor u time rows new)) upto_is whole)
