-- What undoing a ring's events leaves, and what a ring lends.
use Rattle.std.proofs.Common.{◌≡◌, ℕ, zero, suc, ◌+◌, ◌-◌, ◌<◌, ◌≤◌, Bool, true, false, cond, List, [], ◌∷◌, length, drop, map, ltb, Option, Some, None, Result, Ok, Err, IfOk, OnOk, bytes_eq, refl, sym, ap, ◌∙◌, subst, arith}
use Rattle.std.specs.Prelude.{IfSome}
use Rattle.std.specs.List.{slice_get}
use Rattle.std.proofs.lemmas.Bool.{cases_Bool}
use Rattle.std.proofs.Common.{inl, inr}
use Rattle.kube_meta.specs.Rows.{RowData, AreRising, key_of, row_with}
use Rattle.rev_log.specs.Logs.{Log}
use Rattle.rev_log.specs.States.{IsStateAt}
use Rattle.rev_log.proofs.FitLemmas.{numbered}
use Rattle.select_all.specs.EventLaws.{row_undone}
use Rattle.select_all.specs.Streams.{EventData, events}
use Rattle.select_all.proofs.EventLaws.{are_above, undo}
use Rattle.event_ring.specs.Events.{EventRows}
use Rattle.event_ring.specs.Rings.{RingData, since, later}
use Rattle.event_ring.proofs.FilterLemmas.{filter-map}
use Rattle.cache_core.specs.Caches.{CacheData, IsCacheOf, held_event, held_events}
use Rattle.cache_core.specs.Steps.{row_written, row_before}
use Rattle.cache_core.proofs.RowLemmas.{written}

-- ---- what is lent

pub lent : (cache : CacheData) (at : ℕ) (log : Log) → IsCacheOf log cache → cache.ring.floor ≤ at → since cache.ring at ≡ held_events log cache.resource at cache.end
lent cache at log is le =
    ap (later at) is.ring.events_are
    ∙ filter-map (λ (e : EventRows). ltb at e.rev) held_event (events log cache.resource cache.ring.floor cache.end)
    ∙ ap (map held_event) (are_above log cache.resource cache.ring.floor at cache.end (numbered log.first log.revisions is.fitting).0 le)

pub lent_if : {E : Type 0} (r : Result (List EventRows) E) (cache : CacheData) (ring : RingData) (at : ℕ) → cache.ring ≡ ring → IfOk r (λ span. span ≡ since ring at) → OnOk r (ring.floor ≤ at) →
    IfOk r (λ span. (log : Log) → IsCacheOf log cache → span ≡ held_events log cache.resource at cache.end)
lent_if (Err e) cache ring at same is le = tt
lent_if (Ok span) cache ring at same is le =
    λ log of. is ∙ ap (λ r. since r at) (sym same) ∙ lent cache at log of (subst (λ (r : RingData). r.floor ≤ at) (sym same) le)

-- ---- one event

drop_at : (span : List EventRows) (at : ℕ) (event : EventRows) → slice_get span at ≡ Some event → drop at span ≡ event ∷ drop (suc at) span
drop_at [] at event found = absurd (cc)
drop_at (e ∷ span) zero event found = let same : e ≡ event = cc in ap (λ x. x ∷ span) same
drop_at (e ∷ span) (suc at) event found = drop_at span at event found

pub undone : (old new : List RowData) (span : List EventRows) (at : ℕ) (event : EventRows) → slice_get span at ≡ Some event → IfSome event.before (λ row. key_of row ≡ event.key) →
    new ≡ row_written old event.key event.before → (key : List ℕ) (row : Option RowData) → row_with old key ≡ row_before (drop (at + 1) span) key row → row_with new key ≡ row_before (drop at span) key row
undone old new span at event found keyed is key row before =
    let one : drop at span ≡ event ∷ drop (at + 1) span = drop_at span at event found ∙ ap (λ n. event ∷ drop n span) {x = suc at} {y = at + 1} (omega arith) in
    let whole : row_with new key ≡ cond (bytes_eq event.key key) event.before (row_with old key) = ap (λ rows. row_with rows key) is ∙ written old event.key event.before key keyed in
    whole ∙ ap (cond (bytes_eq event.key key) event.before) before ∙ by (bytes_eq event.key key) refl ∙ ap (λ es. row_before es key row) (sym one)
  where
    by : (b : Bool) → bytes_eq event.key key ≡ b → cond (bytes_eq event.key key) event.before (row_before (drop (at + 1) span) key row) ≡ row_before (event ∷ drop (at + 1) span) key row
    by true same = rw same refl
    by false other = rw other refl

-- an event that isn't there is none to undo
pub none_there : (span : List EventRows) (at : ℕ) → at < length span → slice_get span at ≡ None → ⊥
none_there [] at inside none = absurd (omega (arith, inside))
none_there (e ∷ span) zero inside none = absurd (cc)
none_there (e ∷ span) (suc at) inside none = none_there span at (omega (arith, inside)) none

-- ---- the whole

held_undone : (es : List EventData) (key : List ℕ) (row : Option RowData) → row_before (map held_event es) key row ≡ row_undone es key row
held_undone [] key row = refl
held_undone (e ∷ es) key row = elim (cases_Bool (bytes_eq e.key key)) [
  | inl same ↦ rw same refl
  | inr other ↦ rw other (held_undone es key row)
]

pub state_at : (cache : CacheData) (at : ℕ) (span : List EventRows) (tree : List RowData) → at ≤ cache.end → cache.ring.floor ≤ at → span ≡ since cache.ring at →
    ((key : List ℕ) → row_with tree key ≡ row_before span key (row_with cache.rows key)) → AreRising tree → (log : Log) → IsCacheOf log cache → IsStateAt log cache.resource at tree
state_at cache at span tree le floor_le is undone rising log of = record {
  rising = rising;
  exact = λ key.
      undone key
      ∙ ap (λ es. row_before es key (row_with cache.rows key)) (is ∙ lent cache at log of floor_le)
      ∙ held_undone (events log cache.resource at cache.end) key (row_with cache.rows key)
      ∙ ap (row_undone (events log cache.resource at cache.end) key) (of.state.exact key)
      ∙ sym (undo log cache.resource at cache.end key le);
}

-- what the code has found of it, part by part
pub at_found : (cache : CacheData) (ring : RingData) (rows copy span_tree : List RowData) (span : List EventRows) (snapshot : List RowData) (at : ℕ) → cache.ring ≡ ring → cache.rows ≡ rows → copy ≡ rows → span ≡ since ring at → ring.floor ≤ at →
    ((key : List ℕ) → row_with span_tree key ≡ row_before span key (row_with copy key)) → AreRising span_tree → snapshot ≡ span_tree → at ≤ cache.end → (log : Log) → IsCacheOf log cache → IsStateAt log cache.resource at snapshot
at_found cache ring rows copy span_tree span snapshot at ring_is rows_are copied is floor_le undone rising same le log of =
    let floor_now : cache.ring.floor ≤ at = subst (λ (r : RingData). r.floor ≤ at) (sym ring_is) floor_le in
    let lent_now : span ≡ since cache.ring at = is ∙ ap (λ r. since r at) (sym ring_is) in
    let from : copy ≡ cache.rows = copied ∙ sym rows_are in
    subst (IsStateAt log cache.resource at) (sym same)
    (state_at cache at span span_tree le floor_now lent_now (λ key. undone key ∙ ap (λ r. row_before span key (row_with r key)) from) rising log of)
