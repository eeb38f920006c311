-- What a replay at one time leaves of a ring's capacity and of the times of its events.
use Rattle.std.proofs.Common.{◌≡◌, ℕ, zero, suc, ◌-◌, ◌*◌, ◌/◌, ◌≤◌, inl, inr, Bool, true, false, cond, ltb, leb, not, ◌&&◌, min, max, List, [], ◌∷◌, length, map, Option, Some, None, refl, sym, ap, ◌∙◌, subst, arith}
use Rattle.std.specs.Prelude.{All}
use Rattle.std.specs.List.{slice_get}
use Rattle.std.specs.Option.{option_map_or}
use Rattle.std.proofs.lemmas.Bool.{cases_lt, lt-ltb, le-ltb, lt-leb}
use Rattle.std.proofs.lemmas.List.Elements.{All-cons, All-nil, All-head, All-tail, All-append, All-filter}
use Rattle.event_ring.specs.Events.{EventRows}
use Rattle.event_ring.specs.Rings.{RingData, stays, stamped, with_events, fitted, fitted_capacity, is_aged}
use Rattle.event_ring.specs.declared.stamped.Stamped.{Stamped}
use Rattle.cache_core.specs.Steps.{IsPushed, AreReplayed}

-- each event was pushed at this time
abbrev pub AreOf : ℕ → List Stamped → Type 0
AreOf time held = All (λ x. x.stamp ≡ time) held

-- an event of the present time is fresh
not_aged : (ring : RingData) (time place : ℕ) → 1 ≤ ring.fresh_ms → AreOf time ring.held → is_aged ring time place ≡ false
not_aged ring time place fresh all = by (slice_get ring.held place) refl
  where
    got : (held : List Stamped) (i : ℕ) (x : Stamped) → AreOf time held → slice_get held i ≡ Some x → x.stamp ≡ time
    got [] i x all found = absurd (cc)
    got (y ∷ held) zero x all found = let same : y ≡ x = cc in subst (λ (z : Stamped). z.stamp ≡ time) same (All-head (λ (z : Stamped). z.stamp ≡ time) y held all)
    got (y ∷ held) (suc i) x all found = got held i x (All-tail (λ (z : Stamped). z.stamp ≡ time) y held all) found

    by : (o : Option Stamped) → slice_get ring.held place ≡ o → option_map_or (λ x. leb ring.fresh_ms (time - x.stamp)) o false ≡ false
    by None found = refl
    by (Some x) found = lt-leb ring.fresh_ms (time - x.stamp) (omega (arith, fresh, got ring.held place x all found))

-- so a fit makes the capacity no smaller
fit_grows : (ring : RingData) (time : ℕ) → 1 ≤ ring.fresh_ms → AreOf time ring.held → ring.capacity ≤ fitted_capacity ring time
fit_grows ring time fresh all =
    subst (λ (old : Bool). ring.capacity ≤ cond (ltb (length ring.held) ring.capacity) ring.capacity (cond (ltb ring.capacity ring.window_max && not old) (min (2 * ring.capacity) ring.window_max)
    (cond (ltb ring.window ring.capacity && is_aged ring time (length ring.held - ring.capacity / 2)) (max (ring.capacity / 2) ring.window) ring.capacity))) (sym (not_aged ring time 0 fresh all))
    (subst (λ (old : Bool). ring.capacity ≤ cond (ltb (length ring.held) ring.capacity) ring.capacity (cond (ltb ring.capacity ring.window_max && not false) (min (2 * ring.capacity) ring.window_max)
    (cond (ltb ring.window ring.capacity && old) (max (ring.capacity / 2) ring.window) ring.capacity))) (sym (not_aged ring time (length ring.held - ring.capacity / 2) fresh all))
    (elim (cases_lt ring.capacity ring.window_max) [
      | inl less ↦ subst (λ (b : Bool). ring.capacity ≤ cond (ltb (length ring.held) ring.capacity) ring.capacity (cond (b && not false) (min (2 * ring.capacity) ring.window_max)
          (cond (ltb ring.window ring.capacity && false) (max (ring.capacity / 2) ring.window) ring.capacity))) (sym (lt-ltb ring.capacity ring.window_max less))
          (at_least (ltb (length ring.held) ring.capacity) (ltb ring.window ring.capacity) ring.capacity (min (2 * ring.capacity) ring.window_max) (max (ring.capacity / 2) ring.window) (omega (arith, less)))
      | inr most ↦ subst (λ (b : Bool). ring.capacity ≤ cond (ltb (length ring.held) ring.capacity) ring.capacity (cond (b && not false) (min (2 * ring.capacity) ring.window_max)
          (cond (ltb ring.window ring.capacity && false) (max (ring.capacity / 2) ring.window) ring.capacity))) (sym (le-ltb ring.capacity ring.window_max most))
          (at_most (ltb (length ring.held) ring.capacity) (ltb ring.window ring.capacity) ring.capacity (max (ring.capacity / 2) ring.window))
    ]))
  where
    at_most : (full less : Bool) (capacity half : ℕ) → capacity ≤ cond full capacity (cond (less && false) half capacity)
    at_most true less capacity half = omega arith
    at_most false true capacity half = omega arith
    at_most false false capacity half = omega arith

    at_least : (full less : Bool) (capacity twice half : ℕ) → capacity ≤ twice → capacity ≤ cond full capacity twice
    at_least true less capacity twice half le = omega arith
    at_least false less capacity twice half le = le

all_stamped : (time : ℕ) (group : List EventRows) → AreOf time (map (stamped time) group)
all_stamped time [] = All-nil (λ (x : Stamped). x.stamp ≡ time)
all_stamped time (e ∷ group) = All-cons (λ (x : Stamped). x.stamp ≡ time) (stamped time e) (map (stamped time) group) refl (all_stamped time group)

-- what a push at that time leaves
pub record Steady (old new : RingData) (time : ℕ) : Type 0 where
  pub capacity : old.capacity ≤ new.capacity
  pub fresh_ms : new.fresh_ms ≡ old.fresh_ms
  pub times : AreOf time new.held

push_steady : (old new : RingData) (group : List EventRows) (time : ℕ) → 1 ≤ old.fresh_ms → AreOf time old.held → IsPushed old group time new → Steady old new time
push_steady old new group time fresh all push =
    let ready : Steady old push.ready time = elim push.fits [
      | inl same ↦ subst (λ (r : RingData). Steady old r time) (sym same) (as_it_was)
      | inr fit ↦ subst (λ (r : RingData). Steady old r time) (sym fit) (as_it_fits)
    ] in
    subst (λ (r : RingData). Steady old r time) (sym push.pushed_is) (record {
      capacity = ready.capacity;
      fresh_ms = ready.fresh_ms;
      times = All-filter (stays push.ready.capacity (with_events push.ready group time)) (λ (x : Stamped). x.stamp ≡ time) (with_events push.ready group time)
          (All-append (λ (x : Stamped). x.stamp ≡ time) push.ready.held (map (stamped time) group) ready.times (all_stamped time group));
    })
  where
    as_it_was : Steady old old time
    as_it_was = record { capacity = omega arith; fresh_ms = refl; times = all }

    as_it_fits : Steady old (fitted old time) time
    as_it_fits = record { capacity = fit_grows old time fresh all; fresh_ms = refl; times = all }

pub replay_steady : (old new : RingData) (groups : List (List EventRows)) (time : ℕ) → 1 ≤ old.fresh_ms → AreOf time old.held → AreReplayed old groups time new → Steady old new time
replay_steady old new [] time fresh all same = subst (λ (r : RingData). Steady old r time) (sym same) (record { capacity = omega arith; fresh_ms = refl; times = all })
replay_steady old new (group ∷ groups) time fresh all replay =
    let first = push_steady old replay.0 group time fresh all replay.1 in
    let rest = replay_steady replay.0 new groups time (omega (arith, fresh, first.fresh_ms)) first.times replay.2 in
    record { capacity = omega (arith, first.capacity, rest.capacity); fresh_ms = rest.fresh_ms ∙ first.fresh_ms; times = rest.times }

-- a ring that was emptied, and then took in a history
steady_rebuilt : (own inside emptied new : RingData) (groups : List (List EventRows)) (time : ℕ) → inside ≡ own → emptied.capacity ≡ inside.capacity → emptied.fresh_ms ≡ inside.fresh_ms → emptied.held ≡ [] → 1 ≤ own.fresh_ms →
    AreReplayed emptied groups time new → Steady emptied new time
steady_rebuilt own inside emptied new groups time is capacity fresh_ms none fresh replay =
    replay_steady emptied new groups time (omega (arith, fresh, fresh_ms, ap (λ (r : RingData). r.fresh_ms) is)) (subst (AreOf time) (sym none) (All-nil (λ (x : Stamped). x.stamp ≡ time))) replay

pub rebuilt_capacity : (own inside emptied new : RingData) (groups : List (List EventRows)) (time : ℕ) → inside ≡ own → emptied.capacity ≡ inside.capacity → emptied.fresh_ms ≡ inside.fresh_ms → emptied.held ≡ [] → 1 ≤ own.fresh_ms →
    AreReplayed emptied groups time new → own.capacity ≤ new.capacity
rebuilt_capacity own inside emptied new groups time is capacity fresh_ms none fresh replay =
    omega (arith, capacity, ap (λ (r : RingData). r.capacity) is, (steady_rebuilt own inside emptied new groups time is capacity fresh_ms none fresh replay).capacity)

pub rebuilt_times : (own inside emptied new : RingData) (groups : List (List EventRows)) (time : ℕ) → inside ≡ own → emptied.capacity ≡ inside.capacity → emptied.fresh_ms ≡ inside.fresh_ms → emptied.held ≡ [] → 1 ≤ own.fresh_ms →
    AreReplayed emptied groups time new → AreOf time new.held
rebuilt_times own inside emptied new groups time is capacity fresh_ms none fresh replay = (steady_rebuilt own inside emptied new groups time is capacity fresh_ms none fresh replay).times
