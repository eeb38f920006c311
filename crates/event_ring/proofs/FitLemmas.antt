-- The fit of a ring's capacity, and rings without events.
use Rattle.std.proofs.Common.{◌≡◌, ℕ, zero, suc, ◌-◌, ◌*◌, ◌/◌, ◌<◌, ◌≤◌, min, max, Bool, true, false, not, cond, ltb, List, [], ◌∷◌, length, take, arith}
use Rattle.std.specs.Prelude.{◌&&◌, Some, None, slice_get}
use Rattle.std.proofs.lemmas.List.Elements.{All-nil}
use Rattle.event_ring.specs.Rings.{RingData, IsRing, fitted_capacity, room_for, is_aged, event_cmp, last_revision}
use Rattle.event_ring.specs.declared.stamped.Stamped.{Stamped}
use Rattle.event_ring.proofs.OrderLemmas.{sorted-none}

within_if : (b : Bool) (x y low high : ℕ) → (low ≤ x) × (x ≤ high) → (low ≤ y) × (y ≤ high) → (low ≤ cond b x y) × (cond b x y ≤ high)
within_if true x y low high first second = first
within_if false x y low high first second = second

-- the capacity that fits lies between the ring's two bounds
pub fitted_within : (ring : RingData) (now : ℕ) → IsRing ring → (ring.window ≤ fitted_capacity ring now) × (fitted_capacity ring now ≤ ring.window_max)
fitted_within ring now is =
    let c = ring.capacity in
    let low = is.least in
    let high = is.most in
    let now_is : (ring.window ≤ c) × (c ≤ ring.window_max) = (low, high) in
    let grown : (ring.window ≤ min (2 * c) ring.window_max) × (min (2 * c) ring.window_max ≤ ring.window_max) = (omega arith, omega arith) in
    let shrunk : (ring.window ≤ max (c / 2) ring.window) × (max (c / 2) ring.window ≤ ring.window_max) = (omega arith, omega arith) in
    let shrinks = ltb ring.window c && is_aged ring now (length ring.held - c / 2) in
    let grows = ltb c ring.window_max && not (is_aged ring now 0) in
    within_if (ltb (length ring.held) c) c (cond grows (min (2 * c) ring.window_max) (cond shrinks (max (c / 2) ring.window) c)) ring.window ring.window_max now_is
    (within_if grows (min (2 * c) ring.window_max) (cond shrinks (max (c / 2) ring.window) c) ring.window ring.window_max grown
    (within_if shrinks (max (c / 2) ring.window) c ring.window ring.window_max shrunk now_is))

-- a ring of another capacity between the bounds, with room for it
pub refitted : (ring : RingData) (capacity : ℕ) → IsRing ring → ring.window ≤ capacity → capacity ≤ ring.window_max → IsRing (record ring { capacity = capacity; room = max ring.room (room_for capacity) })
refitted ring capacity is low high = record {
  some = is.some;
  least = low;
  most = high;
  bounded = is.bounded;
  few = is.few;
  roomy = omega arith;
  sized = omega (arith, is.sized, high);
  rising = is.rising;
  above = is.above;
  whole = is.whole;
}

-- a ring without events
pub emptied : (window window_max fresh_ms capacity floor room : ℕ) → 1 ≤ window → window ≤ capacity → capacity ≤ window_max → window_max ≤ 102400 → room_for capacity ≤ room → room ≤ room_for window_max →
    IsRing (record { window = window; window_max = window_max; fresh_ms = fresh_ms; capacity = capacity; floor = floor; held = []; room = room })
emptied window window_max fresh_ms capacity floor room some least most bounded roomy sized = record {
  some = some;
  least = least;
  most = most;
  bounded = bounded;
  few = omega arith;
  roomy = roomy;
  sized = sized;
  rising = sorted-none event_cmp;
  above = All-nil (λ x. floor < x.event.rev);
  whole = λ rev. omega arith;
}

-- the last of the first events
pub last_taken : (floor : ℕ) (held : List Stamped) (i : ℕ) (x : Stamped) → slice_get held i ≡ Some x → last_revision floor (take (suc i) held) ≡ x.event.rev
last_taken floor [] i x e = absurd cc
last_taken floor (y ∷ held) zero x e = let same : y ≡ x = cc in λ j. (same j).event.rev
last_taken floor (y ∷ held) (suc i) x e = last_taken y.event.rev held i x e

-- no event stands at a place past the last one
pub none_inside : (held : List Stamped) (i : ℕ) → slice_get held i ≡ None → length held ≤ i
none_inside [] i e = omega arith
none_inside (x ∷ held) zero e = absurd cc
none_inside (x ∷ held) (suc i) e = omega (arith, none_inside held i e)
