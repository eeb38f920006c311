-- Where a push cuts a ring, and from where on it is lent.
use Rattle.std.proofs.Common.{◌≡◌, ℕ, suc, ◌+◌, ◌-◌, ◌<◌, ◌≤◌, inl, inr, Less, true, false, List, [], ◌∷◌, ◌++◌, length, get_or, take, drop, map, refl, sym, ap, ◌∙◌, subst, arith}
use Rattle.std.specs.Prelude.{All, Some, None, slice_get}
use Rattle.std.proofs.lemmas.Bool.{cases_lt, lt-ltb, le-ltb}
use Rattle.std.proofs.lemmas.List.{length-map, length-append, length-take, length-drop, get_or-take, get_or-drop, get_or_append_left, get_or-append_right, take-append-le, drop-append-le}
use Rattle.std.proofs.lemmas.List.Elements.{All-append, All-take, All-cons, All-nil}
use Rattle.std.proofs.lemmas.List.Sums.{length-filter}
use Rattle.std.proofs.lemmas.Option.{get_or_from_slice_get, slice_get_within}
use Rattle.std.specs.Cmp.Lexicographic.{slice_cmp}
use Rattle.std.specs.Ordering.{nat_cmp}
use Rattle.circular_buffer.specs.Buffer.{keep_last}
use Rattle.event_ring.specs.Events.{EventRows}
use Rattle.event_ring.specs.Rings.{RingData, IsRing, IsNext, IsPlaceAbove, NotFalling, events_of, later, count_above, stays, kept, dropped, last_revision, stamped, with_events, pushed, AreDropped}
use Rattle.event_ring.specs.declared.stamped.Stamped.{Stamped}
use Rattle.event_ring.proofs.FilterLemmas.{at_least, at_most, filter-from}
use Rattle.event_ring.proofs.FitLemmas.{none_inside}
use Rattle.event_ring.proofs.OrderLemmas.{sorted-one, sorted-two}
use Rattle.event_ring.proofs.PushLemmas.{is_above, bounded, not_after, not_before, new_at, all_not_falling, kept-drop, dropped-take, since-held}

place_take : (held : List Stamped) (at k : ℕ) → IsPlaceAbove held at k → All (λ x. x.event.rev ≤ at) (take k held)
place_take held at k place i d inside =
    let before : i < k = omega (arith, inside, length-take k held) in
    subst (λ x. x.event.rev ≤ at) (sym (get_or-take k held i d before)) (place.below i d before)

place_drop : (held : List Stamped) (at k : ℕ) → IsPlaceAbove held at k → All (λ x. at < x.event.rev) (drop k held)
place_drop held at k place i d inside =
    subst (λ x. at < x.event.rev) (sym (get_or-drop k held i d)) (place.above (k + i) d (omega arith) (omega (arith, inside, length-drop k held)))

-- the events from the place on are those above the revision
pub lent : (held : List Stamped) (at k : ℕ) → IsPlaceAbove held at k → events_of (drop k held) ≡ later at (events_of held)
lent held at k place =
    sym (since-held at held
    ∙ ap events_of (filter-from (is_above at) held k
    (λ i d inside. le-ltb at (get_or (take k held) i d).event.rev (place_take held at k place i d inside))
    (λ i d inside. lt-ltb at (get_or (drop k held) i d).event.rev (place_drop held at k place i d inside))))

-- ---- the cut before the revision of the event that `many` events end with

module _ (many : ℕ) (held : List Stamped) (excess k rev : ℕ) (some : 0 < many) (order : NotFalling held)
    (over : excess ≡ length held - many) (inside : excess < length held)
    (there : (d : Stamped) → (get_or held excess d).event.rev ≡ rev)
    (before : All (λ x. x.event.rev < rev) (take k held)) (after : All (λ x. rev ≤ x.event.rev) (drop k held)) where
  from_there : All (λ x. rev ≤ x.event.rev) (drop excess held)
  from_there j e in_drop =
      subst (λ x. rev ≤ x.event.rev) (sym (get_or-drop excess held j e))
      (not_before held excess (excess + j) e rev (omega arith) (omega (arith, in_drop, length-drop excess held)) order (omega (arith, there e)))

  upto_there : All (λ x. x.event.rev ≤ rev) (take (suc excess) held)
  upto_there j e in_take =
      let first : j < suc excess = omega (arith, in_take, length-take (suc excess) held) in
      subst (λ x. x.event.rev ≤ rev) (sym (get_or-take (suc excess) held j e first))
      (not_after held j excess e rev (omega (arith, first)) inside order (omega (arith, there e)))

  -- more than `many` events are held, where one is before
  over_many : (i : ℕ) (d : Stamped) → i < length (take k held) → 0 < excess
  over_many i d in_take = elim (cases_lt 0 excess) [
    | inl pos ↦ pos
    | inr none ↦
        let first : i < k = omega (arith, in_take, length-take k held) in
        let lower : (get_or held i d).event.rev < rev = subst (λ x. x.event.rev < rev) (get_or-take k held i d first) (before i d in_take) in
        let upper : rev ≤ (get_or held i d).event.rev = not_before held excess i d rev (omega (arith, none)) (omega (arith, in_take, length-take k held)) order (omega (arith, there d)) in
        absurd (omega (arith, lower, upper))
  ]

  pub cut_fails : All (λ x. stays many held x ≡ false) (take k held)
  cut_fails i d in_take =
      let x = get_or (take k held) i d in
      let lower = before i d in_take in
      let count = at_least (is_above x.event.rev) held excess (λ j e in_drop. lt-ltb x.event.rev (get_or (drop excess held) j e).event.rev (omega (arith, lower, from_there j e in_drop))) in
      le-ltb (count_above x.event.rev held) many (omega (arith, count, over, over_many i d in_take, length-filter (is_above x.event.rev) held))

  pub cut_passes : All (λ x. stays many held x ≡ true) (drop k held)
  cut_passes i d in_drop =
      let y = get_or (drop k held) i d in
      let upper = after i d in_drop in
      let count = at_most (is_above y.event.rev) held (suc excess) (omega (arith, inside)) (λ j e in_take. le-ltb y.event.rev (get_or (take (suc excess) held) j e).event.rev (omega (arith, upper, upto_there j e in_take))) in
      lt-ltb (count_above y.event.rev held) many (omega (arith, count, over, some, length-filter (is_above y.event.rev) held))

-- ---- what a push drops

parts : (ring : RingData) (events : List EventRows) (excess k rev : ℕ) → IsRing ring → (next : IsNext ring events) → k ≤ length ring.held →
    excess ≡ (length ring.held + length events) - ring.capacity →
    ((now : ℕ) (d : Stamped) → (get_or (with_events ring events now) excess d).event.rev ≡ rev) →
    All (λ x. x.event.rev < rev) (take k ring.held) → All (λ x. rev ≤ x.event.rev) (drop k ring.held) → rev ≤ next.rev →
    AreDropped ring events k
parts ring events excess k rev is next within over there before after new = record { within = within; dropped_are = λ now. (both now).0; kept_are = λ now. (both now).1 }
  where
    both : (now : ℕ) → (dropped ring.capacity (with_events ring events now) ≡ take k ring.held) × (kept ring.capacity (with_events ring events now) ≡ drop k ring.held ++ map (stamped now) events)
    both now =
        let all = with_events ring events now in
        let more = map (stamped now) events in
        let taken : take k all ≡ take k ring.held = take-append-le k ring.held more within in
        let rest : drop k all ≡ drop k ring.held ++ more = drop-append-le k ring.held more within in
        let long : length all ≡ length ring.held + length events = length-append ring.held more ∙ ap (λ n. length ring.held + n) (length-map events (stamped now)) in
        let some : 0 < ring.capacity = omega (arith, is.some, is.least) in
        let order = all_not_falling ring events now is next in
        let over_all : excess ≡ length all - ring.capacity = omega (arith, over, long) in
        let inside : excess < length all = omega (arith, over, long, some, next.some) in
        let before_all : All (λ x. x.event.rev < rev) (take k all) = subst (λ xs. All (λ x. x.event.rev < rev) xs) (sym taken) before in
        let after_more : All (λ x. rev ≤ x.event.rev) more = λ i d there. omega (arith, new, new_at ring events now next i d there) in
        let after_all : All (λ x. rev ≤ x.event.rev) (drop k all) = subst (λ xs. All (λ x. rev ≤ x.event.rev) xs) (sym rest) (All-append (λ x. rev ≤ x.event.rev) (drop k ring.held) more after after_more) in
        let fails = cut_fails ring.capacity all excess k rev some order over_all inside (there now) before_all after_all in
        let passes = cut_passes ring.capacity all excess k rev some order over_all inside (there now) before_all after_all in
        (dropped-take ring.capacity all k fails passes ∙ taken, kept-drop ring.capacity all k fails passes ∙ rest)

-- where that event is held
pub parts_at : (ring : RingData) (events : List EventRows) (excess k : ℕ) (x : Stamped) → IsRing ring → IsNext ring events →
    excess ≡ (length ring.held + length events) - ring.capacity → slice_get ring.held excess ≡ Some x → IsPlaceAbove ring.held (x.event.rev - 1) k → AreDropped ring events k
parts_at ring events excess k x is next over here place =
    let inside : excess < length ring.held = slice_get_within ring.held excess x here in
    let at : (d : Stamped) → get_or ring.held excess d ≡ x = λ d. get_or_from_slice_get ring.held excess x d here in
    let pos : 0 < x.event.rev = subst (λ y. 0 < y.event.rev) (at x) (omega (arith, is.above excess x inside)) in
    let below : x.event.rev < next.rev = subst (λ y. y.event.rev < next.rev) (at x) (next.above_held excess x inside) in
    parts ring events excess k x.event.rev is next place.within over
    (λ now d. ap (λ y. y.event.rev) (get_or_append_left ring.held (map (stamped now) events) d excess inside ∙ at d))
    (λ i d there. omega (arith, pos, place_take ring.held (x.event.rev - 1) k place i d there))
    (λ i d there. omega (arith, pos, place_drop ring.held (x.event.rev - 1) k place i d there))
    (omega (arith, below))

-- and where it is a new one
pub all_parts : (ring : RingData) (events : List EventRows) (excess : ℕ) → IsRing ring → IsNext ring events →
    excess ≡ (length ring.held + length events) - ring.capacity → slice_get ring.held excess ≡ None → AreDropped ring events (length ring.held)
all_parts ring events excess is next over past =
    let h = length ring.held in
    let outside : h ≤ excess = none_inside ring.held excess past in
    let short : excess < h + length events = omega (arith, over, is.some, is.least, next.some) in
    parts ring events excess h next.rev is next (omega arith) over
    (λ now d.
    let more = map (stamped now) events in
    let in_new : excess - h < length more = omega (arith, outside, short, length-map events (stamped now)) in
    ap (λ y. y.event.rev) (get_or-append_right ring.held more (length ring.held) excess d refl outside) ∙ new_at ring events now next (excess - h) d in_new)
    (All-take (λ x. x.event.rev < next.rev) h ring.held next.above_held)
    (λ i d there. absurd (omega (arith, there, length-drop h ring.held)))
    (omega arith)

-- ---- the ring after a push

pub pushed_is : (ring : RingData) (events : List EventRows) (now place floor : ℕ) (held : List Stamped) → AreDropped ring events place →
    floor ≡ last_revision ring.floor (take place ring.held) → held ≡ drop place ring.held ++ map (stamped now) events →
    pushed ring events now ≡ record ring { floor = floor; held = held }
pushed_is ring events now place floor held are floor_is held_is =
    let last : last_revision ring.floor (dropped ring.capacity (with_events ring events now)) ≡ floor = ap (last_revision ring.floor) (are.dropped_are now) ∙ sym floor_is in
    let all : kept ring.capacity (with_events ring events now) ≡ held = are.kept_are now ∙ sym held_is in
    λ i. record ring { floor = last i; held = all i }

-- there is room for the new events where there is for 63 more than the capacity
pub with_room : (ring : RingData) (events : List EventRows) (place room : ℕ) → IsRing ring → IsNext ring events → AreDropped ring events place → ring.capacity + 63 ≤ room →
    length (drop place ring.held) + length events ≤ room
with_room ring events place room is next are enough =
    let left = drop place ring.held in
    let long : length (kept ring.capacity (with_events ring events 0)) ≡ length left + length events =
    ap length (are.kept_are 0) ∙ length-append left (map (stamped 0) events) ∙ ap (λ n. length left + n) (length-map events (stamped 0)) in
    omega (arith, bounded ring events 0 is next, long, enough)

-- the last ones, by their number
pub keep_last-drop : (held : List Stamped) (place n : ℕ) → place ≤ length held → n ≡ length held - place → keep_last n held ≡ drop place held
keep_last-drop held place n within e = let same : length held - n ≡ place = omega (arith, within, e) in ap (λ k. drop k held) same

-- one event above the last one may be pushed
pub next_one : (ring : RingData) (event : EventRows) (last : ℕ) → ring.floor ≤ last → All (λ x. x.event.rev ≤ last) ring.held → last < event.rev → IsNext ring (event ∷ [])
next_one ring event last floor top above = record {
  rev = event.rev;
  some = omega arith;
  few = omega arith;
  numbered = All-cons (λ e. e.rev ≡ event.rev) event [] refl (All-nil (λ e. e.rev ≡ event.rev));
  rising = sorted-one (slice_cmp nat_cmp) event.key;
  above_floor = omega (arith, floor, above);
  above_held = λ i d inside. omega (arith, top i d inside, above);
}

-- and so may two of one revision whose keys rise
pub next_two : (ring : RingData) (a b : EventRows) (last : ℕ) → ring.floor ≤ last → All (λ x. x.event.rev ≤ last) ring.held → last < a.rev → b.rev ≡ a.rev
    → slice_cmp nat_cmp a.key b.key ≡ Less → IsNext ring (a ∷ b ∷ [])
next_two ring a b last floor top above same less = record {
  rev = a.rev;
  some = omega arith;
  few = omega arith;
  numbered = All-cons (λ e. e.rev ≡ a.rev) a (b ∷ []) refl (All-cons (λ e. e.rev ≡ a.rev) b [] same (All-nil (λ e. e.rev ≡ a.rev)));
  rising = sorted-two (slice_cmp nat_cmp) a.key b.key less;
  above_floor = omega (arith, floor, above);
  above_held = λ i d inside. omega (arith, top i d inside, above);
}
