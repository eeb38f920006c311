-- What a push makes of a ring that has the last events of a log.
use Rattle.std.proofs.Common.{◌≡◌, ℕ, zero, suc, ◌-◌, ◌<◌, ◌≤◌, ◌⊎◌, inl, inr, Bool, false, not, ltb, List, [], ◌∷◌, ◌++◌, length, get_or, filter, map, refl, sym, ap, ◌∙◌, subst, arith}
use Rattle.std.specs.Prelude.{All}
use Rattle.std.specs.List.{AllByRecursion}
use Rattle.std.proofs.lemmas.Bool.{cases_lt, lt-ltb, le-ltb, ltb-true, ltb-false}
use Rattle.std.proofs.lemmas.List.{length-map, map-append}
use Rattle.std.proofs.lemmas.List.Elements.{All-cons, All-nil, All-head, All-tail, All-append, All-filter, filter-append}
use Rattle.std.proofs.lemmas.List.Sums.{length-filter}
use Rattle.kube_meta.specs.declared.resources.Resource.{Resource}
use Rattle.rev_log.specs.Logs.{Log, AreNumbered}
use Rattle.select_all.specs.Floors.{changes_between, IsPassed, IsFloorOk, IsRingFloor}
use Rattle.select_all.specs.Streams.{EventData, events}
use Rattle.select_all.proofs.EventLaws.{are_above, are_counted, are_within}
use Rattle.select_all.proofs.FloorSteps.{counts_join, floors_go_on}
use Rattle.select_all.proofs.StreamLaws.{events_join}
use Rattle.event_ring.specs.Events.{EventRows}
use Rattle.event_ring.specs.Rings.{RingData, IsRing, IsNext, events_of, later, count_above, stays, dropped, last_revision, stamped, with_events, pushed, fitted}
use Rattle.event_ring.specs.declared.stamped.Stamped.{Stamped}
use Rattle.event_ring.proofs.FilterLemmas.{filter-yes, filter-no, filter-from, filter-map, either}
use Rattle.event_ring.proofs.PushLemmas.{is_above, events_of-with, all_not_falling, count_falls, all_stay, none_stay, last_from, keep_rings, lose_nothing, since-held}
use Rattle.cache_core.specs.Caches.{held_event, held_events, IsRingOf}
use Rattle.cache_core.specs.Steps.{IsPushed, IsGroup, IsUpTo}

-- ---- counts

count_is : (v : ℕ) (held : List Stamped) → count_above v held ≡ length (later v (events_of held))
count_is v held =
    sym (length-filter (is_above v) held) ∙ sym (length-map (filter (is_above v) held) (λ x. x.event)) ∙ ap length (sym (since-held v held))

-- an event is above the revision before its own
counted : (held : List Stamped) (i : ℕ) (d : Stamped) → i < length held → 0 < (get_or held i d).event.rev →
    count_above (get_or held i d).event.rev held < count_above ((get_or held i d).event.rev - 1) held
counted [] i d inside some = absurd (omega arith)
counted (x ∷ held) zero d inside some =
    let v = x.event.rev in
    let here = ap length (filter-no (is_above v) x held (le-ltb v v (omega arith))) in
    let there = ap length (filter-yes (is_above (v - 1)) x held (lt-ltb (v - 1) v (omega (arith, some)))) in
    omega (arith, here, there, count_falls (v - 1) v held (omega arith), length-filter (is_above v) (x ∷ held), length-filter (is_above (v - 1)) (x ∷ held), length-filter (is_above v) held, length-filter (is_above (v - 1)) held)
counted (x ∷ held) (suc i) d inside some =
    let v = (get_or held i d).event.rev in
    let rest = counted held i d (omega (arith, inside)) some in
    let all = length-filter (is_above v) (x ∷ held) in
    let all_more = length-filter (is_above (v - 1)) (x ∷ held) in
    let few = length-filter (is_above v) held in
    let few_more = length-filter (is_above (v - 1)) held in
    elim (cases_lt v x.event.rev) [
      | inl above ↦
          omega (arith, rest, all, all_more, few, few_more, ap length (filter-yes (is_above v) x held (lt-ltb v x.event.rev above)), ap length (filter-yes (is_above (v - 1)) x held (lt-ltb (v - 1) x.event.rev (omega (arith, above)))))
      | inr below ↦ elim (either (is_above (v - 1) x)) [
        | inl over ↦ omega (arith, rest, all, all_more, few, few_more, ap length (filter-no (is_above v) x held (le-ltb v x.event.rev below)), ap length (filter-yes (is_above (v - 1)) x held over))
        | inr under ↦ omega (arith, rest, all, all_more, few, few_more, ap length (filter-no (is_above v) x held (le-ltb v x.event.rev below)), ap length (filter-no (is_above (v - 1)) x held under))
      ]
    ]

-- where one count is less than that of the revision before, there is an event of the revision
found_between : (P : ℕ → Type 0) (v : ℕ) (held : List Stamped) → 0 < v → All (λ x. P x.event.rev) held → count_above v held < count_above (v - 1) held → P v
found_between P v [] some all fewer = absurd (omega (arith, fewer))
found_between P v (x ∷ held) some all fewer =
    let full = length-filter (is_above v) (x ∷ held) in
    let full_more = length-filter (is_above (v - 1)) (x ∷ held) in
    let few = length-filter (is_above v) held in
    let few_more = length-filter (is_above (v - 1)) held in
    let tail = All-tail (λ (y : Stamped). P y.event.rev) x held all in
    elim (cases_lt v x.event.rev) [
      | inl above ↦ found_between P v held some tail
          (omega (arith, fewer, full, full_more, few, few_more, ap length (filter-yes (is_above v) x held (lt-ltb v x.event.rev above)), ap length (filter-yes (is_above (v - 1)) x held (lt-ltb (v - 1) x.event.rev (omega (arith, above))))))
      | inr below ↦ elim (cases_lt (v - 1) x.event.rev) [
        | inl at ↦ let same : x.event.rev ≡ v = omega (arith, at, below, some) in subst P same (All-head (λ (y : Stamped). P y.event.rev) x held all)
        | inr under ↦ found_between P v held some tail
            (omega (arith, fewer, full, full_more, few, few_more, ap length (filter-no (is_above v) x held (le-ltb v x.event.rev below)), ap length (filter-no (is_above (v - 1)) x held (le-ltb (v - 1) x.event.rev under))))
      ]
    ]

last_holds : (P : ℕ → Type 0) (floor : ℕ) (held : List Stamped) → All (λ x. P x.event.rev) held → (last_revision floor held ≡ floor) ⊎ P (last_revision floor held)
last_holds P floor [] all = inl refl
last_holds P floor (x ∷ held) all = elim (last_holds P x.event.rev held (All-tail (λ (y : Stamped). P y.event.rev) x held all)) [
  | inl same ↦ inr (subst P (sym same) (All-head (λ (y : Stamped). P y.event.rev) x held all))
  | inr h ↦ inr h
]

-- what each event of the log is, each that is held is
held_all : (P : ℕ → Type 0) (es : List EventData) (held : List Stamped) → events_of held ≡ map held_event es → AllByRecursion (λ e. P e.rev) es → All (λ x. P x.event.rev) held
held_all P [] [] are all = All-nil (λ (x : Stamped). P x.event.rev)
held_all P [] (x ∷ held) are all = absurd (cc)
held_all P (e ∷ es) [] are all = absurd (cc)
held_all P (e ∷ es) (x ∷ held) are all =
    let first : x.event ≡ held_event e = cc in
    let rest : events_of held ≡ map held_event es = cc in
    All-cons (λ (y : Stamped). P y.event.rev) x held (subst P (sym (ap (λ (y : EventRows). y.rev) first)) all.0) (held_all P es held rest all.1)

-- ---- a list of held events that are those of a stretch of the log

module _ (log : Log) (resource : Resource) (numbered : AreNumbered log.first log.revisions) (floor to : ℕ) (held : List Stamped) (are : events_of held ≡ held_events log resource floor to) where
  above_held : (v : ℕ) → floor ≤ v → later v (events_of held) ≡ held_events log resource v to
  above_held v le =
      ap (later v) are
      ∙ filter-map (λ (e : EventRows). ltb v e.rev) held_event (events log resource floor to)
      ∙ ap (map held_event) (are_above log resource floor v to numbered le)

  count_to : (v : ℕ) → floor ≤ v → count_above v held ≡ changes_between log resource v to
  count_to v le =
      count_is v held ∙ ap length (above_held v le) ∙ length-map (events log resource v to) held_event ∙ are_counted log resource v to

  held_within : All (λ x. (floor < x.event.rev) × (x.event.rev ≤ to)) held
  held_within = held_all (λ v. (floor < v) × (v ≤ to)) (events log resource floor to) held are (are_within log resource numbered floor to)

-- a ring's events are up to where it has come
pub floor_upto : (log : Log) (resource : Resource) (low high base e floor : ℕ) → base ≤ e → IsFloorOk log resource low high base e floor → floor ≤ e
floor_upto log resource low high base e floor le is = elim is.dropped [ inl same ↦ omega (arith, same, le) | inr h ↦ h.1 ]

pub ring_upto : (log : Log) (resource : Resource) (base e : ℕ) (ring : RingData) → AreNumbered log.first log.revisions → base ≤ e → IsRingOf log resource base e ring → IsUpTo e ring
ring_upto log resource base e ring numbered le is = record {
  floor = floor_upto log resource ring.window ring.window_max base e ring.floor le is.floor;
  held = λ i d inside. (held_within log resource numbered ring.floor e ring.held is.events_are i d inside).1;
}

-- what may be pushed
pub next_of : (last : ℕ) (ring : RingData) (group : List EventRows) → IsUpTo last ring → IsGroup last group → IsNext ring group
next_of last ring group up is = record {
  rev = is.rev;
  some = is.some;
  few = is.few;
  numbered = is.numbered;
  rising = is.rising;
  above_floor = omega (arith, up.floor, is.above);
  above_held = λ i d inside. omega (arith, up.held i d inside, is.above);
}

-- ---- a push

module _ (log : Log) (resource : Resource) (numbered : AreNumbered log.first log.revisions) (ring : RingData) (new : List EventRows) (now e to : ℕ)
    (is : IsRing ring) (next : IsNext ring new) (floor_le : ring.floor ≤ e) (le : e ≤ to)
    (old_are : events_of ring.held ≡ held_events log resource ring.floor e) (new_are : held_events log resource e to ≡ new) where
  all_are : events_of (with_events ring new now) ≡ held_events log resource ring.floor to
  all_are =
      events_of-with ring new now
      ∙ ap (λ es. es ++ new) old_are
      ∙ ap (λ es. held_events log resource ring.floor e ++ es) (sym new_are)
      ∙ sym (map-append held_event (events log resource ring.floor e) (events log resource e to))
      ∙ ap (map held_event) (events_join log resource ring.floor e to floor_le le)

  floor_rises : ring.floor ≤ (pushed ring new now).floor
  floor_rises =
      last_from ring.floor ring.floor (dropped ring.capacity (with_events ring new now)) (omega arith)
      (All-filter (λ x. not (stays ring.capacity (with_events ring new now) x)) (λ x. ring.floor ≤ x.event.rev) (with_events ring new now)
      (λ i d inside. omega (arith, (held_within log resource numbered ring.floor to (with_events ring new now) all_are i d inside).0)))

  -- what is kept are the events above the new floor
  kept_are : events_of (pushed ring new now).held ≡ held_events log resource (pushed ring new now).floor to
  kept_are =
      let after : RingData = pushed ring new now in
      let ring_after = keep_rings ring new now is next in
      let whole : later after.floor (events_of after.held) ≡ events_of after.held =
      since-held after.floor after.held
      ∙ ap events_of (filter-from (is_above after.floor) after.held 0 (All-nil (λ x. is_above after.floor x ≡ false)) (λ i d inside. lt-ltb after.floor (get_or after.held i d).event.rev (ring_after.above i d inside))) in
      sym whole
      ∙ lose_nothing ring new now after.floor is next (omega arith)
      ∙ sym (filter-append (λ (x : EventRows). ltb after.floor x.rev) (events_of ring.held) new)
      ∙ ap (later after.floor) (sym (events_of-with ring new now))
      ∙ above_held log resource numbered ring.floor to (with_events ring new now) all_are after.floor floor_rises

  unfoldable Passed : ℕ → Type 0
  Passed v = (ring.floor < v) × (v ≤ to) × IsPassed log resource ring.capacity to v

  -- each dropped revision is one that the window is past
  dropped_passed : All (λ x. Passed x.event.rev) (dropped ring.capacity (with_events ring new now))
  unfolding Passed
  dropped_passed i d inside =
      let xs : List Stamped = with_events ring new now in
      let gone : Stamped → Bool = λ x. not (stays ring.capacity xs x) in
      let v = (get_or (dropped ring.capacity xs) i d).event.rev in
      let out = none_stay ring.capacity xs (all_not_falling ring new now is next) i d inside in
      let place = All-filter gone (λ x. (ring.floor < x.event.rev) × (x.event.rev ≤ to)) xs (held_within log resource numbered ring.floor to xs all_are) i d inside in
      let more = All-filter gone (λ x. count_above x.event.rev xs < count_above (x.event.rev - 1) xs) xs
      (λ j f within. counted xs j f within (omega (arith, (held_within log resource numbered ring.floor to xs all_are j f within).0))) i d inside in
      let at = count_to log resource numbered ring.floor to xs all_are v (omega (arith, place.0)) in
      let before = count_to log resource numbered ring.floor to xs all_are (v - 1) (omega (arith, place.0)) in (
        place.0,
        place.1,
        record {
          changed = omega (arith, more, at, before, counts_join log resource (v - 1) v to (omega arith) place.1);
          above = omega (arith, at, ltb-false (count_above v xs) ring.capacity out);
        },
      )

  -- and each that it is past is dropped
  passed_dropped : (v : ℕ) → ring.floor < v → v ≤ to → IsPassed log resource ring.capacity to v → v ≤ (pushed ring new now).floor
  passed_dropped v above within passed = elim (cases_lt (pushed ring new now).floor v) [
    | inr up_to ↦ up_to
    | inl beyond ↦
        let xs : List Stamped = with_events ring new now in
        let after : RingData = pushed ring new now in
        let few : count_above v xs < ring.capacity =
        found_between (λ w. count_above w xs < ring.capacity) v after.held (omega (arith, above))
        (λ i d inside. ltb-true (count_above (get_or after.held i d).event.rev xs) ring.capacity (all_stay ring.capacity xs (all_not_falling ring new now is next) i d inside))
        (omega (
          arith,
          passed.changed,
          counts_join log resource (v - 1) v to (omega arith) within,
          count_to log resource numbered after.floor to after.held kept_are v (omega (arith, beyond)),
          count_to log resource numbered after.floor to after.held kept_are (v - 1) (omega (arith, beyond)),
        )) in
        absurd (omega (arith, few, passed.above, count_to log resource numbered ring.floor to xs all_are v (omega (arith, above))))
  ]

  ring_floor : IsRingFloor log resource ring.capacity ring.floor to (pushed ring new now).floor
  unfolding Passed
  ring_floor = record {
    from_base = floor_rises;
    dropped = last_holds Passed ring.floor (dropped ring.capacity (with_events ring new now)) dropped_passed;
    keeps = passed_dropped;
  }

  pub ring_pushed : (base : ℕ) → IsFloorOk log resource ring.window ring.window_max base e ring.floor → IsRingOf log resource base to (pushed ring new now)
  ring_pushed base ok = record {
    floor = floors_go_on log resource ring.window ring.window_max ring.capacity base e to ring.floor (pushed ring new now).floor is.least is.most le ok ring_floor;
    events_are = kept_are;
  }

-- ---- where the ring is after a push

last_within : (floor top : ℕ) (held : List Stamped) → floor ≤ top → All (λ x. x.event.rev ≤ top) held → last_revision floor held ≤ top
last_within floor top [] le all = le
last_within floor top (x ∷ held) le all = last_within x.event.rev top held (All-head (λ (y : Stamped). y.event.rev ≤ top) x held all) (All-tail (λ (y : Stamped). y.event.rev ≤ top) x held all)

stamped_within : (top rev now : ℕ) (group : List EventRows) → rev ≤ top → All (λ e. e.rev ≡ rev) group → All (λ x. x.event.rev ≤ top) (map (stamped now) group)
stamped_within top rev now [] le all = All-nil (λ (x : Stamped). x.event.rev ≤ top)
stamped_within top rev now (e ∷ group) le all =
    All-cons (λ (x : Stamped). x.event.rev ≤ top) (stamped now e) (map (stamped now) group) (omega (arith, le, All-head (λ (y : EventRows). y.rev ≡ rev) e group all)) (stamped_within top rev now group le (All-tail (λ (y : EventRows). y.rev ≡ rev) e group all))

pub pushed_upto : (last time : ℕ) (old new : RingData) (group : List EventRows) → IsUpTo last old → (is : IsGroup last group) → IsPushed old group time new → IsUpTo is.rev new
pushed_upto last time old new group up is push =
    let ready : IsUpTo last push.ready = elim push.fits [
      | inl same ↦ subst (IsUpTo last) (sym same) up
      | inr fit ↦ subst (IsUpTo last) (sym fit) (fitted_too)
    ] in
    let all : All (λ x. x.event.rev ≤ is.rev) (with_events push.ready group time) =
    All-append (λ (x : Stamped). x.event.rev ≤ is.rev) push.ready.held (map (stamped time) group) (λ i d inside. omega (arith, ready.held i d inside, is.above)) (stamped_within is.rev is.rev time group (omega arith) is.numbered) in
    subst (IsUpTo is.rev) (sym push.pushed_is) (record {
      floor = last_within push.ready.floor is.rev (dropped push.ready.capacity (with_events push.ready group time)) (omega (arith, ready.floor, is.above))
          (All-filter (λ x. not (stays push.ready.capacity (with_events push.ready group time) x)) (λ (x : Stamped). x.event.rev ≤ is.rev) (with_events push.ready group time) all);
      held = All-filter (stays push.ready.capacity (with_events push.ready group time)) (λ (x : Stamped). x.event.rev ≤ is.rev) (with_events push.ready group time) all;
    })
  where
    fitted_too : IsUpTo last (fitted old time)
    fitted_too = record { floor = up.floor; held = up.held }

-- its floor never falls
stamped_above : (low rev now : ℕ) (group : List EventRows) → low ≤ rev → All (λ e. e.rev ≡ rev) group → All (λ x. low ≤ x.event.rev) (map (stamped now) group)
stamped_above low rev now [] le all = All-nil (λ (x : Stamped). low ≤ x.event.rev)
stamped_above low rev now (e ∷ group) le all =
    All-cons (λ (x : Stamped). low ≤ x.event.rev) (stamped now e) (map (stamped now) group) (omega (arith, le, All-head (λ (y : EventRows). y.rev ≡ rev) e group all)) (stamped_above low rev now group le (All-tail (λ (y : EventRows). y.rev ≡ rev) e group all))

pub push_rises : (last time : ℕ) (old new : RingData) (group : List EventRows) → IsUpTo last old → IsGroup last group → IsPushed old group time new → old.floor ≤ new.floor
push_rises last time old new group up is push =
    let same : push.ready.floor ≡ old.floor = elim push.fits [ inl as_it_was ↦ ap (λ (r : RingData). r.floor) as_it_was | inr fit ↦ ap (λ (r : RingData). r.floor) fit ] in
    let all : All (λ x. push.ready.floor ≤ x.event.rev) (with_events push.ready group time) =
    All-append (λ (x : Stamped). push.ready.floor ≤ x.event.rev) push.ready.held (map (stamped time) group) (λ i d inside. omega (arith, push.is.above i d inside))
    (stamped_above push.ready.floor is.rev time group (omega (arith, same, up.floor, is.above)) is.numbered) in
    let rises : push.ready.floor ≤ (pushed push.ready group time).floor =
    last_from push.ready.floor push.ready.floor (dropped push.ready.capacity (with_events push.ready group time)) (omega arith)
    (All-filter (λ x. not (stays push.ready.capacity (with_events push.ready group time) x)) (λ (x : Stamped). push.ready.floor ≤ x.event.rev) (with_events push.ready group time) all) in
    omega (arith, same, rises, ap (λ (r : RingData). r.floor) push.pushed_is)

-- ---- the ring after the next part

pub ring_goes_on : (log : Log) (resource : Resource) (base e to time : ℕ) (old new : RingData) (group : List EventRows) → AreNumbered log.first log.revisions → base ≤ e → e ≤ to →
    IsRingOf log resource base e old → IsGroup e group → held_events log resource e to ≡ group → IsPushed old group time new → IsRingOf log resource base to new
ring_goes_on log resource base e to time old new group numbered begun le is next are push =
    let ready : IsRingOf log resource base e push.ready = elim push.fits [
      | inl same ↦ subst (IsRingOf log resource base e) (sym same) is
      | inr fit ↦ subst (IsRingOf log resource base e) (sym fit) (fitted_too)
    ] in
    let up = ring_upto log resource base e push.ready numbered begun ready in
    subst (IsRingOf log resource base to) (sym push.pushed_is)
    (ring_pushed log resource numbered push.ready group time e to push.is (next_of e push.ready group up next) up.floor le ready.events_are are base ready.floor)
  where
    fitted_too : IsRingOf log resource base e (fitted old time)
    fitted_too = record { floor = is.floor; events_are = is.events_are }
