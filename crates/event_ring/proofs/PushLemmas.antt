-- What a push leaves and what it drops.
use Rattle.std.proofs.Common.{◌≡◌, ℕ, ◌+◌, ◌<◌, ◌≤◌, ◌⊎◌, inl, inr, Bool, true, false, not, List, [], ◌∷◌, ◌++◌, length, get_or, take, drop, map, ltb, eqb, refl, sym, ap, ◌∙◌, subst, arith}
use Rattle.std.specs.Prelude.{filter, All, AllPairs}
use Rattle.std.specs.List.Sorted.{IsStrictlySortedBy}
use Rattle.std.proofs.lemmas.Bool.{cases_lt, lt-ltb, ltb-true, ltb-false, le-ltb, eq-eqb, ne_eqb, not_from_true, not_from_false}
use Rattle.std.proofs.lemmas.List.{length-map, map-append, drop-map, take-append-drop, length-append}
use Rattle.std.proofs.lemmas.List.Elements.{All-cons, All-nil, All-head, All-tail, All-append, All-map, All-filter, filter-append}
use Rattle.std.proofs.lemmas.List.Kept.{AllPairs-filter}
use Rattle.std.proofs.lemmas.List.Sums.{length-filter, count_by-le-length}
use Rattle.event_ring.specs.Events.{EventRows}
use Rattle.event_ring.specs.Rings.{RingData, IsRing, IsNext, NotFalling, events_of, later, count_above, count_of, stays, kept, dropped, last_revision, stamped, with_events, pushed, event_cmp}
use Rattle.event_ring.specs.Laws.{PushesAreBounded, PushesLoseNothing, PushesDropWholeRevisions, PushesKeepRings}
use Rattle.event_ring.specs.declared.stamped.Stamped.{Stamped}
use Rattle.event_ring.proofs.FilterLemmas.{not_both, filter-from, filter-upto, more_pass, none_pass, either_passes, filter-fewer, filter-filter, filter-map, pairs-head, pairs-tail, Cut, cut}
use Rattle.event_ring.proofs.OrderLemmas.{not_falling, sorted-append, sorted-drop, sorted_by_keys}

abbrev pub is_above : ℕ → Stamped → Bool
is_above rev x = ltb rev x.event.rev

-- ---- the events of a ring and the new ones

pub events_of-stamped : (now : ℕ) (events : List EventRows) → events_of (map (stamped now) events) ≡ events
events_of-stamped now [] = refl
events_of-stamped now (event ∷ events) = ap (λ rest. event ∷ rest) (events_of-stamped now events)

pub events_of-with : (ring : RingData) (events : List EventRows) (now : ℕ) → events_of (with_events ring events now) ≡ events_of ring.held ++ events
events_of-with ring events now =
    map-append (λ x. x.event) ring.held (map (stamped now) events)
    ∙ ap (λ rest. events_of ring.held ++ rest) (events_of-stamped now events)

pub new_at : (ring : RingData) (events : List EventRows) (now : ℕ) (next : IsNext ring events) → All (λ x. x.event.rev ≡ next.rev) (map (stamped now) events)
new_at ring events now next = All-map (λ x. x.event.rev ≡ next.rev) (stamped now) events next.numbered

pub all_sorted : (ring : RingData) (events : List EventRows) (now : ℕ) → IsRing ring → IsNext ring events → IsStrictlySortedBy event_cmp (events_of (with_events ring events now))
all_sorted ring events now is next =
    subst (IsStrictlySortedBy event_cmp) (sym (events_of-with ring events now))
    (sorted-append (events_of ring.held) events next.rev is.rising (sorted_by_keys next.rev events next.numbered next.rising)
    (All-map (λ x. x.rev < next.rev) (λ x. x.event) ring.held next.above_held) next.numbered)

pub all_not_falling : (ring : RingData) (events : List EventRows) (now : ℕ) → IsRing ring → IsNext ring events → NotFalling (with_events ring events now)
all_not_falling ring events now is next = not_falling (with_events ring events now) (all_sorted ring events now is next)

-- ---- counts

-- no more stand above a greater revision
pub count_falls : (a b : ℕ) (held : List Stamped) → a ≤ b → count_above b held ≤ count_above a held
count_falls a b held le =
    let fewer = more_pass (is_above b) (is_above a) held (λ x e. lt-ltb a x.event.rev (omega (arith, le, ltb-true b x.event.rev e))) in
    omega (arith, fewer, length-filter (is_above b) held, length-filter (is_above a) held)

-- ---- the cut

stay_on : (many : ℕ) (held : List Stamped) → NotFalling held → AllPairs (λ x y. stays many held x ≡ true → stays many held y ≡ true) held
stay_on many held order i j d below inside stay =
    let x = get_or held i d in
    let y = get_or held j d in
    lt-ltb (count_above y.event.rev held) many (omega (arith, count_falls x.event.rev y.event.rev held (order i j d below inside), ltb-true (count_above x.event.rev held) many stay))

pub cut_of : (many : ℕ) (held : List Stamped) → NotFalling held → Cut (stays many held) held
cut_of many held order = cut (stays many held) held (stay_on many held order)

pub kept-drop : (many : ℕ) (held : List Stamped) (k : ℕ) → All (λ x. stays many held x ≡ false) (take k held) → All (λ x. stays many held x ≡ true) (drop k held) → kept many held ≡ drop k held
kept-drop many held k fail pass = filter-from (stays many held) held k fail pass

pub dropped-take : (many : ℕ) (held : List Stamped) (k : ℕ) → All (λ x. stays many held x ≡ false) (take k held) → All (λ x. stays many held x ≡ true) (drop k held) → dropped many held ≡ take k held
dropped-take many held k fail pass =
    filter-upto (λ x. not (stays many held x)) held k
    (λ i d inside. not_from_false (stays many held (get_or (take k held) i d)) (fail i d inside))
    (λ i d inside. not_from_true (stays many held (get_or (drop k held) i d)) (pass i d inside))

-- what is dropped is below what stays
apart : (many : ℕ) (held : List Stamped) (x y : Stamped) → stays many held x ≡ false → stays many held y ≡ true → x.event.rev < y.event.rev
apart many held x y gone stay =
    elim (cases_lt x.event.rev y.event.rev) [
      | inl lt ↦ lt
      | inr ge ↦ absurd (omega (arith, count_falls y.event.rev x.event.rev held ge, ltb-false (count_above x.event.rev held) many gone, ltb-true (count_above y.event.rev held) many stay))
    ]

pub in_two : (many : ℕ) (held : List Stamped) → NotFalling held → dropped many held ++ kept many held ≡ held
in_two many held order =
    let c = cut_of many held order in
    ap (λ xs. xs ++ kept many held) (dropped-take many held c.place c.fail c.pass)
    ∙ ap (λ ys. take c.place held ++ ys) (kept-drop many held c.place c.fail c.pass)
    ∙ take-append-drop c.place held

pub all_stay : (many : ℕ) (held : List Stamped) → NotFalling held → All (λ x. stays many held x ≡ true) (kept many held)
all_stay many held order =
    let c = cut_of many held order in
    subst (λ ys. All (λ x. stays many held x ≡ true) ys) (sym (kept-drop many held c.place c.fail c.pass)) c.pass

pub none_stay : (many : ℕ) (held : List Stamped) → NotFalling held → All (λ x. stays many held x ≡ false) (dropped many held)
none_stay many held order =
    let c = cut_of many held order in
    subst (λ ys. All (λ x. stays many held x ≡ false) ys) (sym (dropped-take many held c.place c.fail c.pass)) c.fail

pub below_kept : (many : ℕ) (held : List Stamped) → NotFalling held → All (λ d. All (λ k. d.event.rev < k.event.rev) (kept many held)) (dropped many held)
below_kept many held order i d inside j e there =
    apart many held (get_or (dropped many held) i d) (get_or (kept many held) j e) (none_stay many held order i d inside) (all_stay many held order j e there)

pub whole_revisions : PushesDropWholeRevisions
whole_revisions ring events now is next =
    let order = all_not_falling ring events now is next in
    (in_two ring.capacity (with_events ring events now) order, below_kept ring.capacity (with_events ring events now) order)

-- ---- how many stay

few_stay : (many : ℕ) (held : List Stamped) → NotFalling held → All (λ x. count_above x.event.rev held < many) held → ((rev : ℕ) → count_of rev held ≤ 64) → length held ≤ many + 63
few_stay many [] order few whole = omega arith
few_stay many (y ∷ held) order few whole =
    let is_same : Stamped → Bool = λ x. eqb x.event.rev y.event.rev in
    let one : All (λ x. (is_above y.event.rev x ≡ true) ⊎ (is_same x ≡ true)) (y ∷ held) =
    All-cons (λ x. (is_above y.event.rev x ≡ true) ⊎ (is_same x ≡ true)) y held (inr (eq-eqb y.event.rev y.event.rev refl))
    (λ i d inside. above_or_same y.event.rev (get_or held i d).event.rev (pairs-head (λ a b. a.event.rev ≤ b.event.rev) y held order i d inside)) in
    let two = either_passes (is_above y.event.rev) is_same (y ∷ held) one in
    let first = few 0 y (omega arith) in
    omega (arith, two, first, whole y.event.rev, length-filter (is_above y.event.rev) (y ∷ held), length-filter is_same (y ∷ held))
  where
    above_or_same : (a b : ℕ) → a ≤ b → (ltb a b ≡ true) ⊎ (eqb b a ≡ true)
    above_or_same a b le = elim (cases_lt a b) [
      | inl lt ↦ inl (lt-ltb a b lt)
      | inr ge ↦ inr (eq-eqb b a (omega (arith, le, ge)))
    ]

-- of one revision there are as many as before, or the new ones
whole_with : (ring : RingData) (events : List EventRows) (now rev : ℕ) → IsRing ring → IsNext ring events → count_of rev (with_events ring events now) ≤ 64
whole_with ring events now rev is next =
    let is_same : Stamped → Bool = λ x. eqb x.event.rev rev in
    let new = map (stamped now) events in
    let counted = length-filter is_same (ring.held ++ new) in
    let parts : length (filter is_same (ring.held ++ new)) ≡ length (filter is_same ring.held) + length (filter is_same new) = ap length (filter-append is_same ring.held new) ∙ length-append (filter is_same ring.held) (filter is_same new) in
    elim (cases_lt rev next.rev) [
      | inl lt ↦
          let none : filter is_same new ≡ [] = none_pass is_same new (λ i d inside. ne_eqb (get_or new i d).event.rev rev (λ e. omega (arith, lt, e, new_at ring events now next i d inside))) in
          omega (arith, counted, parts, ap length none, is.whole rev, length-filter is_same ring.held)
      | inr ge ↦
          let none : filter is_same ring.held ≡ [] = none_pass is_same ring.held (λ i d inside. ne_eqb (get_or ring.held i d).event.rev rev (λ e. omega (arith, ge, e, next.above_held i d inside))) in
          omega (arith, counted, parts, ap length none, next.few, length-filter is_same new, count_by-le-length is_same new, length-map events (stamped now))
    ]

pub whole_kept : (ring : RingData) (events : List EventRows) (now rev : ℕ) → IsRing ring → IsNext ring events → count_of rev (kept ring.capacity (with_events ring events now)) ≤ 64
whole_kept ring events now rev is next =
    let all = with_events ring events now in
    let is_same : Stamped → Bool = λ x. eqb x.event.rev rev in
    omega (arith, whole_with ring events now rev is next, filter-fewer is_same (stays ring.capacity all) all, length-filter is_same all, length-filter is_same (kept ring.capacity all))

pub bounded : PushesAreBounded
bounded ring events now is next =
    let all = with_events ring events now in
    let order = all_not_falling ring events now is next in
    let few : All (λ x. count_above x.event.rev (kept ring.capacity all) < ring.capacity) (kept ring.capacity all) =
    λ i d inside.
    let x = get_or (kept ring.capacity all) i d in
    omega (arith, ltb-true (count_above x.event.rev all) ring.capacity (all_stay ring.capacity all order i d inside), filter-fewer (is_above x.event.rev) (stays ring.capacity all) all, length-filter (is_above x.event.rev) all, length-filter (is_above x.event.rev) (kept ring.capacity all)) in
    few_stay ring.capacity (kept ring.capacity all) (AllPairs-filter (λ x y. x.event.rev ≤ y.event.rev) (stays ring.capacity all) all order) few (λ rev. whole_kept ring events now rev is next)

-- ---- the floor

last_below : (floor rev : ℕ) (held : List Stamped) → floor < rev → All (λ x. x.event.rev < rev) held → last_revision floor held < rev
last_below floor rev [] lt below = lt
last_below floor rev (x ∷ held) lt below = last_below x.event.rev rev held (All-head (λ y. y.event.rev < rev) x held below) (All-tail (λ y. y.event.rev < rev) x held below)

pub last_from : (floor rev : ℕ) (held : List Stamped) → rev ≤ floor → All (λ x. rev ≤ x.event.rev) held → rev ≤ last_revision floor held
last_from floor rev [] le from = le
last_from floor rev (x ∷ held) le from = last_from x.event.rev rev held (All-head (λ y. rev ≤ y.event.rev) x held from) (All-tail (λ y. rev ≤ y.event.rev) x held from)

pub last_is_top : (floor : ℕ) (held : List Stamped) → NotFalling held → All (λ x. x.event.rev ≤ last_revision floor held) held
last_is_top floor [] order = All-nil (λ x. x.event.rev ≤ last_revision floor [])
last_is_top floor (x ∷ held) order =
    All-cons (λ y. y.event.rev ≤ last_revision floor (x ∷ held)) x held
    (last_from x.event.rev x.event.rev held (omega arith) (pairs-head (λ a b. a.event.rev ≤ b.event.rev) x held order))
    (last_is_top x.event.rev held (pairs-tail (λ a b. a.event.rev ≤ b.event.rev) x held order))

floor_below : (ring : RingData) (events : List EventRows) (now : ℕ) → IsRing ring → IsNext ring events → All (λ x. (pushed ring events now).floor < x.event.rev) (kept ring.capacity (with_events ring events now))
floor_below ring events now is next i d inside =
    let all = with_events ring events now in
    let order = all_not_falling ring events now is next in
    let above_all : All (λ x. ring.floor < x.event.rev) all =
    All-append (λ x. ring.floor < x.event.rev) ring.held (map (stamped now) events) is.above
    (λ j e there. omega (arith, next.above_floor, new_at ring events now next j e there)) in
    let above_kept = All-filter (stays ring.capacity all) (λ x. ring.floor < x.event.rev) all above_all in
    last_below ring.floor (get_or (kept ring.capacity all) i d).event.rev (dropped ring.capacity all) (above_kept i d inside)
    (λ j e there. below_kept ring.capacity all order j e there i d inside)

pub keep_rings : PushesKeepRings
keep_rings ring events now is next =
    let all = with_events ring events now in
    let order = all_not_falling ring events now is next in
    let c = cut_of ring.capacity all order in
    let parted : events_of (kept ring.capacity all) ≡ drop c.place (events_of all) =
    ap events_of (kept-drop ring.capacity all c.place c.fail c.pass) ∙ sym (drop-map (λ x. x.event) c.place all) in
    record {
      some = is.some;
      least = is.least;
      most = is.most;
      bounded = is.bounded;
      few = omega (arith, bounded ring events now is next, is.most);
      roomy = is.roomy;
      sized = is.sized;
      rising = subst (IsStrictlySortedBy event_cmp) (sym parted) (sorted-drop event_cmp c.place (events_of all) (all_sorted ring events now is next));
      above = floor_below ring events now is next;
      whole = λ rev. whole_kept ring events now rev is next;
    }

-- ---- what is lent

pub since-held : (at : ℕ) (held : List Stamped) → later at (events_of held) ≡ events_of (filter (is_above at) held)
since-held at held = filter-map (λ event. ltb at event.rev) (λ x. x.event) held

pub lose_nothing : PushesLoseNothing
lose_nothing ring events now at is next past =
    let many = ring.capacity in
    let all = with_events ring events now in
    let order = all_not_falling ring events now is next in
    let c = cut_of many all order in
    let top = last_is_top ring.floor (dropped many all) (AllPairs-filter (λ x y. x.event.rev ≤ y.event.rev) (λ x. not (stays many all x)) all order) in
    let gone : All (λ x. x.event.rev ≤ last_revision ring.floor (dropped many all)) (take c.place all) =
    subst (λ xs. All (λ x. x.event.rev ≤ last_revision ring.floor (dropped many all)) xs) (dropped-take many all c.place c.fail c.pass) top in
    let first : All (λ x. stays many all x ≡ false → is_above at x ≡ false) (take c.place all) =
    λ i d inside e. le-ltb at (get_or (take c.place all) i d).event.rev (omega (arith, past, gone i d inside)) in
    let second : All (λ x. stays many all x ≡ false → is_above at x ≡ false) (drop c.place all) =
    λ i d inside e. absurd (not_both (stays many all (get_or (drop c.place all) i d)) (c.pass i d inside) e) in
    let each : All (λ x. stays many all x ≡ false → is_above at x ≡ false) all =
    subst (λ xs. All (λ x. stays many all x ≡ false → is_above at x ≡ false) xs) (take-append-drop c.place all)
    (All-append (λ x. stays many all x ≡ false → is_above at x ≡ false) (take c.place all) (drop c.place all) first second) in
    since-held at (kept many all)
    ∙ ap events_of (filter-filter (is_above at) (stays many all) all each)
    ∙ sym (since-held at all)
    ∙ ap (later at) (events_of-with ring events now)
    ∙ filter-append (λ event. ltb at event.rev) (events_of ring.held) events

-- ---- places

-- an event up to a place is of a revision no later than the one there, and one from it on of none earlier
pub not_after : (held : List Stamped) (i j : ℕ) (d : Stamped) (at : ℕ) → i ≤ j → j < length held → NotFalling held → (get_or held j d).event.rev ≤ at → (get_or held i d).event.rev ≤ at
not_after held i j d at before inside order le =
    elim (cases_lt i j) [
      | inl lt ↦ omega (arith, order i j d lt inside, le)
      | inr ge ↦ let same : i ≡ j = omega (arith, before, ge) in subst (λ k. (get_or held k d).event.rev ≤ at) (sym same) le
    ]

pub not_before : (held : List Stamped) (i j : ℕ) (d : Stamped) (at : ℕ) → i ≤ j → j < length held → NotFalling held → at ≤ (get_or held i d).event.rev → at ≤ (get_or held j d).event.rev
not_before held i j d at before inside order le =
    elim (cases_lt i j) [
      | inl lt ↦ omega (arith, order i j d lt inside, le)
      | inr ge ↦ let same : i ≡ j = omega (arith, before, ge) in subst (λ k. at ≤ (get_or held k d).event.rev) same le
    ]
