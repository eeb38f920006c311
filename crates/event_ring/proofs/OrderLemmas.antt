-- Events in order: by revision, and then by key.
use Rattle.std.proofs.Common.{◌≡◌, ℕ, zero, suc, ◌<◌, ◌≤◌, List, [], ◌∷◌, ◌++◌, length, get_or, drop, map, sym, ap, ◌∙◌, arith}
use Rattle.std.specs.Prelude.{All}
use Rattle.std.specs.List.{AllByRecursion}
use Rattle.std.specs.List.Sorted.{IsStrictlySortedBy}
use Rattle.std.specs.Cmp.Lexicographic.{slice_cmp}
use Rattle.std.specs.Ordering.{nat_cmp, ordering_then, MatchOrdering}
use Rattle.std.specs.Cmp.{nat_cmp_is, ranks}
use Rattle.std.specs.declared.cmp.Ordering.{Ordering}
use Rattle.std.specs.declared.cmp.Ordering.TheVariants.{Less, Equal, Greater}
use Rattle.std.proofs.lemmas.List.{get_or-map, length-map}
use Rattle.std.proofs.lemmas.List.Elements.{All-head, All-tail}
use Rattle.std.proofs.lemmas.Map.Keys.{Less-from_sorted}
use Rattle.event_ring.specs.Events.{EventRows}
use Rattle.event_ring.specs.Rings.{event_cmp, events_of, NotFalling}
use Rattle.event_ring.specs.declared.stamped.Stamped.{Stamped}

-- an event that comes before another isn't of a later revision
le_of_rank : (a b : ℕ) (o r : Ordering) → MatchOrdering r (a < b) (a ≡ b) (b < a) → ordering_then r o ≡ Less → a ≤ b
le_of_rank a b o Less rank e = omega (arith, rank)
le_of_rank a b o Equal rank e = omega (arith, rank)
le_of_rank a b o Greater rank e = absurd cc

pub le_of_before : (x y : EventRows) → event_cmp x y ≡ Less → x.rev ≤ y.rev
le_of_before x y e = le_of_rank x.rev y.rev (slice_cmp nat_cmp x.key y.key) (nat_cmp x.rev y.rev) (ranks x.rev y.rev) e

pub before_of_lt : (x y : EventRows) → x.rev < y.rev → event_cmp x y ≡ Less
before_of_lt x y lt = ap (λ r. ordering_then r (slice_cmp nat_cmp x.key y.key)) (sym (nat_cmp_is x.rev y.rev Less lt))

before_of_key : (x y : EventRows) → x.rev ≡ y.rev → slice_cmp nat_cmp x.key y.key ≡ Less → event_cmp x y ≡ Less
before_of_key x y same e = ap (λ r. ordering_then r (slice_cmp nat_cmp x.key y.key)) (sym (nat_cmp_is x.rev y.rev Equal same)) ∙ e

-- so revisions don't fall
pub not_falling : (held : List Stamped) → IsStrictlySortedBy event_cmp (events_of held) → NotFalling held
not_falling held sorted i j d order inside =
    let longer : j < length (events_of held) = omega (arith, inside, length-map held (λ x. x.event)) in
    let here : i < length held = omega (arith, order, inside) in
    let less = Less-from_sorted event_cmp (events_of held) i j d.event sorted order longer in
    let first = get_or-map (λ x. x.event) held i d d.event here in
    let second = get_or-map (λ x. x.event) held j d d.event inside in
    let told : event_cmp (get_or held i d).event (get_or held j d).event ≡ Less = ap (λ x. event_cmp x (get_or held j d).event) (sym first) ∙ ap (λ y. event_cmp (get_or (events_of held) i d.event) y) (sym second) ∙ less in
    le_of_before (get_or held i d).event (get_or held j d).event told

-- ---- sorted lists

by_recursion : {X : Type 0} (P : X → Type 0) (xs : List X) → All P xs → AllByRecursion P xs
by_recursion P [] all = tt
by_recursion P (x ∷ xs) all = (All-head P x xs all, by_recursion P xs (All-tail P x xs all))

append_each : {X : Type 0} (P : X → Type 0) (xs ys : List X) → AllByRecursion P xs → AllByRecursion P ys → AllByRecursion P (xs ++ ys)
append_each P [] ys these those = those
append_each P (x ∷ xs) ys these those = (these.0, append_each P xs ys these.1 those)

pub sorted-none : {K : Type 0} (c : K → K → Ordering) → IsStrictlySortedBy c []
unfolding IsStrictlySortedBy
sorted-none c = tt

pub sorted-one : {K : Type 0} (c : K → K → Ordering) (k : K) → IsStrictlySortedBy c (k ∷ [])
unfolding IsStrictlySortedBy
sorted-one c k = (tt, tt)

pub sorted-two : {K : Type 0} (c : K → K → Ordering) (a b : K) → c a b ≡ Less → IsStrictlySortedBy c (a ∷ b ∷ [])
unfolding IsStrictlySortedBy
sorted-two c a b less = ((less, tt), (tt, tt))

pub sorted-drop : {K : Type 0} (c : K → K → Ordering) (n : ℕ) (ks : List K) → IsStrictlySortedBy c ks → IsStrictlySortedBy c (drop n ks)
unfolding IsStrictlySortedBy
sorted-drop c zero ks sorted = sorted
sorted-drop c (suc n) [] sorted = tt
sorted-drop c (suc n) (k ∷ ks) sorted = sorted-drop c n ks sorted.1

pub sorted-append : (xs ys : List EventRows) (rev : ℕ) → IsStrictlySortedBy event_cmp xs → IsStrictlySortedBy event_cmp ys → All (λ x. x.rev < rev) xs → All (λ y. y.rev ≡ rev) ys → IsStrictlySortedBy event_cmp (xs ++ ys)
unfolding IsStrictlySortedBy
sorted-append [] ys rev these those below at = those
sorted-append (x ∷ xs) ys rev these those below at =
    let lower : x.rev < rev = All-head (λ y. y.rev < rev) x xs below in
    let before : All (λ y. event_cmp x y ≡ Less) ys = λ k d inside. before_of_lt x (get_or ys k d) (omega (arith, lower, at k d inside)) in
    (append_each (λ y. event_cmp x y ≡ Less) xs ys these.0 (by_recursion (λ y. event_cmp x y ≡ Less) ys before), sorted-append xs ys rev these.1 those (All-tail (λ y. y.rev < rev) x xs below) at)

-- events of one revision with rising keys are sorted

after_keys : (x : EventRows) (rev : ℕ) (xs : List EventRows) → x.rev ≡ rev → All (λ y. y.rev ≡ rev) xs → AllByRecursion (λ k. slice_cmp nat_cmp x.key k ≡ Less) (map (λ event. event.key) xs) → AllByRecursion (λ y. event_cmp x y ≡ Less) xs
after_keys x rev [] same at keys = tt
after_keys x rev (y ∷ xs) same at keys =
    (before_of_key x y (same ∙ sym (All-head (λ z. z.rev ≡ rev) y xs at)) keys.0, after_keys x rev xs same (All-tail (λ z. z.rev ≡ rev) y xs at) keys.1)

pub sorted_by_keys : (rev : ℕ) (xs : List EventRows) → All (λ y. y.rev ≡ rev) xs → IsStrictlySortedBy (slice_cmp nat_cmp) (map (λ event. event.key) xs) → IsStrictlySortedBy event_cmp xs
unfolding IsStrictlySortedBy
sorted_by_keys rev [] at sorted = tt
sorted_by_keys rev (x ∷ xs) at sorted =
    (after_keys x rev xs (All-head (λ z. z.rev ≡ rev) x xs at) (All-tail (λ z. z.rev ≡ rev) x xs at) sorted.0, sorted_by_keys rev xs (All-tail (λ z. z.rev ≡ rev) x xs at) sorted.1)
