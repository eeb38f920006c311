-- The lines that wait for lanes: how they are gathered event by event, and how they are sent.
use Rattle.std.proofs.Common.{◌≡◌, ◌==◌, inl, inr, ℕ, suc, ◌+◌, ◌<◌, Bool, true, false, cond, eqb-true, eq-eqb, List, [], ◌∷◌, ◌++◌, length, take, get_or, filter_map, Option, Some, None, refl, sym, ap, ◌∙◌, subst, arith}
use Rattle.std.specs.List.{AllByRecursion, cons_option}
use Rattle.std.specs.List.Sorted.{IsStrictlyIncreasing}
use Rattle.std.proofs.lemmas.List.Elements.{filter_map-append}
use Rattle.std.proofs.Math.Seq.{take-suc}
use Rattle.std.specs.Map.{lookup}
use Rattle.std.specs.Ordering.{is_eq, nat_cmp}
use Rattle.rev_log.specs.Logs.{Log}
use Rattle.select_all.specs.Streams.{TransitionData}
use Rattle.select_all.proofs.EventLaws.{all_weaker}
use Rattle.event_ring.specs.Events.{EventRows}
use Rattle.watch_lane.specs.Index.{is_listed}
use Rattle.watch_lane.proofs.Numbers.{is_eq-nat_cmp}
use Rattle.cache_world.specs.Lanes.{LaneData}
use Rattle.cache_hub.specs.OpenLanes.{OpenLaneData, open_at}
use Rattle.cache_hub.specs.Due.{due, all_due, due_in, due_at, lines_in, lines_at, one, AddsEach, AddsTo, AllDue, AreReady, AreWaiting, IsReady, IsWaiting}

abbrev pub Waiting : Type 0
Waiting = List (ℕ × List TransitionData)

pub by_test : {P : Type 0} (b : Bool) → (b ≡ true → P) → (b ≡ false → P) → P
by_test true when otherwise = when refl
by_test false when otherwise = otherwise refl

pub same_number : (n : ℕ) → is_eq (nat_cmp n n) ≡ true
same_number n = is_eq-nat_cmp n n ∙ eq-eqb n n refl

-- ---- one line

pub put_again : (old between new : Waiting) (id : ℕ) (line : TransitionData) (before lines : List TransitionData) → before ≡ lines_at old id → lines ≡ before ++ line ∷ [] →
    ((q : ℕ) → lookup (λ other. is_eq (nat_cmp q other)) between ≡ cond (is_eq (nat_cmp id q)) None (lookup (λ other. is_eq (nat_cmp q other)) old)) →
    ((q : ℕ) → lookup (λ other. is_eq (nat_cmp q other)) new ≡ cond (is_eq (nat_cmp id q)) (Some lines) (lookup (λ other. is_eq (nat_cmp q other)) between)) → AddsTo id (Some line) old new
put_again old between new id line before lines was is taken updates = λ other. by_test (id == other)
    (λ same.
    let e : id ≡ other = eqb-true id other same in
    rw same (subst (λ q. lines_at new q ≡ lines_at old q ++ line ∷ []) e
    (ap lines_in (updates id ∙ ap (λ b. cond b (Some lines) (lookup (λ q. is_eq (nat_cmp id q)) between)) (same_number id)) ∙ is ∙ ap (λ xs. xs ++ line ∷ []) was)))
    (λ differs. rw differs (ap lines_in
    (updates other ∙ ap (λ b. cond b (Some lines) (lookup (λ q. is_eq (nat_cmp other q)) between)) (is_eq-nat_cmp id other ∙ differs)
    ∙ taken other ∙ ap (λ b. cond b None (lookup (λ q. is_eq (nat_cmp other q)) old)) (is_eq-nat_cmp id other ∙ differs))))

-- ---- one event

abbrev pub AreDistinct : List ℕ → Type 0
AreDistinct [] = Unit {0}
AreDistinct (x ∷ xs) = (is_listed xs x ≡ false) × AreDistinct xs

not_listed : (x : ℕ) (xs : List ℕ) → AllByRecursion (λ y. x < y) xs → is_listed xs x ≡ false
not_listed x [] above = refl
not_listed x (y ∷ ys) above = grind (arith, is_eq-nat_cmp x y, above.0, not_listed x ys above.1)

tail_increasing : (x : ℕ) (xs : List ℕ) → IsStrictlyIncreasing (x ∷ xs) → IsStrictlyIncreasing xs
tail_increasing x xs rising = λ k h. grind (arith, rising (k + 1) (omega (arith, h)))

all_above_head : (x : ℕ) (xs : List ℕ) → IsStrictlyIncreasing (x ∷ xs) → AllByRecursion (λ y. x < y) xs
all_above_head x [] rising = tt
all_above_head x (y ∷ ys) rising =
    let below : x < y = rising 0 (omega arith) in
    (below, all_weaker (λ (z : ℕ). y < z) (λ z. x < z) (λ z above. omega (arith, below, above)) ys (all_above_head y ys (tail_increasing x (y ∷ ys) rising)))

pub distinct_from_increasing : (ids : List ℕ) → IsStrictlyIncreasing ids → AreDistinct ids
distinct_from_increasing [] rising = tt
distinct_from_increasing (x ∷ xs) rising = (not_listed x xs (all_above_head x xs rising), distinct_from_increasing xs (tail_increasing x xs rising))

module _ (lanes : List (ℕ × OpenLaneData)) (event : EventRows) where
  -- what lanes that are still to be looked at will be told
  abbrev pub left : List ℕ → ℕ → List TransitionData
  left ids q = cond (is_listed ids q) (one (due_at lanes q event)) []

  -- of the lanes that the index answered these are left
  pub record IsNoting (start now : Waiting) (ids : List ℕ) : Type 0 where
    pub distinct : AreDistinct ids
    pub lines : (q : ℕ) → lines_at now q ++ left ids q ≡ lines_at start q ++ one (due_at lanes q event)

  pub noting_begins : (start : Waiting) (ids : List ℕ) → IsStrictlyIncreasing ids → ((q : ℕ) → is_listed ids q ≡ false → due_at lanes q event ≡ None) → IsNoting start start ids
  noting_begins start ids rising others = record {
    distinct = distinct_from_increasing ids rising;
    lines = λ q. by_test (is_listed ids q)
        (λ listed. rw listed refl)
        (λ other. ap (λ b. lines_at start q ++ cond b (one (due_at lanes q event)) []) other ∙ ap (λ l. lines_at start q ++ one l) (sym (others q other)));
  }

-- ---- what waits is what wasn't sent

one_due : (lane : LaneData) (event : EventRows) → lane.behind ≡ true → due lane event ≡ None
one_due lane event is = rw is refl

pub all_none : (lane : LaneData) (events : List EventRows) → lane.behind ≡ true → all_due lane events ≡ []
all_none lane [] is = refl
all_none lane (e ∷ es) is = ap (λ o. cons_option o (all_due lane es)) (one_due lane e is) ∙ all_none lane es is

pub is_waiting : (log : Log) (end : ℕ) (events : List EventRows) (o : OpenLaneData) (lines : List TransitionData) → IsReady log end events o → lines ≡ all_due o.lane events → IsWaiting log end lines (Some o)
is_waiting log end events o lines ready is = by_test o.lane.behind
    (λ behind. inl (behind, is ∙ all_none o.lane events behind))
    (λ ahead. inr (ahead, is ∙ ready ahead))

pub are_waiting : (log : Log) (end : ℕ) (events : List EventRows) (lanes : List (ℕ × OpenLaneData)) (waiting : Waiting) →
    AreReady log end events lanes → AllDue lanes events waiting → AreWaiting log end waiting lanes
are_waiting log end events lanes waiting ready all = λ id. by id (open_at lanes id) refl (all id)
  where
    by : (id : ℕ) (o : Option OpenLaneData) → open_at lanes id ≡ o → lines_at waiting id ≡ filter_map (due_at lanes id) events → IsWaiting log end (lines_at waiting id) (open_at lanes id)
    by id None is lines = subst (IsWaiting log end (lines_at waiting id)) (sym is) tt
    by id (Some o) is lines =
        subst (IsWaiting log end (lines_at waiting id)) (sym is) (is_waiting log end events o (lines_at waiting id) (ready id o is) (lines ∙ ap (λ l. filter_map (due_in l) events) is))

-- ---- event by event

one_is : (line : Option TransitionData) → cons_option line [] ≡ one line
one_is None = refl
one_is (Some line) = refl

pub due_on : (lane : LaneData) (events : List EventRows) (i : ℕ) (event : EventRows) → i < length events → event ≡ get_or events i event →
    all_due lane (take (i + 1) events) ≡ all_due lane (take i events) ++ one (due lane event)
due_on lane events i event within is = let next : suc i ≡ i + 1 = omega arith in
    ap (filter_map (due lane)) (ap (λ n. take n events) (sym next) ∙ take-suc events i event within ∙ ap (λ e. take i events ++ e ∷ []) (sym is))
    ∙ filter_map-append (due lane) (take i events) (event ∷ []) ∙ ap (λ xs. all_due lane (take i events) ++ xs) (one_is (due lane event))

pub all_due_on : (lanes : List (ℕ × OpenLaneData)) (events : List EventRows) (i : ℕ) (event : EventRows) (old new : Waiting) → i < length events → event ≡ get_or events i event →
    AllDue lanes (take i events) old → AddsEach lanes event old new → AllDue lanes (take (i + 1) events) new
all_due_on lanes events i event old new within is all adds = let next : suc i ≡ i + 1 = omega arith in λ id.
    adds id ∙ ap (λ xs. xs ++ one (due_at lanes id event)) (all id)
    ∙ ap (λ xs. filter_map (due_at lanes id) (take i events) ++ xs) (sym (one_is (due_at lanes id event)))
    ∙ sym (filter_map-append (due_at lanes id) (take i events) (event ∷ []))
    ∙ ap (filter_map (due_at lanes id)) (ap (λ e. take i events ++ e ∷ []) is ∙ sym (take-suc events i event within) ∙ ap (λ n. take n events) next)
