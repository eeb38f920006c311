-- A change is told lane by lane, or in one walk over all lanes.
use Rattle.std.proofs.Common.{◌≡◌, ℕ, zero, suc, ◌+◌, ◌<◌, ◌≤◌, Bool, true, false, cond, eqb-true, eq-eqb, length, take, get_or, slice_get, filter_map, arith, List, [], ◌∷◌, ◌++◌, Option, Some, None, option_map, refl, sym, ap, ◌∙◌, subst}
use Rattle.std.specs.Prelude.{nat_eq}
use Rattle.std.specs.List.{AllByRecursion, IsDistinct, cons_option}
use Rattle.std.specs.List.Sorted.{IsStrictlyIncreasing}
use Rattle.std.proofs.lemmas.List.Elements.{filter_map-append}
use Rattle.std.proofs.Math.Seq.{take-suc}
use Rattle.std.specs.Map.{keys_of, values_of}
use Rattle.indexmap.specs.IndexMap.{set_value_at}
use Rattle.rev_log.specs.Logs.{Log}
use Rattle.event_ring.specs.Events.{EventRows}
use Rattle.watch_lane.specs.Index.{is_listed}
use Rattle.select_all.specs.declared.selection.Selection.{Selection}
use Rattle.watch_lane.specs.Batches.{PieceData}
use Rattle.cache_hub.specs.OpenLanes.{OpenLaneData, Each, AreTold, open_at, told_lane}
use Rattle.cache_hub.specs.Due.{due_at, due_in, AreReady, AreSilent, AreUntold, IsPieceOf, IsWaiting}
use Rattle.cache_hub.proofs.BothLemmas.{none_is}
use Rattle.cache_hub.proofs.LaneLemmas.{some_is}
use Rattle.cache_hub.proofs.WaitingLemmas.{AreDistinct, by_test, distinct_from_increasing, is_waiting}
use Rattle.cache_hub.proofs.SendLemmas.{IsSentTo, none_waits}

module _ (log : Log) (end : ℕ) where
  -- the lanes under these numbers are still to be told; each other one was told, or has to be told nothing
  pub record AreTelling (start now : List (ℕ × OpenLaneData)) (ids : List ℕ) : Type 0 where
    pub distinct : AreDistinct ids
    pub each : (q : ℕ) → IsSentTo log end (is_listed ids q) (open_at start q) (open_at now q)

  pub telling_begins : (start : List (ℕ × OpenLaneData)) (events : List EventRows) (ids : List ℕ) → IsStrictlyIncreasing ids →
      AreSilent start events ids → AreReady log end events start → AreTelling start start ids
  telling_begins start events ids rising others ready = record {
    distinct = distinct_from_increasing ids rising;
    each = λ q. by (is_listed ids q) q refl;
  }
    where
      waits : (q : ℕ) (o : Option OpenLaneData) → open_at start q ≡ o → filter_map (due_in o) events ≡ [] → IsWaiting log end [] o
      waits q None is none = tt
      waits q (Some o) is none = is_waiting log end events o [] (ready q o is) (sym none)

      by : (b : Bool) (q : ℕ) → is_listed ids q ≡ b → IsSentTo log end (is_listed ids q) (open_at start q) (open_at start q)
      by true q is = subst (λ b. IsSentTo log end b (open_at start q) (open_at start q)) (sym is) refl
      by false q is = subst (λ b. IsSentTo log end b (open_at start q) (open_at start q)) (sym is) (none_waits log end (open_at start q) (waits q (open_at start q) refl (others q is)))

  pub telling_ends : (start now : List (ℕ × OpenLaneData)) → AreTelling start now [] → AreTold log end start now
  telling_ends start now telling = record { falls = λ q. (telling.each q).0; each = λ q. (telling.each q).1 }

  -- ---- one walk over all lanes

  -- the first lanes were told, and the others are as they were
  abbrev pub AreWalked : ℕ → List (ℕ × OpenLaneData) → List (ℕ × OpenLaneData) → Type 0
  AreWalked i [] now = now ≡ []
  AreWalked zero (e ∷ es) now = now ≡ e ∷ es
  AreWalked (suc i) (e ∷ es) [] = ⊥
  AreWalked (suc i) (e ∷ es) (x ∷ xs) = (x.0 ≡ e.0) × ((falls : Bool) × (x.1 ≡ told_lane log end falls e.1)) × AreWalked i es xs

  pub walk_begins : (start : List (ℕ × OpenLaneData)) → AreWalked zero start start
  walk_begins [] = refl
  walk_begins (e ∷ es) = refl

  pub walked_on : (i : ℕ) (start now : List (ℕ × OpenLaneData)) (lane later : OpenLaneData) → AreWalked i start now → slice_get (values_of now) i ≡ Some lane →
      (falls : Bool) × (later ≡ told_lane log end falls lane) → AreWalked (suc i) start (set_value_at now i later)
  walked_on i [] now lane later walked found told = none_is lane (ap (λ xs. slice_get (values_of xs) i) (sym walked) ∙ found)
  walked_on zero (e ∷ es) now lane later walked found told =
      subst (λ (xs : List (ℕ × OpenLaneData)). AreWalked 1 (e ∷ es) (set_value_at xs 0 later)) (sym walked)
      (refl, (told.0, told.1 ∙ ap (told_lane log end told.0) (some_is lane e.1 (sym found ∙ ap (λ xs. slice_get (values_of xs) 0) walked))), walk_begins es)
  walked_on (suc i) (e ∷ es) [] lane later walked found told = elim walked [ ]
  walked_on (suc i) (e ∷ es) (x ∷ xs) lane later walked found told = (walked.0, walked.1, walked_on i es xs lane later walked.2 found told)

  -- what holds of each lane as it was holds of one that wasn't walked over
  pub fact_at : (fact : OpenLaneData → Type 0) (i : ℕ) (start now : List (ℕ × OpenLaneData)) (lane : OpenLaneData) → AllByRecursion (λ e. fact e.1) start →
      AreWalked i start now → slice_get (values_of now) i ≡ Some lane → fact lane
  fact_at fact i [] now lane all walked found = none_is lane (ap (λ xs. slice_get (values_of xs) i) (sym walked) ∙ found)
  fact_at fact zero (e ∷ es) now lane all walked found =
      subst fact (some_is e.1 lane (ap (λ xs. slice_get (values_of xs) 0) (sym walked) ∙ found)) all.0
  fact_at fact (suc i) (e ∷ es) [] lane all walked found = elim walked [ ]
  fact_at fact (suc i) (e ∷ es) (x ∷ xs) lane all walked found = fact_at fact i es xs lane all.1 walked.2 found

  pub walk_ends : (i : ℕ) (start now : List (ℕ × OpenLaneData)) → length start ≤ i → AreWalked i start now → AreTold log end start now
  walk_ends i [] now all walked = record { falls = λ id. false; each = λ id. ap (λ xs. open_at xs id) walked }
  walk_ends zero (e ∷ es) now all walked = absurd (omega (arith, all))
  walk_ends (suc i) (e ∷ es) [] all walked = elim walked [ ]
  walk_ends (suc i) (e ∷ es) (x ∷ xs) all walked =
      let rest = walk_ends i es xs (omega (arith, all)) walked.2 in
      record {
        falls = λ id. cond (nat_eq id e.0) walked.1.0 (rest.falls id);
        each = λ id. ap (λ n. cond (nat_eq id n) (Some x.1) (open_at xs id)) walked.0
            ∙ told_first id (nat_eq id e.0) walked.1.0 rest.falls e.1 x.1 es xs walked.1.1 (rest.each id);
      }
    where
      -- the first lane was told, and the others were
      told_first : (id : ℕ) (here falls : Bool) (others : ℕ → Bool) (before now : OpenLaneData) (old new : List (ℕ × OpenLaneData)) → now ≡ told_lane log end falls before →
          open_at new id ≡ option_map (told_lane log end (others id)) (open_at old id) →
          cond here (Some now) (open_at new id) ≡ option_map (told_lane log end (cond here falls (others id))) (cond here (Some before) (open_at old id))
      told_first id true falls others before now old new told rest = ap (λ (x : OpenLaneData). Some x) told
      told_first id false falls others before now old new told rest = rest

-- ---- what holds of each lane, by number and by place

-- no lane has a number that differs from those of all of them
absent : (id : ℕ) (lanes : List (ℕ × OpenLaneData)) → AllByRecursion (λ other. nat_eq id other ≡ false) (keys_of lanes) → open_at lanes id ≡ None
absent id [] apart = refl
absent id (e ∷ rest) apart = rw apart.0 (absent id rest apart.1)

-- it holds of the lanes behind the first one too, since none of them has its number
each_behind : (fact : OpenLaneData → Type 0) (e : ℕ × OpenLaneData) (rest : List (ℕ × OpenLaneData)) → open_at rest e.0 ≡ None → Each fact (e ∷ rest) → Each fact rest
each_behind fact e rest apart each = λ id o here. by_test (nat_eq id e.0)
    (λ same. none_is o (sym apart ∙ subst (λ n. open_at rest n ≡ Some o) (eqb-true id e.0 same) here))
    (λ differs. each id o (ap (λ b. cond b (Some e.1) (open_at rest id)) differs ∙ here))

pub each_all : (fact : OpenLaneData → Type 0) (lanes : List (ℕ × OpenLaneData)) → IsDistinct nat_eq (keys_of lanes) → Each fact lanes → AllByRecursion (λ e. fact e.1) lanes
unfolding IsDistinct
each_all fact [] distinct each = tt
each_all fact (e ∷ rest) distinct each = (
  each e.0 e.1 (ap (λ b. cond b (Some e.1) (open_at rest e.0)) (eq-eqb e.0 e.0 refl)),
  each_all fact rest distinct.1 (each_behind fact e rest (absent e.0 rest distinct.0) each),
)

-- a piece of the selection of one of several lanes that are alike is of that of each
pub piece_for_all : (log : Log) (end : ℕ) (s own : Selection) (piece : Option PieceData) (lanes : List (ℕ × OpenLaneData)) → AllByRecursion (λ e. e.1.lane.selection ≡ s) lanes →
    own ≡ s → IsPieceOf log end own piece → AllByRecursion (λ e. IsPieceOf log end e.1.lane.selection piece) lanes
piece_for_all log end s own piece [] alike same is = tt
piece_for_all log end s own piece (e ∷ es) alike same is = (
  subst (λ x. IsPieceOf log end x piece) (same ∙ sym alike.0) is,
  piece_for_all log end s own piece es alike.1 same is,
)

-- no piece is one of each
pub no_piece : (log : Log) (end : ℕ) (lanes : List (ℕ × OpenLaneData)) → AllByRecursion (λ e. IsPieceOf log end e.1.lane.selection None) lanes
no_piece log end [] = tt
no_piece log end (e ∷ es) = (tt, no_piece log end es)

-- ---- lanes that several events don't concern, event by event

pub silent_on : (lanes : List (ℕ × OpenLaneData)) (events : List EventRows) (i : ℕ) (event : EventRows) (ids : List ℕ) → i < length events → event ≡ get_or events i event →
    AreSilent lanes (take i events) ids → AreUntold lanes event ids → AreSilent lanes (take (i + 1) events) ids
silent_on lanes events i event ids within is silent untold = let next : suc i ≡ i + 1 = omega arith in λ id other.
    ap (filter_map (due_at lanes id)) (ap (λ n. take n events) (sym next) ∙ take-suc events i event within ∙ ap (λ e. take i events ++ e ∷ []) (sym is))
    ∙ filter_map-append (due_at lanes id) (take i events) (event ∷ [])
    ∙ ap (λ xs. xs ++ filter_map (due_at lanes id) (event ∷ [])) (silent id other)
    ∙ ap (λ line. cons_option line []) (untold id other)
