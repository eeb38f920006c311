-- What waits for lanes is sent lane by lane; where it could not be gathered, those whom it concerned are behind.
use Rattle.std.proofs.Common.{◌≡◌, ◌≢◌, ◌||◌, ◌⊎◌, inl, inr, ℕ, ◌<◌, length, Bool, true, false, cond, eqb-true, List, [], ◌∷◌, ◌++◌, append-nil, Option, Some, None, option_map, is_some, refl, sym, ap, ◌∙◌, subst, arith}
use Rattle.std.specs.List.{AllByRecursion, cons_option, list_any}
use Rattle.std.specs.Map.{lookup, keys_of}
use Rattle.std.specs.List.Sorted.{IsStrictlySortedBy}
use Rattle.std.proofs.lemmas.Map.Made.{is_some-lookup}
use Rattle.std.specs.Ordering.{is_eq, nat_cmp}
use Rattle.watch_lane.proofs.Numbers.{is_eq-nat_cmp, increasing_from_sorted}
use Rattle.rev_log.specs.Logs.{Log}
use Rattle.select_all.specs.Streams.{TransitionData}
use Rattle.event_ring.specs.Events.{EventRows}
use Rattle.cache_world.specs.Lanes.{LaneData, BatchData, unsent}
use Rattle.cache_world.proofs.LaneLemmas.{pumped_cases}
use Rattle.cache_hub.specs.OpenLanes.{OpenLaneData, AreChanged, AreTold, open_at, told_lane, left_behind}
use Rattle.cache_hub.specs.Due.{due, all_due, missed, lines_in, lines_at, AreReady, AreWaiting, IsWaiting}
use Rattle.cache_hub.proofs.PieceLemmas.{fell}
use Rattle.cache_hub.proofs.WaitingLemmas.{Waiting, AreDistinct, distinct_from_increasing, by_test, same_number, all_none}

pub none_is_some : false ≡ true → ⊥
none_is_some e = absurd (cc)

-- ---- a lane for which nothing came

told_nothing : (log : Log) (end : ℕ) (falls : Bool) (o : OpenLaneData) → (o.lane.behind ≡ true) ⊎ (unsent log end o.lane ≡ []) → told_lane log end falls o ≡ o
told_nothing log end falls o nothing =
    pumped_cases (λ (lane : LaneData) (sent : List BatchData). record o { lane = lane; sent = o.sent ++ sent } ≡ o) log end o.lane
    (λ _. ap (λ xs. record o { sent = xs }) (append-nil o.sent))
    (λ ahead came. absurd (neither nothing ahead came)) (λ ahead came. absurd (neither nothing ahead came)) falls
  where
    neither : (o.lane.behind ≡ true) ⊎ (unsent log end o.lane ≡ []) → o.lane.behind ≡ false → unsent log end o.lane ≢ [] → ⊥
    neither (inl behind) ahead came = absurd (cc)
    neither (inr none) ahead came = came none

pub nothing_waits : (log : Log) (end : ℕ) (lines : List TransitionData) (o : OpenLaneData) → lines ≡ [] → IsWaiting log end lines (Some o) → told_lane log end false o ≡ o
nothing_waits log end lines o none (inl behind) = told_nothing log end false o (inl behind.0)
nothing_waits log end lines o none (inr ahead) = told_nothing log end false o (inr (sym ahead.1 ∙ none))

-- ---- those that are left to be sent to

abbrev pub has : Waiting → ℕ → Bool
has rest q = is_some (lookup (λ other. is_eq (nat_cmp q other)) rest)

abbrev pub AreApart : Waiting → Type 0
AreApart [] = Unit {0}
AreApart (e ∷ rest) = (has rest e.0 ≡ false) × AreApart rest

module _ (log : Log) (end : ℕ) where
  -- a lane that is still to be sent to is as it was; any other was told
  abbrev pub IsSentTo : Bool → Option OpenLaneData → Option OpenLaneData → Type 0
  IsSentTo true before now = now ≡ before
  IsSentTo false before now = (falls : Bool) × (now ≡ option_map (told_lane log end falls) before)

  pub record AreSending (start now : List (ℕ × OpenLaneData)) (rest : Waiting) : Type 0 where
    pub apart : AreApart rest
    pub waiting : AllByRecursion (λ e. IsWaiting log end e.1 (open_at start e.0)) rest
    pub each : (q : ℕ) → IsSentTo (has rest q) (open_at start q) (open_at now q)

  pub none_waits : (o : Option OpenLaneData) → IsWaiting log end [] o → IsSentTo false o o
  none_waits None waits = (false, refl)
  none_waits (Some o) waits = (false, ap (λ (x : OpenLaneData). Some x) (sym (nothing_waits log end [] o refl waits)))

  in_rest : (start : List (ℕ × OpenLaneData)) (rest all : Waiting) → AreApart rest → AreWaiting log end all start →
      ((q : ℕ) → has rest q ≡ true → lines_at rest q ≡ lines_at all q) → AllByRecursion (λ e. IsWaiting log end e.1 (open_at start e.0)) rest
  in_rest start [] all apart waiting same = tt
  in_rest start (e ∷ rest) all apart waiting same = (
    subst (λ lines. IsWaiting log end lines (open_at start e.0)) (sym (same e.0 (ap (λ b. is_some (cond b (Some e.1) (lookup (λ other. is_eq (nat_cmp e.0 other)) rest))) (same_number e.0))) ∙ ap (λ b. lines_in (cond b (Some e.1) (lookup (λ other. is_eq (nat_cmp e.0 other)) rest))) (same_number e.0)) (waiting e.0),
    in_rest start rest all apart.1 waiting (λ q here. deeper q here),
  )
    where
      deeper : (q : ℕ) → has rest q ≡ true → lines_at rest q ≡ lines_at all q
      deeper q here = by_test (is_eq (nat_cmp q e.0))
          (λ same. absurd (none_is_some (sym apart.0 ∙ subst (λ n. has rest n ≡ true) (eqb-true q e.0 (sym (is_eq-nat_cmp q e.0) ∙ same)) here)))
          (λ differs. sym (ap (λ b. lines_in (cond b (Some e.1) (lookup (λ other. is_eq (nat_cmp q other)) rest))) differs)
          ∙ same q (ap (λ b. is_some (cond b (Some e.1) (lookup (λ other. is_eq (nat_cmp q other)) rest))) differs ∙ here))

  pub sending_begins : (start : List (ℕ × OpenLaneData)) (all : Waiting) → AreApart all → AreWaiting log end all start → AreSending start start all
  sending_begins start all apart waiting = record {
    apart = apart;
    waiting = in_rest start all all apart waiting (λ q here. refl);
    each = λ q. by (lookup (λ other. is_eq (nat_cmp q other)) all) q (waiting q);
  }
    where
      by : (found : Option (List TransitionData)) (q : ℕ) → IsWaiting log end (lines_in found) (open_at start q) → IsSentTo (is_some found) (open_at start q) (open_at start q)
      by None q waits = none_waits (open_at start q) waits
      by (Some lines) q waits = refl

  pub sending_ends : (start now : List (ℕ × OpenLaneData)) → AreSending start now [] → AreTold log end start now
  sending_ends start now sending = record { falls = λ q. (sending.each q).0; each = λ q. (sending.each q).1 }

  -- ---- where there was no memory

  abbrev is_cons : List TransitionData → Bool
  is_cons [] = false
  is_cons (t ∷ more) = true

  more_due : (line : Option TransitionData) (rest : List TransitionData) (any : Bool) → any ≡ is_cons rest → (is_some line || any) ≡ is_cons (cons_option line rest)
  more_due None rest any same = same
  more_due (Some t) rest any same = refl

  some_due : (lane : LaneData) (es : List EventRows) → list_any (λ e. is_some (due lane e)) es ≡ is_cons (all_due lane es)
  some_due lane [] = refl
  some_due lane (e ∷ es) = more_due (due lane e) (all_due lane es) (list_any (λ x. is_some (due lane x)) es) (some_due lane es)

  falls_is : (o : OpenLaneData) (came : List TransitionData) → o.lane.behind ≡ false → unsent log end o.lane ≡ came → cond (is_cons came) (left_behind o) o ≡ told_lane log end true o
  falls_is o [] is same = sym (told_nothing log end true o (inr same))
  falls_is o (t ∷ more) is same = fell log end o (t ∷ more) is same (λ none. absurd (cc))

  pub missed_is : (es : List EventRows) (o : OpenLaneData) → (o.lane.behind ≡ false → all_due o.lane es ≡ unsent log end o.lane) → missed es o ≡ told_lane log end true o
  missed_is es o ready = by_test o.lane.behind
      (λ behind. ap (λ b. cond b (left_behind o) o) (some_due o.lane es ∙ ap is_cons (all_none o.lane es behind))
      ∙ sym (told_nothing log end true o (inl behind)))
      (λ ahead. ap (λ b. cond b (left_behind o) o) (some_due o.lane es ∙ ap is_cons (ready ahead)) ∙ falls_is o (unsent log end o.lane) ahead refl)

  pub missed_are_told : (es : List EventRows) (old new : List (ℕ × OpenLaneData)) → AreReady log end es old → AreChanged (missed es) old new → AreTold log end old new
  missed_are_told es old new ready changed = record { falls = λ id. true; each = λ id. changed id ∙ by id (open_at old id) refl }
    where
      by : (id : ℕ) (o : Option OpenLaneData) → open_at old id ≡ o → option_map (missed es) o ≡ option_map (told_lane log end true) o
      by id None is = refl
      by id (Some o) is = ap (λ (x : OpenLaneData). Some x) (missed_is es o (ready id o is))

-- ---- the numbers of a map

pub apart_from_keys : (entries : Waiting) → AreDistinct (keys_of entries) → AreApart entries
apart_from_keys [] distinct = tt
apart_from_keys (e ∷ rest) distinct = (is_some-lookup (λ other. is_eq (nat_cmp e.0 other)) rest ∙ distinct.0, apart_from_keys rest distinct.1)

pub apart_from_sorted : (entries : Waiting) → IsStrictlySortedBy nat_cmp (keys_of entries) → AreApart entries
apart_from_sorted entries sorted = apart_from_keys entries (distinct_from_increasing (keys_of entries) (increasing_from_sorted (keys_of entries) sorted))

pub nothing_left : (entries : Waiting) → (0 < length entries → ⊥) → entries ≡ []
nothing_left [] none = refl
nothing_left (e ∷ rest) none = absurd (none (omega arith))
