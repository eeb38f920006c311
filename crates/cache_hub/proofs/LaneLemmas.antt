-- Lanes that stand for a log go on to do so, whatever call of the cache changes them.
use Rattle.std.proofs.Common.{◌≡◌, ◌==◌, ◌⊎◌, inl, inr, ◌++◌, ℕ, ◌≤◌, Bool, true, false, cond, nat_le, List, [], Option, Some, None, option_map, refl, sym, ◌∙◌, subst, arith}
use Rattle.std.proofs.lemmas.Bool.{leb-true, ltb-false}
use Rattle.kube_meta.specs.declared.resources.Resource.{Resource}
use Rattle.rev_log.specs.Logs.{Log, AreNumbered, end_of}
use Rattle.select_all.specs.declared.selection.Selection.{Selection}
use Rattle.select_all.specs.Selecting.{selects}
use Rattle.select_all.proofs.StreamLaws.{no_transitions}
use Rattle.event_ring.specs.Events.{EventRows}
use Rattle.cache_core.specs.Caches.{IsCacheOf, held_events, log_at}
use Rattle.cache_world.specs.Lanes.{LaneData, BatchData, IsInStep, unsent}
use Rattle.cache_world.proofs.LaneLemmas.{pumped_cases}
use Rattle.cache_hub.specs.OpenLanes.{OpenLaneData, Each, AreOf, SetsLane, AreTold, open_at, newly_open, told_lane, caught_up, left_behind}
use Rattle.cache_hub.specs.Due.{AreReady}
use Rattle.cache_hub.specs.Hubs.{HubData, StandsFor}
use Rattle.cache_hub.proofs.LogLemmas.{due_is_unsent, transitions_at}

-- ---- what holds of each lane of a cache that stands for a log

pub record IsGood (log : Log) (resource : Resource) (end : ℕ) (o : OpenLaneData) : Type 0 where
  pub of : o.lane.selection.resource ≡ resource
  pub in_step : IsInStep log end o.lane

pub each_good : (log : Log) (hub : HubData) → StandsFor log hub → Each (IsGood log hub.cache.resource hub.cache.end) hub.lanes.all
each_good log hub stands = λ id o here. record { of = stands.of id o here; in_step = stands.in_step id o here }

pub stands_by : (log : Log) (hub : HubData) → IsCacheOf log hub.cache → Each (IsGood log hub.cache.resource hub.cache.end) hub.lanes.all → StandsFor log hub
stands_by log hub cache good = record {
  cache = cache;
  of = λ id o here. (good id o here).of;
  in_step = λ id o here. (good id o here).in_step;
}

-- ---- a lane that is set, and lanes that are all changed

pub some_is : {A : Type 0} (a b : A) → Some a ≡ Some b → a ≡ b
some_is a b e = cc

pub each_set : (fact : OpenLaneData → Type 0) (old new : List (ℕ × OpenLaneData)) (id : ℕ) (lane : Option OpenLaneData) →
    SetsLane old new id lane → ((o : OpenLaneData) → lane ≡ Some o → fact o) → Each fact old → Each fact new
each_set fact old new id lane sets set each = λ other o here. by other o (id == other) (sym (sets other) ∙ here)
  where
    by : (other : ℕ) (o : OpenLaneData) (b : Bool) → cond b lane (open_at old other) ≡ Some o → fact o
    by other o true here = set o here
    by other o false here = each other o here

pub mapped_is : (change : OpenLaneData → OpenLaneData) (old : Option OpenLaneData) (o : OpenLaneData) → option_map change old ≡ Some o →
    (before : OpenLaneData) × (old ≡ Some before) × (change before ≡ o)
mapped_is change None o here = absurd (cc)
mapped_is change (Some before) o here = (before, refl, some_is (change before) o here)

pub each_changed_by : (fact : OpenLaneData → Type 0) (change : ℕ → OpenLaneData → OpenLaneData) (old new : List (ℕ × OpenLaneData)) →
    ((id : ℕ) → open_at new id ≡ option_map (change id) (open_at old id)) → ((id : ℕ) (o : OpenLaneData) → open_at old id ≡ Some o → fact (change id o)) → Each fact new
each_changed_by fact change old new changed made = λ id o here.
    let was = mapped_is (change id) (open_at old id) o (sym (changed id) ∙ here) in
    subst fact was.2 (made id was.0 was.1)

pub none_are : (fact : OpenLaneData → Type 0) → Each fact []
none_are fact = λ id o here. absurd (cc)

-- ---- what each call makes of a lane

pub good_opened : (log : Log) (resource : Resource) (s : Selection) (at end room : ℕ) → s.resource ≡ resource → IsGood log resource end (newly_open s at end room)
good_opened log resource s at end room of = record {
  of = of;
  in_step = λ ahead. no_transitions (selects s) log s.resource at end (ltb-false at end ahead);
}

pub good_caught : (log : Log) (resource : Resource) (to end : ℕ) (o : OpenLaneData) → IsGood log resource end o → IsGood log resource end (caught_up to end o)
good_caught log resource to end o good = by (nat_le end to) refl
  where
    by : (b : Bool) → nat_le end to ≡ b → IsGood log resource end (caught_up to end o)
    by true reached = record {
      of = rw reached good.of;
      in_step = rw reached (λ ahead. no_transitions (selects o.lane.selection) log o.lane.selection.resource to end (leb-true end to reached));
    }
    by false short = record { of = rw short good.of; in_step = rw short good.in_step }

pub good_behind : (log : Log) (resource : Resource) (end : ℕ) (o : OpenLaneData) → o.lane.selection.resource ≡ resource → IsGood log resource end (left_behind o)
good_behind log resource end o of = record { of = of; in_step = λ ahead. absurd (cc) }

pub good_told : (log : Log) (resource : Resource) (end : ℕ) (falls : Bool) (o : OpenLaneData) → o.lane.selection.resource ≡ resource → IsGood log resource end (told_lane log end falls o)
good_told log resource end falls o of =
    pumped_cases (λ (lane : LaneData) (sent : List BatchData). IsGood log resource end (record o { lane = lane; sent = o.sent ++ sent })) log end o.lane
    (λ nothing. record { of = of; in_step = λ ahead. none_came nothing ahead })
    (λ fed came. record { of = of; in_step = λ ahead. absurd (cc) })
    (λ fed came. record { of = of; in_step = λ ahead. no_transitions (selects o.lane.selection) log o.lane.selection.resource end end (omega arith) }) falls
  where
    none_came : (o.lane.behind ≡ true) ⊎ (unsent log end o.lane ≡ []) → o.lane.behind ≡ false → unsent log end o.lane ≡ []
    none_came (inl behind) ahead = absurd (cc)
    none_came (inr none) ahead = none

-- ---- a log up to a revision, and the whole log

in_step_upto : (log : Log) (at : ℕ) (lane : LaneData) → log.first ≤ at → at ≤ end_of log → IsInStep log at lane → IsInStep (log_at log at) at lane
in_step_upto log at lane begun reached step = λ ahead. transitions_at log lane.selection lane.mark at begun reached ∙ step ahead

in_step_whole : (log : Log) (at : ℕ) (lane : LaneData) → log.first ≤ at → at ≤ end_of log → IsInStep (log_at log at) at lane → IsInStep log at lane
in_step_whole log at lane begun reached step = λ ahead. sym (transitions_at log lane.selection lane.mark at begun reached) ∙ step ahead

pub good_upto : (log : Log) (resource : Resource) (at : ℕ) (o : OpenLaneData) → log.first ≤ at → at ≤ end_of log → IsGood log resource at o → IsGood (log_at log at) resource at o
good_upto log resource at o begun reached good = record { of = good.of; in_step = in_step_upto log at o.lane begun reached good.in_step }

-- each lane that isn't behind has to be told exactly what it wasn't sent
pub are_ready : (log : Log) (resource : Resource) (old new : ℕ) (es : List EventRows) (lanes : List (ℕ × OpenLaneData)) →
    AreNumbered log.first log.revisions → log.first ≤ old → old ≤ new → old ≤ end_of log → es ≡ held_events log resource old new →
    Each (IsGood (log_at log old) resource old) lanes → AreReady log new es lanes
are_ready log resource old new es lanes numbered begun onward reached held good = λ id o here ahead.
    let one = good id o here in
    due_is_unsent log o.lane es resource old new numbered onward held one.of (in_step_whole log old o.lane begun reached one.in_step ahead) ahead

-- what the lanes are after they were told
pub told_are_good : (log : Log) (resource : Resource) (end : ℕ) (old new : List (ℕ × OpenLaneData)) → log.first ≤ end → end ≤ end_of log →
    AreOf resource old → AreTold log end old new → Each (IsGood (log_at log end) resource end) new
told_are_good log resource end old new begun reached of told =
    each_changed_by (IsGood (log_at log end) resource end) (λ id. told_lane log end (told.falls id)) old new told.each
    (λ id o here. good_upto log resource end (told_lane log end (told.falls id) o) begun reached (good_told log resource end (told.falls id) o (of id o here)))
