-- What the calls of a hub make of its lanes is what steps make of the watches in the world.
use Rattle.std.proofs.Common.{◌≡◌, ◌≢◌, ◌⊎◌, ℕ, ◌-◌, ◌<◌, ◌≤◌, max, Bool, true, false, List, [], ◌∷◌, ◌++◌, drop, length, Option, Some, None, option_map, option_to_list, inl, inr, nat_eq, cond, eqb-true, eq-eqb, take-append-drop, append_assoc, append-nil, length-append, refl, sym, ap, ◌∙◌, subst, arith}
use Rattle.std.proofs.lemmas.Bool.{cases_Bool, cases_lt}
use Rattle.kube_meta.specs.declared.resources.Resource.{Resource}
use Rattle.rev_log.specs.Changes.{RevisionData}
use Rattle.rev_log.specs.Logs.{Log, grown, end_of, upto}
use Rattle.select_all.specs.declared.selection.Selection.{Selection}
use Rattle.select_all.specs.Selecting.{selects}
use Rattle.select_all.specs.Streams.{TransitionData, transitions}
use Rattle.select_all.specs.Floors.{IsFloorOk}
use Rattle.select_all.proofs.FloorSteps.{floors_are_kept}
use Rattle.select_all.proofs.StreamLaws.{transitions_are_kept, no_transitions}
use Rattle.up_api.specs.Feeds.{HistoryData}
use Rattle.cache_core.specs.Caches.{CacheData, log_at}
use Rattle.cache_core.specs.Feeding.{Stays, IsRebuilt}
use Rattle.cache_world.specs.Lanes.{LaneData, BatchData, Batches, MissesNothing, IsPlacePumped, ArePumped, unsent, lane_after, queue_after, pumped_lane, queued, rebuilt_lane, caught_lane}
use Rattle.cache_world.specs.World.{WatchData, World}
use Rattle.cache_world.specs.Steps.{MayPump, caught_watch, after}
use Rattle.cache_world.specs.Steps.Step.{Pump, Rebuild, Open, CatchUp, Lose, Close}
use Rattle.cache_world.specs.Ties.{HasHub, AreChangedAt, IsOf}
use Rattle.cache_world.proofs.LaneLemmas.{pumped_cases}
use Rattle.cache_world.proofs.PlaceLemmas.{same_self, known_some}
use Rattle.cache_world.proofs.TieLemmas.{are_computed, pumps_are_steps, rebuilds_are_steps, opens_are_steps, catch_ups_are_steps, losses_are_steps, closes_are_steps}
use Rattle.cache_hub.specs.Catching.{CaughtData, EndsWith, IsCaught}
use Rattle.cache_hub.specs.Hubs.{HubData, StandsFor, OnlyLanes, HasCaughtUp}
use Rattle.cache_hub.specs.OpenLanes.{OpenLaneData, GoesAlong, AreTold, AreChanged, SetsLane, told_lane, caught_up, newly_open, left_behind, open_at}
use Rattle.laws.specs.HubSteps.{sent_of, view_of, IsHubIn, HasReceived, HasWatch, IsWatchAt, IsPump, IsRebuild, IsOpening, IsCatchUp, IsLoss, IsClosing}

-- ---- logs

-- a log is what it was up to a revision, and more
cut_log : (log : Log) (at : ℕ) → grown (log_at log at) (drop (at - log.first) log.revisions) ≡ log
cut_log log at = ap (λ (revisions : List RevisionData). record log { revisions = revisions }) (take-append-drop (at - log.first) log.revisions)

grown_twice : (log : Log) (more further : List RevisionData) → grown (grown log more) further ≡ grown log (more ++ further)
grown_twice log more further = ap (λ (revisions : List RevisionData). record log { revisions = revisions }) (append_assoc log.revisions more further)

-- a window's floor, where all is called by other names
floor_named : (l m : Log) (r q : Resource) (a b c d e f end x : ℕ) → l ≡ m → r ≡ q → a ≡ b → c ≡ d → e ≡ f → IsFloorOk l r a c e end x → IsFloorOk m q b d f end x
floor_named l m r q a b c d e f end x same_log same_resource same_low same_high same_base =
    subst (λ (z : Log × Resource × ℕ × ℕ × ℕ). IsFloorOk z.0 z.1 z.2 z.3 z.4 end x) (λ k. (same_log k, same_resource k, same_low k, same_high k, same_base k))

-- the floor of a hub's ring is one in each log that goes on from the one that it stands for
floor_of : (log later : Log) (more : List RevisionData) (hub : HubData) → later ≡ grown log more → StandsFor (log_at log hub.cache.end) hub →
    IsFloorOk later hub.cache.resource hub.cache.ring.window hub.cache.ring.window_max hub.cache.base hub.cache.end hub.cache.ring.floor
floor_of log later more hub same stands =
    let ended = stands.cache.ended in
    let kept = (floors_are_kept (log_at log hub.cache.end) (drop (hub.cache.end - log.first) log.revisions ++ more) hub.cache.resource hub.cache.ring.window hub.cache.ring.window_max hub.cache.base hub.cache.end hub.cache.ring.floor (omega (arith, ended))).0 stands.cache.ring.floor in
    subst (λ (l : Log). IsFloorOk l hub.cache.resource hub.cache.ring.window hub.cache.ring.window_max hub.cache.base hub.cache.end hub.cache.ring.floor)
    (sym (grown_twice (log_at log hub.cache.end) (drop (hub.cache.end - log.first) log.revisions) more) ∙ ap (λ (l : Log). grown l more) (cut_log log hub.cache.end) ∙ sym same) kept

-- ---- lanes by their numbers

-- the lane of what is open
abbrev lane_in : Option OpenLaneData → Option LaneData
lane_in place = option_map (λ o. o.lane) place

swapped : (a b : ℕ) → nat_eq a b ≡ nat_eq b a
swapped a b = elim (cases_Bool (nat_eq b a)) [
  | inl e ↦ eq-eqb a b (sym (eqb-true b a e)) ∙ sym e
  | inr e ↦ elim (cases_Bool (nat_eq a b)) [
    | inl f ↦ absurd (let g : nat_eq b a ≡ true = eq-eqb b a (sym (eqb-true a b f)) in cc)
    | inr f ↦ f ∙ sym e
  ]
]

-- lanes of which one was set are those but for one place
set_changes : (old new : List (ℕ × OpenLaneData)) (id : ℕ) (place : Option OpenLaneData) → SetsLane old new id place → AreChangedAt id (lane_in place) (λ n. lane_in (open_at old n)) (λ n. lane_in (open_at new n))
set_changes old new id place sets n =
    ap lane_in (sets n ∙ ap (λ (b : Bool). cond b place (open_at old n)) (swapped id n)) ∙ by_test (nat_eq n id)
  where
    by_test : (b : Bool) → lane_in (cond b place (open_at old n)) ≡ cond b (lane_in place) (lane_in (open_at old n))
    by_test true = refl
    by_test false = refl

-- the hub is the world's again where its lanes alone changed
lanes_alone : (world : World) (number : ℕ → ℕ) (old new : HubData) → OnlyLanes old new → world.window ≡ old.cache.ring.window → world.window_max ≡ old.cache.ring.window_max →
    HasHub world old.cache.resource number (record (view_of old) { lanes = (view_of new).lanes }) → IsHubIn world number new
lanes_alone world number old new only window window_max has = record {
  has = subst (λ (c : CacheData). HasHub world c.resource number (record { end = c.end; base = c.base; low = c.ring.floor; lanes = (view_of new).lanes })) (sym only.cache) has;
  window = window ∙ ap (λ (c : CacheData). c.ring.window) (sym only.cache);
  window_max = window_max ∙ ap (λ (c : CacheData). c.ring.window_max) (sym only.cache);
}

-- ---- polls

abbrev head_of : List BatchData → Option BatchData
head_of [] = None
head_of (x ∷ xs) = Some x

module _ (log : Log) (end : ℕ) where
  -- a pump puts at most one batch into a queue
  one_queued : (falls : Bool) (lane : LaneData) → queued log end falls lane ≡ option_to_list (head_of (queued log end falls lane))
  one_queued falls lane = pumped_cases (λ _ (sent : List BatchData). sent ≡ option_to_list (head_of sent)) log end lane (λ _. refl) (λ _ _. refl) (λ _ _. refl) falls

  abbrev batch_at : Bool → Option OpenLaneData → Option BatchData
  batch_at falls None = None
  batch_at falls (Some o) = head_of (queued log end falls o.lane)

  place_pumped : (falls : Bool) (old new : Option OpenLaneData) → new ≡ option_map (told_lane log end falls) old → IsPlacePumped log end (lane_in old) (batch_at falls old) (lane_in new)
  place_pumped falls None new told = (refl, ap lane_in told)
  place_pumped falls (Some o) new told =
      subst (λ (n : Option OpenLaneData). IsPlacePumped log end (Some o.lane) (head_of (queued log end falls o.lane)) (lane_in n)) (sym told)
      ((are_computed log end o.lane (pumped_lane log end falls o.lane) (head_of (queued log end falls o.lane))).1 (falls, refl, one_queued falls o.lane))

  place_sent : (falls : Bool) (old new : Option OpenLaneData) → new ≡ option_map (told_lane log end falls) old → sent_of new ≡ sent_of old ++ option_to_list (batch_at falls old)
  place_sent falls None new told = ap sent_of told
  place_sent falls (Some o) new told = ap sent_of told ∙ ap (λ (batches : List BatchData). o.sent ++ batches) (one_queued falls o.lane)

-- what lanes are told of a log they are told of each that goes on from it
unsent_grown : (log : Log) (more : List RevisionData) (end : ℕ) (lane : LaneData) → end ≤ end_of log → unsent (grown log more) end lane ≡ unsent log end lane
unsent_grown log more end lane within = transitions_are_kept (selects lane.selection) log more lane.selection.resource lane.mark end (omega (arith, within))

told_grown : (log : Log) (more : List RevisionData) (end : ℕ) (old new : List (ℕ × OpenLaneData)) → end ≤ end_of log → AreTold log end old new → AreTold (grown log more) end old new
told_grown log more end old new within told = record {
  falls = told.falls;
  each = λ id. told.each id ∙ same (open_at old id) (told.falls id);
}
  where
    same : (place : Option OpenLaneData) (falls : Bool) → option_map (told_lane log end falls) place ≡ option_map (told_lane (grown log more) end falls) place
    same None falls = refl
    same (Some o) falls = ap (λ (came : List TransitionData). Some (record o { lane = lane_after o.lane end o.lane.behind came falls; sent = o.sent ++ queue_after o.lane end o.lane.behind came falls })) (sym (unsent_grown log more end o.lane within))

module _ (world : World) (number : ℕ → ℕ) (old new : HubData) (is : IsHubIn world number old) (stays : Stays old.cache new.cache) (base : new.cache.base ≡ old.cache.base)
    (onward : old.cache.end ≤ new.cache.end) (within : new.cache.end ≤ end_of world.log) (rises : old.cache.ring.floor ≤ new.cache.ring.floor)
    (floor_ok : IsFloorOk world.log new.cache.resource new.cache.ring.window new.cache.ring.window_max new.cache.base new.cache.end new.cache.ring.floor)
    (told : AreTold world.log new.cache.end old.lanes.all new.lanes.all) where
  abbrev batches : Batches
  batches id = batch_at world.log new.cache.end (told.falls id) (open_at old.lanes.all id)

  pumped : ArePumped world.log new.cache.end (view_of old).lanes batches (view_of new).lanes
  pumped id = place_pumped world.log new.cache.end (told.falls id) (open_at old.lanes.all id) (open_at new.lanes.all id) (told.each id)

  may : MayPump world old.cache.resource new.cache.end new.cache.ring.floor
  may =
      let end_is = is.has.end_is in
      let low_is = is.has.low_is in
      record {
        onward = omega arith;
        within = within;
        rises = omega arith;
        floor_ok = floor_named world.log world.log new.cache.resource old.cache.resource new.cache.ring.window world.window new.cache.ring.window_max world.window_max new.cache.base (world.caches old.cache.resource).base new.cache.end new.cache.ring.floor
            refl stays.resource (stays.window ∙ sym is.window) (stays.window_max ∙ sym is.window_max) (base ∙ sym is.has.base_is) floor_ok;
      }

  hub_is : (falls : ℕ → Bool) → HasHub (after world (Pump old.cache.resource new.cache.end new.cache.ring.floor falls)) old.cache.resource number (view_of new) →
      IsHubIn (after world (Pump old.cache.resource new.cache.end new.cache.ring.floor falls)) number new
  hub_is falls has = record {
    has = subst (λ (r : Resource). HasHub (after world (Pump old.cache.resource new.cache.end new.cache.ring.floor falls)) r number (view_of new)) (sym stays.resource) has;
    window = is.window ∙ sym stays.window;
    window_max = is.window_max ∙ sym stays.window_max;
  }

polls_in : (world : World) (number : ℕ → ℕ) (log : Log) (more : List RevisionData) (old new : HubData) → world.log ≡ grown log more → StandsFor (log_at log new.cache.end) new → new.cache.end ≤ end_of log → AreTold log new.cache.end old.lanes.all new.lanes.all →
    (new.cache.end ≤ end_of world.log) × IsFloorOk world.log new.cache.resource new.cache.ring.window new.cache.ring.window_max new.cache.base new.cache.end new.cache.ring.floor × AreTold world.log new.cache.end old.lanes.all new.lanes.all
polls_in world number log more old new same stands within told = (
  omega (arith, ap end_of same, length-append log.revisions more),
  floor_of log world.log more new same stands,
  subst (λ (l : Log). AreTold l new.cache.end old.lanes.all new.lanes.all) (sym same) (told_grown log more new.cache.end old.lanes.all new.lanes.all within told),
)

pub polls_are_pumps : (log : Log) (old new : HubData) → StandsFor (log_at log new.cache.end) new → Stays old.cache new.cache → new.cache.base ≡ old.cache.base →
    old.cache.end ≤ new.cache.end → new.cache.end ≤ end_of log → old.cache.ring.floor ≤ new.cache.ring.floor → AreTold log new.cache.end old.lanes.all new.lanes.all →
    IsPump log old new
polls_are_pumps log old new stands kept base onward within rises told world number more same is =
    let here = polls_in world number log more old new same stands within told in
    let made = pumps_are_steps world old.cache.resource number (view_of old) (view_of new) (batches world number old new is kept base onward here.0 rises here.1 here.2) is.has
    (may world number old new is kept base onward here.0 rises here.1 here.2) base (pumped world number old new is kept base onward here.0 rises here.1 here.2) in (
      made.0,
      (
        record { allowed = made.1.0.allowed; is = hub_is world number old new is kept base onward here.0 rises here.1 here.2 made.0 made.1.0.shows },
        λ i watches. (
          option_to_list (batches world number old new is kept base onward here.0 rises here.1 here.2 (number i)),
          made.1.1 i watches,
          place_sent world.log new.cache.end (here.2.falls (number i)) (open_at old.lanes.all (number i)) (open_at new.lanes.all (number i)) (here.2.each (number i)),
        ),
      ),
    )

-- ---- histories

all_behind : (old new : List (ℕ × OpenLaneData)) → AreChanged left_behind old new → (n : ℕ) → lane_in (open_at new n) ≡ option_map rebuilt_lane (lane_in (open_at old n))
all_behind old new changed n = ap lane_in (changed n) ∙ at_place (open_at old n)
  where
    at_place : (place : Option OpenLaneData) → lane_in (option_map left_behind place) ≡ option_map rebuilt_lane (lane_in place)
    at_place None = refl
    at_place (Some o) = refl

pub histories_are_rebuilds : (log : Log) (history : HistoryData) (old new : HubData) → StandsFor (log_at log new.cache.end) new → IsRebuilt history old.cache new.cache →
    AreChanged left_behind old.lanes.all new.lanes.all → IsRebuild log history old new
histories_are_rebuilds log history old new stands rebuilt changed world number same is floor upto =
    let floor_ok = floor_of world.log world.log [] new (sym (cut_none world.log)) (subst (λ (l : Log). StandsFor (log_at l new.cache.end) new) (sym same) stands) in
    let step = rebuilds_are_steps world old.cache.resource number (view_of old) (view_of new) is.has (rebuilt.end ∙ upto) (rebuilt.base ∙ floor)
    (floor_named world.log world.log new.cache.resource old.cache.resource new.cache.ring.window world.window new.cache.ring.window_max world.window_max new.cache.base new.cache.base new.cache.end new.cache.ring.floor
    refl rebuilt.stays.resource (rebuilt.stays.window ∙ sym is.window) (rebuilt.stays.window_max ∙ sym is.window_max) refl floor_ok)
    (all_behind old.lanes.all new.lanes.all changed) in
    record {
      allowed = step.allowed;
      is = record {
        has = subst (λ (r : Resource). HasHub (after world (Rebuild old.cache.resource new.cache.ring.floor)) r number (view_of new)) (sym rebuilt.stays.resource) step.shows;
        window = is.window ∙ sym rebuilt.stays.window;
        window_max = is.window_max ∙ sym rebuilt.stays.window_max;
      };
    }
  where
    cut_none : (log : Log) → grown log [] ≡ log
    cut_none log = ap (λ (revisions : List RevisionData). record log { revisions = revisions }) (append-nil log.revisions)

-- ---- lanes

pub lanes_open : (old new : HubData) (id : ℕ) (s : Selection) (at : ℕ) → s.resource ≡ old.cache.resource → open_at old.lanes.all id ≡ None → OnlyLanes old new →
    SetsLane old.lanes.all new.lanes.all id (Some (newly_open s at old.cache.end old.lanes.room)) → IsOpening id s at old new
lanes_open old new id s at of free only sets world number next i is none served renumbered numbered =
    let step = opens_are_steps world number next (view_of old) (view_of new).lanes i s at
    (subst (λ (r : Resource). HasHub world r number (view_of old)) (sym of) is.has) none served renumbered (subst (λ (n : ℕ). lane_in (open_at old.lanes.all n) ≡ None) (sym numbered) (ap lane_in free))
    (subst (λ (n : ℕ). AreChangedAt n (Some (newly_open s at old.cache.end old.lanes.room).lane) (view_of old).lanes (view_of new).lanes) (sym numbered)
    (set_changes old.lanes.all new.lanes.all id (Some (newly_open s at old.cache.end old.lanes.room)) sets)) in
    record {
      allowed = step.allowed;
      is = lanes_alone (after world (Open i s at)) next old new only is.window is.window_max
          (subst (λ (r : Resource). HasHub (after world (Open i s at)) r next (record (view_of old) { lanes = (view_of new).lanes })) of step.shows);
    }

-- the lane of a client that watches stands under its number
lane_there : (world : World) (number : ℕ → ℕ) (hub : HubData) (i : ℕ) (watch : WatchData) → IsHubIn world number hub → HasWatch world i watch → watch.lane.selection.resource ≡ hub.cache.resource → lane_in (open_at hub.lanes.all (number i)) ≡ Some watch.lane
lane_there world number hub i watch is same of =
    known_some (λ w. IsOf hub.cache.resource w → lane_in (open_at hub.lanes.all (number i)) ≡ Some w.lane) (world.clients i).watch watch same (is.has.lanes i)
    (subst (λ (r : Resource). IsOf r watch) of (same_self watch.lane.selection.resource))

caught_in : (to end : ℕ) (place : Option OpenLaneData) (lane : LaneData) → lane_in place ≡ Some lane → lane_in (option_map (caught_up to end) place) ≡ Some (caught_lane to end lane)
caught_in to end None lane there = absurd (cc)
caught_in to end (Some o) lane there = let same : o.lane ≡ lane = cc in ap (λ (l : LaneData). Some (caught_lane to end l)) same

-- what a watch is told ends between its position and the cache's end
module _ (log : Log) (s : Selection) (at end many : ℕ) (caught : CaughtData) (is : IsCaught log s at end many caught) where
  onward_by : (caught.upto ≡ max at end) ⊎ ((many ≤ length caught.lines) × EndsWith caught.lines caught.upto × (caught.upto ≤ end) × (transitions log s caught.upto end ≢ [])) → at ≤ caught.upto
  onward_by (inl all) = omega (arith, all)
  onward_by (inr part) = elim (cases_lt caught.upto at) [
    | inl below ↦ absurd (no_end part.1.before part.1.line (sym part.1.are ∙ is.exact ∙ no_transitions (selects s) log s.resource at caught.upto (omega (arith, below))))
    | inr above ↦ above
  ]
    where
      no_end : (before : List TransitionData) (line : TransitionData) → before ++ line ∷ [] ≡ [] → ⊥
      no_end before line e = absurd (omega (arith, ap length e, length-append before (line ∷ [])))

  reached_by : (caught.upto ≡ max at end) ⊎ ((many ≤ length caught.lines) × EndsWith caught.lines caught.upto × (caught.upto ≤ end) × (transitions log s caught.upto end ≢ [])) → caught.upto ≤ max at end
  reached_by (inl all) = omega (arith, all)
  reached_by (inr part) = omega (arith, part.2)

-- a watch whose position the ring serves, or that misses nothing
caught_is_received : (world : World) (number : ℕ → ℕ) (old new : HubData) (i many : ℕ) (watch : WatchData) (caught : CaughtData) →
    IsHubIn world number old → HasWatch world i watch → watch.lane.selection.resource ≡ old.cache.resource → StandsFor (log_at world.log old.cache.end) old →
    IsCaught (log_at world.log old.cache.end) watch.lane.selection watch.position old.cache.end many caught →
    (old.cache.ring.floor ≤ watch.position) ⊎ MissesNothing watch.lane watch.position →
    OnlyLanes old new → HasCaughtUp (Some (number i)) caught.upto old new →
    HasReceived world number new i watch caught
caught_is_received world number old new i many watch caught is same of stands told served only set =
    let resource : Resource = watch.lane.selection.resource in
    let step = catch_ups_are_steps world number (view_of old) (view_of new).lanes i watch caught.upto
    (subst (λ (r : Resource). HasHub world r number (view_of old)) (sym of) is.has) same served
    (onward_by (log_at world.log old.cache.end) watch.lane.selection watch.position old.cache.end many caught told told.stops)
    (reached_by (log_at world.log old.cache.end) watch.lane.selection watch.position old.cache.end many caught told told.stops)
    (λ n. set_changes old.lanes.all new.lanes.all (number i) _ set n ∙ ap (λ (place : Option LaneData). cond (nat_eq n (number i)) place (lane_in (open_at old.lanes.all n))) (caught_in caught.upto old.cache.end (open_at old.lanes.all (number i)) watch.lane (lane_there world number old i watch is same of))) in (
      record {
        allowed = step.0.allowed;
        is = lanes_alone (after world (CatchUp i caught.upto)) number old new only is.window is.window_max
            (subst (λ (r : Resource). HasHub (after world (CatchUp i caught.upto)) r number (record (view_of old) { lanes = (view_of new).lanes })) of step.0.shows);
      },
      (
        caught_watch world.log caught.upto old.cache.end watch,
        step.1,
        refl,
        ap (λ (lines : List TransitionData). watch.received ++ lines) (lines_in ∙ sym told.exact),
      ),
    )
  where
    lines_in : transitions world.log watch.lane.selection watch.position caught.upto ≡ transitions (log_at world.log old.cache.end) watch.lane.selection watch.position caught.upto
    lines_in =
        let ended = stands.cache.ended in
        let reach = reached_by (log_at world.log old.cache.end) watch.lane.selection watch.position old.cache.end many caught told told.stops in
        ap (λ (l : Log). transitions l watch.lane.selection watch.position caught.upto) (sym (cut_log world.log old.cache.end))
        ∙ transitions_are_kept (selects watch.lane.selection) (log_at world.log old.cache.end) (drop (old.cache.end - world.log.first) world.log.revisions) watch.lane.selection.resource watch.position caught.upto (omega (arith, reach, ended))

-- what holds at the selection and the position of a watch
at_watch : (world : World) (number : ℕ → ℕ) (i id : ℕ) (s : Selection) (at : ℕ) (watch : WatchData) (fact : Selection → ℕ → Type 0) → IsWatchAt world number i id s at watch → fact s at → fact watch.lane.selection watch.position
at_watch world number i id s at watch fact there holds = subst (λ (z : Selection × ℕ). fact z.0 z.1) (λ k. (sym there.selects k, sym there.stands k)) holds

pub lanes_catch_up : (old new : HubData) (id : ℕ) (s : Selection) (at many : ℕ) (caught : CaughtData) → ((log : Log) → StandsFor log old → IsCaught log s at old.cache.end many caught) →
    old.cache.ring.floor ≤ at → OnlyLanes old new → HasCaughtUp (Some id) caught.upto old new → IsCatchUp id s at caught old new
lanes_catch_up old new id s at many caught told served only set world number i watch is stands there of =
    caught_is_received world number old new i many watch caught is there.watches (ap (λ (z : Selection). z.resource) there.selects ∙ of) stands
    (at_watch world number i id s at watch (λ (z : Selection) (n : ℕ). IsCaught (log_at world.log old.cache.end) z n old.cache.end many caught) there (told (log_at world.log old.cache.end) stands))
    (inl (at_watch world number i id s at watch (λ _ (n : ℕ). old.cache.ring.floor ≤ n) there served)) only
    (subst (λ (n : ℕ). HasCaughtUp (Some n) caught.upto old new) (sym there.numbered) set)

misses_nothing : (s : Selection) (at : ℕ) (place : Option OpenLaneData) (lane : LaneData) → lane_in place ≡ Some lane → GoesAlong s at place → MissesNothing lane at
misses_nothing s at None lane there goes = absurd goes
misses_nothing s at (Some o) lane there goes = let same : o.lane ≡ lane = cc in subst (λ (l : LaneData). MissesNothing l at) same goes.1

pub lanes_go_along : (old new : HubData) (id : ℕ) (s : Selection) (at many : ℕ) (caught : CaughtData) → ((log : Log) → StandsFor log old → IsCaught log s at old.cache.end many caught) →
    GoesAlong s at (open_at old.lanes.all id) → OnlyLanes old new → HasCaughtUp (Some id) caught.upto old new → IsCatchUp id s at caught old new
lanes_go_along old new id s at many caught told goes only set world number i watch is stands there of =
    let same = ap (λ (z : Selection). z.resource) there.selects ∙ of in
    caught_is_received world number old new i many watch caught is there.watches same stands
    (at_watch world number i id s at watch (λ (z : Selection) (n : ℕ). IsCaught (log_at world.log old.cache.end) z n old.cache.end many caught) there (told (log_at world.log old.cache.end) stands))
    (inr (misses_nothing watch.lane.selection watch.position (open_at old.lanes.all (number i)) watch.lane (lane_there world number old i watch is there.watches same)
    (at_watch world number i id s at watch (λ (z : Selection) (n : ℕ). GoesAlong z n (open_at old.lanes.all (number i))) there
    (subst (λ (n : ℕ). GoesAlong s at (open_at old.lanes.all n)) (sym there.numbered) goes)))) only
    (subst (λ (n : ℕ). HasCaughtUp (Some n) caught.upto old new) (sym there.numbered) set)

pub lanes_are_lost : (old new : HubData) (id : ℕ) (s : Selection) (at : ℕ) → s.resource ≡ old.cache.resource → at < old.cache.ring.floor → OnlyLanes old new →
    SetsLane old.lanes.all new.lanes.all id None → IsLoss id s at old new
lanes_are_lost old new id s at of below only sets world number i watch is there =
    let step = losses_are_steps world number (view_of old) (view_of new).lanes i watch
    (at_watch world number i id s at watch (λ (z : Selection) _. HasHub world z.resource number (view_of old)) there (subst (λ (r : Resource). HasHub world r number (view_of old)) (sym of) is.has))
    there.watches (at_watch world number i id s at watch (λ _ (n : ℕ). n < old.cache.ring.floor) there below)
    (subst (λ (n : ℕ). AreChangedAt n None (view_of old).lanes (view_of new).lanes) (sym there.numbered) (set_changes old.lanes.all new.lanes.all id None sets)) in (
      record {
        allowed = step.0.allowed;
        is = lanes_alone (after world (Lose i)) number old new only is.window is.window_max
            (subst (λ (r : Resource). HasHub (after world (Lose i)) r number (record (view_of old) { lanes = (view_of new).lanes })) (ap (λ (z : Selection). z.resource) there.selects ∙ of) step.0.shows);
      },
      subst (λ (z : Selection × ℕ). ((after world (Lose i)).clients i).losses ≡ (world.clients i).losses ++ record { resource = z.0.resource; at = z.1; floor = old.cache.ring.floor } ∷ [])
          (λ k. (there.selects k, there.stands k)) step.1,
    )

pub lanes_close : (old new : HubData) (id : ℕ) → OnlyLanes old new → SetsLane old.lanes.all new.lanes.all id None → IsClosing id old new
lanes_close old new id only sets world number i watch is same numbered of =
    let step = closes_are_steps world number (view_of old) (view_of new).lanes i watch (subst (λ (r : Resource). HasHub world r number (view_of old)) (sym of) is.has) same
    (subst (λ (n : ℕ). AreChangedAt n None (view_of old).lanes (view_of new).lanes) (sym numbered) (set_changes old.lanes.all new.lanes.all id None sets)) in
    record {
      allowed = step.allowed;
      is = lanes_alone (after world (Close i)) number old new only is.window is.window_max
          (subst (λ (r : Resource). HasHub (after world (Close i)) r number (record (view_of old) { lanes = (view_of new).lanes })) of step.shows);
    }
