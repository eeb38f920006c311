-- What the calls of a cache make of its lanes is what steps make of the watches of its resource.
use Rattle.std.proofs.Common.{◌≡◌, ◌≢◌, ◌⊎◌, ℕ, ◌<◌, ◌≤◌, Bool, true, false, List, [], ◌∷◌, ◌++◌, Option, Some, None, IfSome, option_map, option_to_list, inl, inr, nat_eq, cond, eqb-true, eq-eqb, refl, sym, ap, ◌∙◌, subst, arith}
use Rattle.std.proofs.lemmas.Bool.{cases_Bool, cond_both}
use Rattle.kube_meta.specs.declared.resources.Resource.{Resource}
use Rattle.kube_meta.specs.Resources.{same_resource}
use Rattle.rev_log.specs.Logs.{Log, end_of}
use Rattle.select_all.specs.Streams.{TransitionData}
use Rattle.select_all.specs.Floors.{IsFloorOk}
use Rattle.cache_world.specs.Lanes.{LaneData, BatchData, Lanes, Batches, MissesNothing, IsPumped, IsPlacePumped, ArePumped, batch_between, unsent, lane_after, queue_after, pumped_lane, queued, rebuilt_lane, opened_lane, caught_lane}
use Rattle.cache_world.specs.World.{CacheView, WatchData, ClientData, World, with_cache, with_client}
use Rattle.cache_world.specs.Steps.{IsWatching, cache_of, MayCatchUp, each_of, pumped_watch, rebuilt_watch, caught_watch, with_watch, lost}
use Rattle.cache_world.specs.Ties.{HubView, IsOf, IsWatcher, HasHub, AreChangedAt, waiting_of, PumpsAreComputed, PumpsAreSteps, RebuildsAreSteps, OpensAreSteps, CatchUpsAreSteps, LossesAreSteps, ClosesAreSteps}
use Rattle.cache_world.proofs.PlaceLemmas.{same_self, at_number, each_watch, each_some}
use Rattle.cache_world.proofs.LaneLemmas.{pumped_cases}

-- ---- the pump of one lane

none_from : {A : Type 0} (o : Option A) → [] ≡ option_to_list o → o ≡ None
none_from None e = refl
none_from (Some x) e = absurd (cc)

one_from : {A : Type 0} (x : A) (o : Option A) → x ∷ [] ≡ option_to_list o → o ≡ Some x
one_from x None e = absurd (cc)
one_from x (Some y) e = cc

module _ (log : Log) (end : ℕ) (lane : LaneData) where
  -- what the machine's pump makes of the lane, and puts into its queue
  abbrev Makes : Bool → LaneData → List BatchData → Type 0
  Makes falls later sent = (pumped_lane log end falls lane ≡ later) × (queued log end falls lane ≡ sent)

  by_tests : (falls : Bool) (behind : Bool) (came : List TransitionData) (later : LaneData) (sent : List BatchData) → lane.behind ≡ behind → unsent log end lane ≡ came →
      lane_after lane end behind came falls ≡ later → queue_after lane end behind came falls ≡ sent → Makes falls later sent
  by_tests falls behind came later sent is same one two = (
    ap (λ (b : Bool). lane_after lane end b (unsent log end lane) falls) is ∙ ap (λ (xs : List TransitionData). lane_after lane end behind xs falls) same ∙ one,
    ap (λ (b : Bool). queue_after lane end b (unsent log end lane) falls) is ∙ ap (λ (xs : List TransitionData). queue_after lane end behind xs falls) same ∙ two,
  )

  nothing_came : (falls behind : Bool) → lane.behind ≡ behind → unsent log end lane ≡ [] → Makes falls lane []
  nothing_came falls true is same = by_tests falls true [] lane [] is same refl refl
  nothing_came falls false is same = by_tests falls false [] lane [] is same refl refl

  left_made : (falls : Bool) → (lane.behind ≡ true) ⊎ (unsent log end lane ≡ []) → Makes falls lane []
  left_made falls (inl is) = by_tests falls true (unsent log end lane) lane [] is refl refl refl
  left_made falls (inr none) = nothing_came falls lane.behind refl none

  sent_made : (came : List TransitionData) → lane.behind ≡ false → unsent log end lane ≡ came → came ≢ [] →
      Makes false (record lane { mark = end }) (record { selection = lane.selection; from = lane.mark; to = end; sent = came } ∷ [])
  sent_made [] is same some = absurd (some refl)
  sent_made (x ∷ more) is same some = by_tests false false (x ∷ more) _ _ is same refl refl

  fallen_made : (came : List TransitionData) → lane.behind ≡ false → unsent log end lane ≡ came → came ≢ [] → Makes true (record lane { behind = true }) []
  fallen_made [] is same some = absurd (some refl)
  fallen_made (x ∷ more) is same some = by_tests true false (x ∷ more) _ _ is same refl refl

  makes_as : (falls : Bool) (lane' later : LaneData) (sent : List BatchData) (batch : Option BatchData) → Makes falls lane' sent → later ≡ lane' → option_to_list batch ≡ sent → Makes falls later (option_to_list batch)
  makes_as falls lane' later sent batch made one two = (made.0 ∙ sym one, made.1 ∙ sym two)

  abbrev pub fell : (batch : Option BatchData) (later : LaneData) → IsPumped log end lane batch later → Bool
  fell batch later (inl left) = false
  fell batch later (inr (inl sent)) = false
  fell batch later (inr (inr fallen)) = true

  pub pump_made : (batch : Option BatchData) (later : LaneData) (pumped : IsPumped log end lane batch later) → Makes (fell batch later pumped) later (option_to_list batch)
  pump_made batch later (inl left) = makes_as false lane later [] batch (left_made false left.nothing) left.stays (ap option_to_list left.none)
  pump_made batch later (inr (inl sent)) = makes_as false (record lane { mark = end }) later (batch_between log lane.selection lane.mark end ∷ []) batch (sent_made (unsent log end lane) sent.in_step refl sent.came) sent.moves (ap option_to_list sent.goes)
  pump_made batch later (inr (inr fallen)) = makes_as true (record lane { behind = true }) later [] batch (fallen_made (unsent log end lane) fallen.in_step refl fallen.came) fallen.falls (ap option_to_list fallen.none)

  pump_is : (batch : Option BatchData) (later : LaneData) (falls : Bool) → pumped_lane log end falls lane ≡ later → queued log end falls lane ≡ option_to_list batch → IsPumped log end lane batch later
  pump_is batch later falls =
      pumped_cases (λ (l : LaneData) (sent : List BatchData). l ≡ later → sent ≡ option_to_list batch → IsPumped log end lane batch later) log end lane
      (λ why one two. inl (record { nothing = why; stays = sym one; none = none_from batch two }))
      (λ is came one two. inr (inr (record { in_step = is; came = came; falls = sym one; none = none_from batch two })))
      (λ is came one two. inr (inl (record { in_step = is; came = came; moves = sym one; goes = one_from (batch_between log lane.selection lane.mark end) batch two })))
      falls

pub are_computed : PumpsAreComputed
are_computed log end lane later batch = (
  λ pumped. let made = pump_made log end lane batch later pumped in (fell log end lane batch later pumped, made.0, made.1),
  λ made. pump_is log end lane batch later made.0 made.1 made.2,
)

-- ---- the pump of all lanes

abbrev falls_at : (log : Log) (end : ℕ) (lane : Option LaneData) (batch : Option BatchData) (later : Option LaneData) → IsPlacePumped log end lane batch later → Bool
falls_at log end None batch later pumped = false
falls_at log end (Some lane) batch None pumped = false
falls_at log end (Some lane) batch (Some later) pumped = fell log end lane batch later pumped

place_made : (log : Log) (end : ℕ) (place : Option LaneData) (batch : Option BatchData) (later : Option LaneData) (pumped : IsPlacePumped log end place batch later) (lane : LaneData) → place ≡ Some lane →
    (later ≡ Some (pumped_lane log end (falls_at log end place batch later pumped) lane)) × (queued log end (falls_at log end place batch later pumped) lane ≡ option_to_list batch)
place_made log end None batch later pumped lane same = absurd (cc)
place_made log end (Some old) batch None pumped lane same = absurd pumped
place_made log end (Some old) batch (Some later) pumped lane same =
    let is : old ≡ lane = cc in
    subst (λ (l : LaneData). (Some later ≡ Some (pumped_lane log end (fell log end old batch later pumped) l)) × (queued log end (fell log end old batch later pumped) l ≡ option_to_list batch)) is
    (let made = pump_made log end old batch later pumped in (ap Some (sym made.0), made.1))

-- who watches after each watch of a resource changed watched before
watcher_back : (resource : Resource) (change : WatchData → WatchData) (watch : Option WatchData) → IsWatching (each_of resource change watch) (IsOf resource) → IsWatching watch (IsOf resource)
watcher_back resource change None is = is
watcher_back resource change (Some w) is =
    cond_both (same_resource w.lane.selection.resource resource) (change w) w (λ (x : WatchData). IsOf resource x → IsOf resource w) (λ e _. e) (λ e h. h) is

not_both : (b : Bool) → b ≡ true → b ≡ false → ⊥
not_both b is isnt = absurd (cc)

-- what a step leaves of the cache
module _ (world : World) (resource : Resource) (cache : CacheView) where
  new_cache : (with_cache world resource cache).caches resource ≡ cache
  new_cache = ap (λ (b : Bool). cond b cache (world.caches resource)) (same_self resource)

module _ (world : World) (resource : Resource) (number : ℕ → ℕ) (hub later : HubView) (batches : Batches) (has : HasHub world resource number hub)
    (pumped : ArePumped world.log later.end hub.lanes batches later.lanes) where
  abbrev falls : ℕ → Bool
  falls i = falls_at world.log later.end (hub.lanes (number i)) (batches (number i)) (later.lanes (number i)) (pumped (number i))

  lane_of : (i : ℕ) → IfSome (each_of resource (pumped_watch world.log later.end (falls i)) (world.clients i).watch) (λ watch. IsOf resource watch → later.lanes (number i) ≡ Some watch.lane)
  lane_of i = each_watch (λ watch. IsOf resource watch → hub.lanes (number i) ≡ Some watch.lane) (λ watch. IsOf resource watch → later.lanes (number i) ≡ Some watch.lane) resource (pumped_watch world.log later.end (falls i)) (world.clients i).watch (has.lanes i)
      (λ w e is of. (place_made world.log later.end (hub.lanes (number i)) (batches (number i)) (later.lanes (number i)) (pumped (number i)) w.lane (is e)).0)
      (λ w e is of. absurd (not_both (same_resource w.lane.selection.resource resource) of e))

  queue_of : (i : ℕ) (watch : Option WatchData) → IfSome watch (λ w. IsOf resource w → hub.lanes (number i) ≡ Some w.lane) → IsWatching watch (IsOf resource) →
      waiting_of (each_of resource (pumped_watch world.log later.end (falls i)) watch) ≡ waiting_of watch ++ option_to_list (batches (number i))
  queue_of i None has_lane is = absurd is
  queue_of i (Some w) has_lane is =
      ap (λ (b : Bool). (cond b (pumped_watch world.log later.end (falls i) w) w).waiting) is
      ∙ ap (λ (sent : List BatchData). w.waiting ++ sent) (place_made world.log later.end (hub.lanes (number i)) (batches (number i)) (later.lanes (number i)) (pumped (number i)) w.lane (has_lane is)).1

pub pumps_are_steps : PumpsAreSteps
pumps_are_steps world resource number hub later batches has may base pumped =
    let same = new_cache world resource (record (world.caches resource) { end = later.end; low = later.low }) in (
      falls world resource number hub later batches has pumped,
      (
        record {
          allowed = may;
          shows = record {
            end_is = ap (λ (c : CacheView). c.end) same;
            base_is = ap (λ (c : CacheView). c.base) same ∙ has.base_is ∙ sym base;
            low_is = ap (λ (c : CacheView). c.low) same;
            lanes = lane_of world resource number hub later batches has pumped;
            own = λ i j a b e. has.own i j (watcher_back resource _ (world.clients i).watch a) (watcher_back resource _ (world.clients j).watch b) e;
          };
        },
        λ i is. queue_of world resource number hub later batches has pumped i (world.clients i).watch (has.lanes i) is,
      ),
    )

-- ---- a rebuild

pub rebuilds_are_steps : RebuildsAreSteps
rebuilds_are_steps world resource number hub later has end base floor_ok lanes =
    let same = new_cache world resource (record (world.caches resource) { end = end_of world.log; base = world.floor; low = later.low }) in
    record {
      allowed = subst (λ (x : ℕ × ℕ). IsFloorOk world.log resource world.window world.window_max x.0 x.1 later.low) (λ k. (base k, end k)) floor_ok;
      shows = record {
        end_is = ap (λ (c : CacheView). c.end) same ∙ sym end;
        base_is = ap (λ (c : CacheView). c.base) same ∙ sym base;
        low_is = ap (λ (c : CacheView). c.low) same;
        lanes = λ i. each_watch (λ watch. IsOf resource watch → hub.lanes (number i) ≡ Some watch.lane) (λ watch. IsOf resource watch → later.lanes (number i) ≡ Some watch.lane) resource rebuilt_watch (world.clients i).watch (has.lanes i)
            (λ w e is of. lanes (number i) ∙ ap (option_map rebuilt_lane) (is e))
            (λ w e is of. absurd (not_both (same_resource w.lane.selection.resource resource) of e));
        own = λ i j a b e. has.own i j (watcher_back resource rebuilt_watch (world.clients i).watch a) (watcher_back resource rebuilt_watch (world.clients j).watch b) e;
      };
    }

-- ---- one client

this_place : (n : ℕ) (lane : Option LaneData) (lanes later : Lanes) → AreChangedAt n lane lanes later → later n ≡ lane
this_place n lane lanes later changed = changed n ∙ ap (λ (b : Bool). cond b lane (lanes n)) (eq-eqb n n refl)

other_place : (n m : ℕ) (lane : Option LaneData) (lanes later : Lanes) → AreChangedAt n lane lanes later → nat_eq m n ≡ false → later m ≡ lanes m
other_place n m lane lanes later changed ne = changed m ∙ ap (λ (b : Bool). cond b lane (lanes m)) ne

-- numbers that aren't equal
unlike : (a b : ℕ) → (a ≡ b → ⊥) → nat_eq a b ≡ false
unlike a b ne = elim (cases_Bool (nat_eq a b)) [
  | inl e ↦ absurd (ne (eqb-true a b e))
  | inr e ↦ e
]

-- what a client has after another value was put in the place of one
here_is : (world : World) (i : ℕ) (client : ClientData) → (with_client world i client).clients i ≡ client
here_is world i client = ap (λ (b : Bool). cond b client (world.clients i)) (eq-eqb i i refl)

-- a client whose watch and lane change together, and who may take another number, which no other watcher has
module _ (world : World) (i : ℕ) (client : ClientData) (resource : Resource) (number next : ℕ → ℕ) (hub : HubView) (lane : Option LaneData) (later : Lanes)
    (has : HasHub world resource number hub) (kept : (j : ℕ) → nat_eq j i ≡ false → next j ≡ number j)
    (elsewhere : (j : ℕ) → nat_eq j i ≡ false → IsWatcher world resource j → next j ≡ next i → ⊥) (changed : AreChangedAt (next i) lane hub.lanes later)
    (new : IfSome client.watch (λ watch. IsOf resource watch → lane ≡ Some watch.lane)) where
  other_lane : (j : ℕ) → nat_eq j i ≡ false → (watch : Option WatchData) → (world.clients j).watch ≡ watch → IfSome watch (λ w. IsOf resource w → hub.lanes (number j) ≡ Some w.lane) →
      IfSome watch (λ w. IsOf resource w → later (next j) ≡ Some w.lane)
  other_lane j ne None same is = tt
  other_lane j ne (Some w) same is = λ of.
      other_place (next i) (next j) lane hub.lanes later changed
      (unlike (next j) (next i) (elsewhere j ne (subst (λ (o : Option WatchData). IsWatching o (IsOf resource)) (sym same) of)))
      ∙ ap hub.lanes (kept j ne) ∙ is of

  watched : (j : ℕ) → nat_eq j i ≡ false → IsWatcher (with_client world i client) resource j → IsWatcher world resource j
  watched j ne is = subst (λ (c : ClientData). IsWatching c.watch (IsOf resource)) (ap (λ (b : Bool). cond b client (world.clients j)) ne) is

  own_numbers : (j k : ℕ) → IsWatcher (with_client world i client) resource j → IsWatcher (with_client world i client) resource k → next j ≡ next k → j ≡ k
  own_numbers j k a b e = elim (cases_Bool (nat_eq j i)) [
    | inl here ↦ elim (cases_Bool (nat_eq k i)) [
      | inl there ↦ eqb-true j i here ∙ sym (eqb-true k i there)
      | inr other ↦ absurd (elsewhere k other (watched k other b) (sym e ∙ ap next (eqb-true j i here)))
    ]
    | inr away ↦ elim (cases_Bool (nat_eq k i)) [
      | inl there ↦ absurd (elsewhere j away (watched j away a) (e ∙ ap next (eqb-true k i there)))
      | inr other ↦ has.own j k (watched j away a) (watched k other b) (sym (kept j away) ∙ e ∙ kept k other)
    ]
  ]

  pub with_lane : HasHub (with_client world i client) resource next (record hub { lanes = later })
  with_lane = record {
    end_is = has.end_is;
    base_is = has.base_is;
    low_is = has.low_is;
    lanes = at_number (λ j c. IfSome c.watch (λ watch. IsOf resource watch → later (next j) ≡ Some watch.lane)) world.clients i client
        (each_some (λ watch. IsOf resource watch → lane ≡ Some watch.lane) (λ watch. IsOf resource watch → later (next i) ≡ Some watch.lane) client.watch
        (λ w is of. this_place (next i) lane hub.lanes later changed ∙ is of) new)
        (λ j ne. other_lane j ne (world.clients j).watch refl (has.lanes j));
    own = own_numbers;
  }

-- a client that watches is one of its resource's watchers
watches_own : (world : World) (i : ℕ) (watch : WatchData) → (world.clients i).watch ≡ Some watch → IsWatcher world watch.lane.selection.resource i
watches_own world i watch same = subst (λ (o : Option WatchData). IsWatching o (IsOf watch.lane.selection.resource)) (sym same) (same_self watch.lane.selection.resource)

-- one that watches keeps its number
with_watch_lane : (world : World) (i : ℕ) (client : ClientData) (number : ℕ → ℕ) (hub : HubView) (lane : Option LaneData) (later : Lanes) (watch : WatchData) →
    HasHub world watch.lane.selection.resource number hub → (world.clients i).watch ≡ Some watch → AreChangedAt (number i) lane hub.lanes later →
    IfSome client.watch (λ w. IsOf watch.lane.selection.resource w → lane ≡ Some w.lane) →
    HasHub (with_client world i client) watch.lane.selection.resource number (record hub { lanes = later })
with_watch_lane world i client number hub lane later watch has same =
    with_lane world i client watch.lane.selection.resource number number hub lane later has (λ _ _. refl)
    (λ j ne is e. not_both (nat_eq j i) (eq-eqb j i (has.own j i is (watches_own world i watch same) e)) ne)

pub catch_ups_are_steps : CatchUpsAreSteps
catch_ups_are_steps world number hub later i watch to has same served onward reached changed =
    let end_is = has.end_is in
    let low_is = has.low_is in (
      record {
        allowed = subst (λ (o : Option WatchData). IsWatching o (λ w. MayCatchUp world w to)) (sym same) (record { served = served_by served; onward = onward; reached = omega arith });
        shows = subst (λ (o : Option WatchData). HasHub (with_client world i (with_watch (world.clients i) (λ w. caught_watch world.log to (cache_of world w).end w) o)) watch.lane.selection.resource number (record hub { lanes = later })) (sym same)
            (with_watch_lane world i _ number hub (Some (caught_lane to hub.end watch.lane)) later watch has same changed
            (λ of. ap (λ (n : ℕ). Some (caught_lane to n watch.lane)) (sym has.end_is)));
      },
      ap (λ (c : ClientData). c.watch) (here_is world i (with_watch (world.clients i) (λ w. caught_watch world.log to (cache_of world w).end w) (world.clients i).watch))
          ∙ ap (λ (o : Option WatchData). (with_watch (world.clients i) (λ w. caught_watch world.log to (cache_of world w).end w) o).watch) same
          ∙ ap (λ (n : ℕ). Some (caught_watch world.log to n watch)) has.end_is,
    )
  where
    served_by : (hub.low ≤ watch.position) ⊎ MissesNothing watch.lane watch.position → ((cache_of world watch).low ≤ watch.position) ⊎ MissesNothing watch.lane watch.position
    served_by (inl low) = inl (omega (arith, low, has.low_is))
    served_by (inr all) = inr all

pub losses_are_steps : LossesAreSteps
losses_are_steps world number hub later i watch has same below changed =
    let low_is = has.low_is in (
      record {
        allowed = subst (λ (o : Option WatchData). IsWatching o (λ w. w.position < (cache_of world w).low)) (sym same) (omega arith);
        shows = subst (λ (o : Option WatchData). HasHub (with_client world i (lost (cache_of world) (world.clients i) o)) watch.lane.selection.resource number (record hub { lanes = later })) (sym same)
            (with_watch_lane world i (lost (cache_of world) (world.clients i) (Some watch)) number hub None later watch has same changed tt);
      },
      ap (λ (c : ClientData). c.losses) (here_is world i (lost (cache_of world) (world.clients i) (world.clients i).watch))
          ∙ ap (λ (o : Option WatchData). (lost (cache_of world) (world.clients i) o).losses) same
          ∙ ap (λ (n : ℕ). (world.clients i).losses ++ record { resource = watch.lane.selection.resource; at = watch.position; floor = n } ∷ []) has.low_is,
    )

pub closes_are_steps : ClosesAreSteps
closes_are_steps world number hub later i watch has same changed = record {
  allowed = subst (λ (o : Option WatchData). IsWatching o (λ w. Unit {0})) (sym same) tt;
  shows = with_watch_lane world i (record (world.clients i) { watch = None }) number hub None later watch has same changed tt;
}

-- ---- a new watch

some_lane : (resource : Resource) (place : Option LaneData) (watch : Option WatchData) → IfSome watch (λ w. IsOf resource w → place ≡ Some w.lane) → IsWatching watch (IsOf resource) → place ≡ None → ⊥
some_lane resource place None is watches none = absurd watches
some_lane resource place (Some w) is watches none = let some = is watches in absurd (cc)

pub opens_are_steps : OpensAreSteps
opens_are_steps world number next hub later i s at has none served same free changed = record {
  allowed = (none, let low_is = has.low_is in omega arith);
  shows = with_lane world i _ s.resource number next hub (Some (opened_lane s at hub.end)) later has kept
      (λ j ne watches e. some_lane s.resource _ (world.clients j).watch (has.lanes j) watches (ap hub.lanes (sym (kept j ne) ∙ e) ∙ free)) changed
      (λ of. ap (λ (n : ℕ). Some (opened_lane s at n)) (sym has.end_is));
}
  where
    -- another client keeps its number
    kept : (j : ℕ) → nat_eq j i ≡ false → next j ≡ number j
    kept j ne = elim (same j) [
      | inl e ↦ absurd (not_both (nat_eq j i) e ne)
      | inr e ↦ e
    ]
