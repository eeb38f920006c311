-- Each step from a lawful world leads to a lawful one that goes on from it.
use Rattle.std.proofs.Common.{◌≡◌, ◌≢◌, ℕ, ◌+◌, ◌<◌, ◌≤◌, Bool, true, false, [], ◌∷◌, ◌++◌, List, append-nil, Option, Some, None, IfSome, inl, inr, cond, refl, sym, ap, subst, arith}
use Rattle.std.proofs.lemmas.List.Elements.{All-push}
use mathlib.Core.List.{IsPrefix}
use Rattle.kube_meta.specs.declared.resources.Resource.{Resource}
use Rattle.kube_meta.specs.Resources.{same_resource}
use Rattle.rev_front.specs.Passes.{Pass, Extends}
use Rattle.rev_front.proofs.Beginnings.{prefix_self, prefix_grown}
use Rattle.rev_front.proofs.Passing.{extends_self}
use Rattle.rev_log.specs.Changes.{RevisionData}
use Rattle.rev_log.specs.Logs.{end_of}
use Rattle.select_all.proofs.FloorSteps.{floors_evict}
use Rattle.cache_world.specs.World.{CacheView, WatchData, GivenData, ClientData, World, Party, whole_of, pass_of, with_cache, with_client, with_pass}
use Rattle.cache_world.specs.World.Party.{Store, Cache, Client}
use Rattle.cache_world.specs.Steps.{Step, IsWatching, cache_of, MayPump, MayServe, MayCatchUp, IsAllowed, loaded, learnt, told_at, each_of, pumped_watch, rebuilt_watch, opened_watch, caught_watch, delivered, with_watch, lost, after}
use Rattle.cache_world.specs.Steps.Step.{Write, Compact, Cut, Load, Learn, Pump, Rebuild, Serve, Open, CatchUp, Deliver, Lose, Close}
use Rattle.cache_world.specs.Law.{IsWatch, IsGiven, IsLoss, IsCache, IsClient, IsKnowledge, IsLawful}
use Rattle.cache_world.proofs.PlaceLemmas.{at_resource, at_number, each_watch, each_some, known_some}
use Rattle.cache_world.proofs.PassLemmas.{load_knows, load_extends, learn_knows, learn_extends, told_knows, told_extends}
use Rattle.cache_world.proofs.WatchLemmas.{watch_pumped, watch_rebuilt, watch_opened, watch_caught, watch_delivered}
use Rattle.cache_world.proofs.GrowthLemmas.{Leads, writes, raises}

abbrev IsWatchIn : World → WatchData → Type 0
IsWatchIn world watch = IsWatch world.log (world.caches watch.lane.selection.resource).end watch

-- ---- caches and clients change

-- what a cache that takes the place of a resource's has to be: its pass knows what is so and goes on, and so does it
abbrev CacheGoes : World → Resource → CacheView → Type 0
CacheGoes world r cache =
    IsKnowledge (whole_of world) cache.pass × Extends (world.caches r).pass cache.pass × IsCache world r cache ×
    ((world.caches r).end ≤ cache.end) × ((world.caches r).base ≤ cache.base)

-- and a client that takes the place of another, in a later world
abbrev ClientGoes : World → World → ℕ → ClientData → Type 0
ClientGoes world later i client =
    IsKnowledge (whole_of world) client.pass × Extends (world.clients i).pass client.pass × IsClient later client ×
    IsPrefix (world.clients i).given client.given × IsPrefix (world.clients i).losses client.losses

module _ (world : World) (caches : Resource → CacheView) (clients : ℕ → ClientData) where
  abbrev anew : World
  anew = record world { caches = caches; clients = clients }

  cache_anew : (r : Resource) (c : CacheView) → IsCache world r c → IsCache anew r c
  cache_anew r c h = record { begun = h.begun; kept = h.kept; ordered = h.ordered; within = h.within; floor_ok = h.floor_ok }

  module _ (is : IsLawful world) (cache : (r : Resource) → CacheGoes world r (caches r)) (client : (i : ℕ) → ClientGoes world anew i (clients i)) where
    knows : (who : Party) → IsKnowledge (whole_of world) (pass_of anew who)
    knows Store = is.passes Store
    knows (Cache r) = (cache r).0
    knows (Client i) = (client i).0

    extends : (who : Party) → Extends (pass_of world who) (pass_of anew who)
    extends Store = extends_self (pass_of world Store)
    extends (Cache r) = (cache r).1
    extends (Client i) = (client i).1

    pub others_lead : Leads world anew
    others_lead = (
      record {
        log = is.log;
        whole = is.whole;
        passes = knows;
        caches = λ r. cache_anew r (caches r) (cache r).2;
        clients = λ i. (client i).2;
      },
      record {
        log = ([], ap (λ (revisions : List RevisionData). record (world.log) { revisions = revisions }) (sym (append-nil world.log.revisions)));
        floor = omega arith;
        generation = omega arith;
        windows = (refl, refl);
        passes = extends;
        ends = λ r. (cache r).3;
        bases = λ r. (cache r).4;
        given = λ i. (client i).3;
        losses = λ i. (client i).4;
      },
    )

cache_stays : (world : World) (r : Resource) → IsLawful world → CacheGoes world r (world.caches r)
cache_stays world r is = (is.passes (Cache r), extends_self (world.caches r).pass, is.caches r, omega arith, omega arith)

-- a client's watch alone changes, or nothing of it
watch_goes : (world later : World) (i : ℕ) (watch : Option WatchData) → IsLawful world → IsClient later (record (world.clients i) { watch = watch }) →
    ClientGoes world later i (record (world.clients i) { watch = watch })
watch_goes world later i watch is lawful =
    (is.passes (Client i), extends_self (world.clients i).pass, lawful, prefix_self (world.clients i).given, prefix_self (world.clients i).losses)

client_stays : (world later : World) (i : ℕ) → IsLawful world → IsClient later (world.clients i) → ClientGoes world later i (world.clients i)
client_stays world later i is lawful = watch_goes world later i (world.clients i).watch is lawful

pub stays : (world : World) → IsLawful world → Leads world world
stays world is = others_lead world world.caches world.clients is (λ r. cache_stays world r is) (λ i. client_stays world world i is (is.clients i))

-- ---- a client changes

client_leads : (world : World) (i : ℕ) (client : ClientData) → IsLawful world → ClientGoes world (with_client world i client) i client →
    Leads world (with_client world i client)
client_leads world i client is goes =
    others_lead world world.caches (with_client world i client).clients is (λ r. cache_stays world r is)
    (at_number (ClientGoes world (with_client world i client)) world.clients i client goes
    (λ j _. let old = is.clients j in client_stays world _ j is (record { watch = old.watch; given = old.given; losses = old.losses })))

watch_leads : (world : World) (i : ℕ) (watch : Option WatchData) → IsLawful world → IfSome watch (IsWatchIn world) →
    Leads world (with_client world i (record (world.clients i) { watch = watch }))
watch_leads world i watch is lawful =
    let old = is.clients i in
    client_leads world i (record (world.clients i) { watch = watch }) is
    (watch_goes world _ i watch is (record { watch = lawful; given = old.given; losses = old.losses }))

-- ---- a cache changes

module _ (world : World) (resource : Resource) (cache : CacheView) (clients : ℕ → ClientData) where
  abbrev changed : World
  changed = record (with_cache world resource cache) { clients = clients }

  cache_leads : IsLawful world → CacheGoes world resource cache → ((i : ℕ) → ClientGoes world changed i (clients i)) → Leads world changed
  cache_leads is goes =
      others_lead world changed.caches clients is (at_resource (CacheGoes world) world.caches resource cache goes (λ r _. cache_stays world r is))

  new_end : (q : Resource) → same_resource q resource ≡ true → (changed.caches q).end ≡ cache.end
  new_end q e = ap (λ (b : Bool). (cond b cache (world.caches q)).end) e

  old_end : (q : Resource) → same_resource q resource ≡ false → (changed.caches q).end ≡ (world.caches q).end
  old_end q e = ap (λ (b : Bool). (cond b cache (world.caches q)).end) e

  same_end : (world.caches resource).end ≡ cache.end → (q : Resource) → (changed.caches q).end ≡ (world.caches q).end
  same_end same = at_resource (λ q c. c.end ≡ (world.caches q).end) world.caches resource cache (sym same) (λ _ _. refl)

-- and the watches of its resource with it
module _ (world : World) (resource : Resource) (cache : CacheView) (change : ℕ → WatchData → WatchData) where
  abbrev after_it : World
  after_it = changed world resource cache (λ i. record (world.clients i) { watch = each_of resource (change i) (world.clients i).watch })

  watches_lead : IsLawful world → CacheGoes world resource cache →
      ((i : ℕ) (w : WatchData) → same_resource w.lane.selection.resource resource ≡ true → IsWatchIn world w → IsWatchIn after_it (change i w)) →
      Leads world after_it
  watches_lead is goes so = cache_leads world resource cache after_it.clients is goes (λ i. let old = is.clients i in watch_goes world after_it i _ is (record {
    watch = each_watch (IsWatchIn world) (IsWatchIn after_it) resource (change i) (world.clients i).watch old.watch (so i)
        (λ w e. subst (λ (n : ℕ). IsWatch world.log n w) (sym (old_end world resource cache after_it.clients w.lane.selection.resource e)));
    given = old.given;
    losses = old.losses;
  }))

-- ---- each step

-- one whose pass is now another
pass_leads : (world : World) (who : Party) (pass : Pass RevisionData) → IsLawful world → IsKnowledge (whole_of world) pass → Extends (pass_of world who) pass → Leads world (with_pass world who pass)
pass_leads world Store pass is knows on = stays world is
pass_leads world (Cache resource) pass is knows on =
    let c = is.caches resource in
    cache_leads world resource (record (world.caches resource) { pass = pass }) world.clients is
    (knows, on, record { begun = c.begun; kept = c.kept; ordered = c.ordered; within = c.within; floor_ok = c.floor_ok }, omega arith, omega arith)
    (λ i. let old = is.clients i in client_stays world (with_pass world (Cache resource) pass) i is (record {
      watch = each_some (IsWatchIn world) (IsWatchIn (with_pass world (Cache resource) pass)) (world.clients i).watch
          (λ w. subst (λ (n : ℕ). IsWatch world.log n w) (sym (same_end world resource _ world.clients refl w.lane.selection.resource))) old.watch;
      given = old.given;
      losses = old.losses;
    }))
pass_leads world (Client i) pass is knows on =
    let old = is.clients i in
    client_leads world i (record (world.clients i) { pass = pass }) is
    (knows, on, record { watch = old.watch; given = old.given; losses = old.losses }, prefix_self (world.clients i).given, prefix_self (world.clients i).losses)

pumps : (world : World) (resource : Resource) (end low : ℕ) (falls : ℕ → Bool) → IsLawful world → MayPump world resource end low → Leads world (after world (Pump resource end low falls))
pumps world resource end low falls is may =
    let old = is.caches resource in
    watches_lead world resource (record (world.caches resource) { end = end; low = low }) (λ i. pumped_watch world.log end (falls i)) is (
      is.passes (Cache resource),
      extends_self (world.caches resource).pass,
      record { begun = old.begun; kept = old.kept; ordered = omega (arith, old.ordered, may.onward); within = may.within; floor_ok = may.floor_ok },
      may.onward,
      omega arith,
    )
    (λ i w e was. watch_pumped world.log (λ r. ((after world (Pump resource end low falls)).caches r).end) (world.caches w.lane.selection.resource).end end (falls i) w is.log may.within
    (new_end world resource (record (world.caches resource) { end = end; low = low }) world.clients w.lane.selection.resource e) was)

rebuilds : (world : World) (resource : Resource) (low : ℕ) → IsLawful world → IsAllowed world (Rebuild resource low) → Leads world (after world (Rebuild resource low))
rebuilds world resource low is may =
    let old = is.caches resource in
    let whole = is.whole in
    watches_lead world resource (record (world.caches resource) { end = end_of world.log; base = world.floor; low = low }) (λ i. rebuilt_watch) is (
      is.passes (Cache resource),
      extends_self (world.caches resource).pass,
      record { begun = whole.from; kept = omega arith; ordered = whole.reached; within = omega arith; floor_ok = may },
      old.within,
      old.kept,
    )
    (λ i w e was. watch_rebuilt world.log (world.caches w.lane.selection.resource).end ((after world (Rebuild resource low)).caches w.lane.selection.resource).end w was)

served_at : (world : World) (i : ℕ) (resource : Resource) (at : ℕ) → IsLawful world → MayServe world i resource at → at ≤ end_of world.log
served_at world i resource at is (inl same) = let within = (is.caches resource).within in omega (arith, same)
served_at world i resource at is (inr h) = h.1

-- a client's watch changes while it watches
changes : (world : World) (i : ℕ) (change : WatchData → WatchData) (such : WatchData → Type 0) (watch : Option WatchData) → IsLawful world → (world.clients i).watch ≡ watch → IsWatching watch such →
    ((w : WatchData) → such w → IsWatchIn world w → IsWatchIn world (change w)) →
    Leads world (with_client world i (with_watch (world.clients i) change watch))
changes world i change such None is same may so = absurd may
changes world i change such (Some w) is same may so =
    watch_leads world i (Some (change w)) is (so w may (known_some (IsWatchIn world) (world.clients i).watch w same (is.clients i).watch))

loses : (world : World) (i : ℕ) (watch : Option WatchData) → IsLawful world → IsWatching watch (λ w. w.position < (cache_of world w).low) → Leads world (with_client world i (lost (cache_of world) (world.clients i) watch))
loses world i None is may = absurd may
loses world i (Some w) is may =
    let old = is.clients i in
    let cache = is.caches w.lane.selection.resource in
    client_leads world i (lost (cache_of world) (world.clients i) (Some w)) is (
      is.passes (Client i),
      extends_self (world.clients i).pass,
      record {
        watch = tt;
        given = old.given;
        losses = All-push (IsLoss world) (world.clients i).losses _ old.losses
            (floors_evict world.log world.floor w.lane.selection.resource world.window world.window_max (cache_of world w).base (cache_of world w).end (cache_of world w).low w.position cache.within cache.kept cache.floor_ok may);
      },
      prefix_self (world.clients i).given,
      prefix_grown (world.clients i).losses _,
    )

serves : (world : World) (i : ℕ) (given : GivenData) → IsLawful world → IsGiven world.log given →
    Leads world (with_client world i (record (world.clients i) { pass = told_at world.log given.at (world.clients i).pass; given = (world.clients i).given ++ given ∷ [] }))
serves world i given is new =
    let old = is.clients i in
    client_leads world i _ is (
      told_knows world given.at (world.clients i).pass is.whole (is.passes (Client i)) new.reached,
      told_extends world given.at (world.clients i).pass (is.passes (Client i)),
      record { watch = old.watch; given = All-push (IsGiven world.log) (world.clients i).given given old.given new; losses = old.losses },
      prefix_grown (world.clients i).given (given ∷ []),
      prefix_self (world.clients i).losses,
    )

pub step_leads : (world : World) (step : Step) → IsLawful world → IsAllowed world step → Leads world (after world step)
step_leads world (Write revision) is may = writes world revision is (omega (arith, may.0)) may.1
step_leads world (Compact to) is may = let bounded = is.whole.bounded in raises world to world.generation is may.0 may.1 (omega arith) bounded.1
step_leads world Cut is may = raises world world.floor (world.generation + 1) is (omega arith) is.whole.reached (omega arith) (omega (arith, may))
step_leads world (Load who word) is may = pass_leads world who (loaded world word (pass_of world who)) is (load_knows world word (pass_of world who) is.whole (is.passes who)) (load_extends world word (pass_of world who) (is.passes who))
step_leads world (Learn who whom) is may = pass_leads world who (learnt (pass_of world who) (pass_of world whom)) is (learn_knows world (pass_of world who) (pass_of world whom) is.whole (is.passes who) (is.passes whom)) (learn_extends world (pass_of world who) (pass_of world whom) (is.passes who) (is.passes whom))
step_leads world (Pump resource end low falls) is may = pumps world resource end low falls is may
step_leads world (Rebuild resource low) is may = rebuilds world resource low is may
step_leads world (Serve i s at rows) is may = serves world i (record { selection = s; at = at; rows = rows }) is (record { reached = served_at world i s.resource at is may.0; listing = may.1 })
step_leads world (Open i s at) is may = watch_leads world i (Some (opened_watch s at (world.caches s.resource).end)) is (watch_opened world.log s at (world.caches s.resource).end is.log)
step_leads world (CatchUp i to) is may =
    changes world i (λ watch. caught_watch world.log to (cache_of world watch).end watch) (λ watch. MayCatchUp world watch to) (world.clients i).watch is refl may
    (λ w this was. watch_caught world.log (λ r. (world.caches r).end) to (cache_of world w).end w is.log (is.caches w.lane.selection.resource).within refl this.onward this.reached was)
step_leads world (Deliver i) is may =
    changes world i (λ watch. delivered watch.waiting watch) (λ watch. watch.waiting ≢ []) (world.clients i).watch is refl may
    (λ w this was. watch_delivered world.log (λ r. (world.caches r).end) w.waiting w is.log refl was)
step_leads world (Lose i) is may = loses world i (world.clients i).watch is may
step_leads world (Close i) is may = watch_leads world i None is tt
