-- What each step leaves of a watch, and that clients that watch or list can be served.
use Rattle.std.proofs.Common.{◌≡◌, ◌≢◌, ◌⊎◌, ℕ, ◌<◌, ◌≤◌, max, Bool, false, List, [], ◌∷◌, ◌++◌, All, Option, Some, None, inl, inr, nat_eq, cond, eqb-true, refl, sym, ap, ◌∙◌, subst, arith}
use Rattle.std.proofs.lemmas.Bool.{cases_lt, cond_both}
use Rattle.std.proofs.lemmas.List.Elements.{All-head}
use Rattle.kube_meta.specs.declared.resources.Resource.{Resource}
use Rattle.kube_meta.specs.Resources.{same_resource}
use Rattle.rev_front.specs.Passes.{Pass}
use Rattle.rev_front.proofs.Beginnings.{prefix_self, prefix_grown}
use Rattle.rev_log.specs.Changes.{RevisionData}
use Rattle.rev_log.specs.Logs.{Log}
use Rattle.rev_log.proofs.ExistLemmas.{exist}
use Rattle.select_all.specs.declared.selection.Selection.{Selection}
use Rattle.select_all.specs.Streams.{transitions}
use Rattle.select_all.specs.Listings.{listing}
use Rattle.cache_world.specs.Lanes.{LaneData, BatchData, IsBatchOf}
use Rattle.cache_world.specs.World.{WatchData, ClientData, World, Party, with_client, with_pass}
use Rattle.cache_world.specs.World.Party.{Store, Cache, Client}
use Rattle.cache_world.specs.Steps.{IsWatching, MayCatchUp, cache_of, each_of, pumped_watch, rebuilt_watch, caught_watch, delivered, with_watch}
use Rattle.cache_world.specs.Steps.Step.{Write, Compact, Cut, Load, Learn, Pump, Rebuild, Serve, Open, CatchUp, Deliver, Lose, Close}
use Rattle.cache_world.specs.Law.{IsWatch, WatchGoesOn, WatchesGoOn, WatchesAreServed, ListsAreServed}
use Rattle.cache_world.proofs.PlaceLemmas.{at_number, known_some}
use Rattle.cache_world.proofs.LaneLemmas.{pumped_cases}

-- ---- one watch

goes_same : (watch : WatchData) → WatchGoesOn watch watch
goes_same watch = record { selection = refl; start = refl; position = omega arith; received = prefix_self watch.received }

goes_pumped : (log : Log) (end : ℕ) (falls : Bool) (watch : WatchData) → WatchGoesOn watch (pumped_watch log end falls watch)
goes_pumped log end falls watch = record {
  selection = pumped_cases (λ (lane : LaneData) (sent : List BatchData). lane.selection ≡ watch.lane.selection) log end watch.lane (λ _. refl) (λ _ _. refl) (λ _ _. refl) falls;
  start = refl;
  position = omega arith;
  received = prefix_self watch.received;
}

goes_rebuilt : (watch : WatchData) → WatchGoesOn watch (rebuilt_watch watch)
goes_rebuilt watch = record { selection = refl; start = refl; position = omega arith; received = prefix_self watch.received }

goes_caught : (log : Log) (to end : ℕ) (watch : WatchData) → watch.position ≤ to → WatchGoesOn watch (caught_watch log to end watch)
goes_caught log to end watch onward = record {
  selection = cond_both _ (record (watch.lane) { mark = to; behind = false }) watch.lane (λ (lane : LaneData). lane.selection ≡ watch.lane.selection) (λ _. refl) (λ _. refl);
  start = refl;
  position = onward;
  received = prefix_grown watch.received (transitions log watch.lane.selection watch.position to);
}

goes_delivered : (log : Log) (s : Selection) (waiting : List BatchData) (watch : WatchData) → All (IsBatchOf log s) waiting → WatchGoesOn watch (delivered waiting watch)
goes_delivered log s [] watch all = goes_same watch
goes_delivered log s (batch ∷ more) watch all =
    let onward = (All-head (IsBatchOf log s) batch more all).0.onward in
    cond_both (nat_eq batch.from watch.position) (record watch { position = batch.to; received = watch.received ++ batch.sent; waiting = more }) (record watch { waiting = more })
    (WatchGoesOn watch)
    (λ here. let at = eqb-true batch.from watch.position here in record { selection = refl; start = refl; position = omega arith; received = prefix_grown watch.received batch.sent })
    (λ elsewhere. record { selection = refl; start = refl; position = omega arith; received = prefix_self watch.received })

-- ---- the watch of a client

-- a client's watch is still there, and goes on from this one
abbrev GoesOnAs : WatchData → Option WatchData → Type 0
GoesOnAs watch now = (later : WatchData) × (now ≡ Some later) × WatchGoesOn watch later

stays : (watch : WatchData) (now : Option WatchData) → now ≡ Some watch → GoesOnAs watch now
stays watch now same = (watch, same, goes_same watch)

-- another thing of some client changes
same_watch : (world : World) (j : ℕ) (client : ClientData) → client.watch ≡ (world.clients j).watch → (i : ℕ) → ((with_client world j client).clients i).watch ≡ (world.clients i).watch
same_watch world j client same = at_number (λ i c. c.watch ≡ (world.clients i).watch) world.clients j client same (λ i _. refl)

pass_stays : (world : World) (who : Party) (pass : Pass RevisionData) (i : ℕ) → ((with_pass world who pass).clients i).watch ≡ (world.clients i).watch
pass_stays world Store pass i = refl
pass_stays world (Cache resource) pass i = refl
pass_stays world (Client j) pass i = same_watch world j (record (world.clients j) { pass = pass }) refl i

each_goes : (resource : Resource) (change : WatchData → WatchData) (watch : WatchData) (now : Option WatchData) → now ≡ Some watch → WatchGoesOn watch (change watch) → GoesOnAs watch (each_of resource change now)
each_goes resource change watch now same goes = (
  cond (same_resource watch.lane.selection.resource resource) (change watch) watch,
  ap (each_of resource change) same,
  cond_both (same_resource watch.lane.selection.resource resource) (change watch) watch (WatchGoesOn watch) (λ _. goes) (λ _. goes_same watch),
)

-- one client's watch changes, in a way in which this one goes on
changed_goes : (world : World) (j : ℕ) (change : WatchData → WatchData) (such : WatchData → Type 0) → IsWatching (world.clients j).watch such →
    ((w : WatchData) → (world.clients j).watch ≡ Some w → such w → WatchGoesOn w (change w)) → (i : ℕ) (watch : WatchData) → (world.clients i).watch ≡ Some watch →
    GoesOnAs watch ((with_client world j (with_watch (world.clients j) change (world.clients j).watch)).clients i).watch
changed_goes world j change such may so i =
    at_number (λ i c. (watch : WatchData) → (world.clients i).watch ≡ Some watch → GoesOnAs watch c.watch) world.clients j (with_watch (world.clients j) change (world.clients j).watch)
    (λ watch same. (
      change watch,
      ap (λ (o : Option WatchData). (with_watch (world.clients j) change o).watch) same,
      so watch same (subst (λ (o : Option WatchData). IsWatching o such) same may),
    ))
    (λ i _ watch same. stays watch (world.clients i).watch same) i

-- one client's watch ends, or this is another's
ended_or_same : (world : World) (j : ℕ) (client : ClientData) (i : ℕ) → (j ≡ i) ⊎ (((with_client world j client).clients i).watch ≡ (world.clients i).watch)
ended_or_same world j client = at_number (λ i c. (j ≡ i) ⊎ (c.watch ≡ (world.clients i).watch)) world.clients j client (inl refl) (λ i _. inr refl)

ended_or_goes : (world : World) (j : ℕ) (client : ClientData) (i : ℕ) (watch : WatchData) → (world.clients i).watch ≡ Some watch → (j ≡ i) ⊎ GoesOnAs watch ((with_client world j client).clients i).watch
ended_or_goes world j client i watch same = elim (ended_or_same world j client i) [
  | inl e ↦ inl e
  | inr e ↦ inr (stays watch ((with_client world j client).clients i).watch (e ∙ same))
]

-- a client that doesn't watch isn't this one
other_client : (world : World) (j : ℕ) (client : ClientData) → (world.clients j).watch ≡ None → (i : ℕ) (watch : WatchData) → (world.clients i).watch ≡ Some watch →
    ((with_client world j client).clients i).watch ≡ Some watch
other_client world j client none = at_number (λ i c. (watch : WatchData) → (world.clients i).watch ≡ Some watch → c.watch ≡ Some watch) world.clients j client
    (λ watch same. absurd (some_none watch (world.clients j).watch same none)) (λ i _ watch same. same)
  where
    some_none : (watch : WatchData) (o : Option WatchData) → o ≡ Some watch → o ≡ None → ⊥
    some_none watch o some none = absurd (cc)

pub watches_go_on : WatchesGoOn
watches_go_on world (Write revision) i watch is may same = inr (stays watch (world.clients i).watch same)
watches_go_on world (Compact to) i watch is may same = inr (stays watch (world.clients i).watch same)
watches_go_on world Cut i watch is may same = inr (stays watch (world.clients i).watch same)
watches_go_on world (Load who word) i watch is may same = inr (stays watch _ (pass_stays world who _ i ∙ same))
watches_go_on world (Learn who whom) i watch is may same = inr (stays watch _ (pass_stays world who _ i ∙ same))
watches_go_on world (Pump resource end low falls) i watch is may same = inr (each_goes resource (pumped_watch world.log end (falls i)) watch (world.clients i).watch same (goes_pumped world.log end (falls i) watch))
watches_go_on world (Rebuild resource low) i watch is may same = inr (each_goes resource rebuilt_watch watch (world.clients i).watch same (goes_rebuilt watch))
watches_go_on world (Serve j s at rows) i watch is may same = inr (stays watch _ (same_watch world j _ refl i ∙ same))
watches_go_on world (Open j s at) i watch is may same = inr (stays watch _ (other_client world j _ may.0 i watch same))
watches_go_on world (CatchUp j to) i watch is may same =
    inr (changed_goes world j (λ w. caught_watch world.log to (cache_of world w).end w) (λ w. MayCatchUp world w to) may (λ w _ this. goes_caught world.log to (cache_of world w).end w this.onward) i watch same)
watches_go_on world (Deliver j) i watch is may same =
    inr (changed_goes world j (λ w. delivered w.waiting w) (λ w. w.waiting ≢ []) may
    (λ w here _. goes_delivered world.log w.lane.selection w.waiting w (known_some (λ x. IsWatch world.log (world.caches x.lane.selection.resource).end x) (world.clients j).watch w here (is.clients j).watch).waiting) i watch same)
watches_go_on world (Lose j) i watch is may same = ended_or_goes world j _ i watch same
watches_go_on world (Close j) i watch is may same = ended_or_goes world j _ i watch same

-- ---- who can be served

pub watches_are_served : WatchesAreServed
watches_are_served world i watch same = elim (cases_lt watch.position (cache_of world watch).low) [
  | inl below ↦ inr (subst (λ (o : Option WatchData). IsWatching o (λ w. w.position < (cache_of world w).low)) (sym same) below)
  | inr served ↦ inl (subst (λ (o : Option WatchData). IsWatching o (λ w. MayCatchUp world w (max watch.position (cache_of world watch).end))) (sym same) (record { served = inl served; onward = omega arith; reached = omega arith }))
]

pub lists_are_served : ListsAreServed
lists_are_served world i s is =
    let found = exist world.log is.log.revisions s.resource (world.caches s.resource).end in
    (listing s found.0, (inl refl, record { state = found.0; is_state = found.1; selected = refl }))
