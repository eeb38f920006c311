use Rattle.std.proofs.Common.{ap, refl, subst, sym, ◌≡◌, ◌∙◌}
use Rattle.std.specs.Prelude.{IfOk, Ok, Result}
use Rattle.rev_front.specs.Passes.{Pass, Whole, empty_log, pass_from}
use Rattle.rev_log.specs.Changes.{RevisionData}
use Rattle.up_store.specs.Stores.{StoreData}
use Rattle.cached_client.specs.CacheStates.{CacheStateData}
use Rattle.local_client.proofs.making.new_caches.Goals as goal

-- what was made
made_is : {A E : Type 0} (P : A → Type 0) (answer : Result A E) (a : A) → answer ≡ Ok a → IfOk answer P → P a
made_is P answer a is given = subst (λ r. IfOk r P) is given

pub invariant_of-caches : goal.invariant_of-caches
invariant_of-caches g c =
    let window = c.args.settings.now.window in
    let i = c.in_ok-pods in
    let all = i.ensures.made in
    let two = made_is (λ (z : CacheStateData × CacheStateData). (c.cache-pods.result ≡ Ok z.0) × (c.cache-config_maps.result ≡ Ok z.1)) c.both.result (i.pods, i.config_maps) all.0 c.both.ensures.made in
    let rest = made_is (λ (z : CacheStateData × (StoreData × Pass RevisionData)). (c.cache-deployments.result ≡ Ok z.0) × (c.both-2.result ≡ Ok z.1)) c.both-3.result (i.deployments, (i.store, i.told)) all.1 c.both-3.ensures.made in
    let pods = made_is (λ (z : CacheStateData). z.hub.cache.ring.window ≡ window) c.cache-pods.result i.pods two.0 c.cache-pods.ensures.window in
    record {
      config_maps = made_is (λ (z : CacheStateData). z.hub.cache.ring.window ≡ window) c.cache-config_maps.result i.config_maps two.1 c.cache-config_maps.ensures.window ∙ sym pods;
      deployments = made_is (λ (z : CacheStateData). z.hub.cache.ring.window ≡ window) c.cache-deployments.result i.deployments rest.0 c.cache-deployments.ensures.window ∙ sym pods;
    }

pub returns : goal.returns
returns g c =
    let first = g.N.LogName.log.first in
    let i = c.in_ok-pods in
    let all = i.ensures.made in
    let two = made_is (λ (z : CacheStateData × CacheStateData). (c.cache-pods.result ≡ Ok z.0) × (c.cache-config_maps.result ≡ Ok z.1)) c.both.result (i.pods, i.config_maps) all.0 c.both.ensures.made in
    let rest = made_is (λ (z : CacheStateData × (StoreData × Pass RevisionData)). (c.cache-deployments.result ≡ Ok z.0) × (c.both-2.result ≡ Ok z.1)) c.both-3.result (i.deployments, (i.store, i.told)) all.1 c.both-3.ensures.made in
    let last = made_is (λ (z : StoreData × Pass RevisionData). (Ok c.pass-told.new.self ≡ Ok z.0) × (c.pass-told.result ≡ Ok z.1)) c.both-2.result (i.store, i.told) rest.1 c.both-2.ensures.made in
    let store : i.store ≡ c.cache-deployments.new.store = sym (made_is (λ (s : StoreData). c.pass-told.new.self ≡ s) (Ok c.pass-told.new.self) i.store last.0 refl) ∙ c.pass-told.ensures.same in
    let whole : c.cache-deployments.new.store.whole ≡ empty_log {E = RevisionData} first =
    c.cache-deployments.ensures.whole ∙ c.cache-config_maps.ensures.whole ∙ c.cache-pods.ensures.whole ∙ ap (λ (s : StoreData). s.whole) c.in_ok-store.ensures.store in
    let pass = made_is (λ (p : Pass RevisionData). p ≡ pass_from c.cache-deployments.new.store.whole p.seat) c.pass-told.result i.told last.1 c.pass-told.ensures.pass in
    record {
      log = ap (λ (s : StoreData). s.whole) store ∙ whole;
      history = ap (λ (s : StoreData). s.history) store ∙ c.cache-deployments.ensures.history ∙ c.cache-config_maps.ensures.history ∙ c.cache-pods.ensures.history ∙ ap (λ (s : StoreData). s.history) c.in_ok-store.ensures.store;
      window = made_is (λ (z : CacheStateData). z.hub.cache.ring.window ≡ c.args.settings.now.window) c.cache-pods.result i.pods two.0 c.cache-pods.ensures.window;
      pass = subst (λ (w : Whole RevisionData). i.told ≡ pass_from w i.told.seat) whole pass;
      author = c.in_ok-store.ensures.author;
    }
