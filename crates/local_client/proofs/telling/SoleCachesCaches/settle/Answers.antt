use Rattle.std.proofs.Common.{subst, sym}
use Rattle.up_store.specs.Stores.{KnowsAll, StoreData}
use Rattle.local_client.specs.Caches.{SoleData}
use Rattle.local_client.proofs.SoleLemmas.{settled}
use Rattle.local_client.proofs.telling.SoleCachesCaches.settle.Goals as goal

pub returns-clause-told : goal.returns-clause-told
returns-clause-told g c =
    let knew = c.requires.knew in
    settled c.self.inside.store.whole knew.0 c.args.told.now c.tell.new.told (subst (λ (s : SoleData). KnowsAll s.store.whole knew.0) (sym c.self.view_is) knew.1) knew.2 c.tell.ensures.covered c.tell.ensures.learns
    (subst (λ (s : StoreData). KnowsAll s.whole c.tell.new.told) c.tell.ensures.same c.tell.ensures.tells) c.shown-before.ensures.lawful c.shown-after.ensures.lawful
