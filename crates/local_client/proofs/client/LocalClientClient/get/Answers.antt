use Rattle.std.proofs.Common.{subst}
use Rattle.cached_client.specs.Caches.{CachesFacts, KnowsOwn}
use Rattle.local_client.proofs.SoleLemmas.{sole-read}
use Rattle.local_client.proofs.client.LocalClientClient.get.Goals as goal

pub returns-clause-sole : goal.returns-clause-sole
returns-clause-sole g c = λ knew.
    let e = c.get.ensures in
    sole-read c.args.self.now.caches.store.whole c.args.self.now.told c.get.new.told c.get.result knew
    (subst (λ (f : CachesFacts). KnowsOwn f c.get.new.told) e.facts e.knows) e.onward.extends e.loads
