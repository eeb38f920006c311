use Rattle.std.proofs.Common.{sym, subst}
use Rattle.cache_hub.specs.Hubs.{StandsFor}
use Rattle.cache_hub.proofs.HubLemmas.{ticked}
use Rattle.cache_hub.proofs.hub.Hub.tick.Goals as goal

pub returns-clause-stands : goal.returns-clause-stands
returns-clause-stands g c = λ log stands.
    subst (λ cache. StandsFor log (record { cache = cache; rebuilds = c.self.inside.rebuilds; lanes = c.self.inside.lanes })) (sym c.tick.ensures)
    (ticked log (record { cache = c.self.inside.cache; rebuilds = c.self.inside.rebuilds; lanes = c.self.inside.lanes }) _
    (subst (StandsFor log) (sym c.self.view_is) stands))
