use Rattle.std.proofs.Common.{sym, subst}
use Rattle.cache_hub.specs.Hubs.{StandsFor}
use Rattle.cache_hub.proofs.HubLemmas.{stands_closed}
use Rattle.cache_hub.proofs.hub.Hub.close_lane.Goals as goal

pub returns-clause-stands : goal.returns-clause-stands
returns-clause-stands g c = λ log stands.
    stands_closed log (record { cache = c.self.inside.cache; rebuilds = c.self.inside.rebuilds; lanes = c.self.inside.lanes })
    c.close.new.self c.args.id c.close.ensures.closed (subst (StandsFor log) (sym c.self.view_is) stands)
