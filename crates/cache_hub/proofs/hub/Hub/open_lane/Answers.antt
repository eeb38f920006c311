use Rattle.std.proofs.Common.{subst, sym, ap, ◌∙◌, Some}
use Rattle.std.specs.Prelude.{IfOk}
use Rattle.cache_hub.specs.Hubs.{HubData, StandsFor}
use Rattle.cache_hub.specs.OpenLanes.{SetsLane, newly_open}
use Rattle.cache_hub.proofs.HubLemmas.{stands_opened}
use Rattle.cache_hub.proofs.hub.Hub.open_lane.Goals as goal

pub returns-clause-stands : goal.returns-clause-stands
returns-clause-stands g c = λ log stands.
    stands_opened c.add.result (λ r. r.0) log (record { cache = c.self.inside.cache; rebuilds = c.self.inside.rebuilds; lanes = c.self.inside.lanes })
    c.add.new.self c.args.selection.now c.args.at (c.requires ∙ ap (λ (h : HubData). h.cache.resource) (sym c.self.view_is))
    (subst (λ e. IfOk c.add.result (λ r.
    SetsLane c.self.inside.lanes.all c.add.new.self.all r.0 (Some (newly_open c.args.selection.now c.args.at e c.self.inside.lanes.room))))
    c.end.ensures c.add.ensures.opened)
    c.add.ensures.kept (subst (StandsFor log) (sym c.self.view_is) stands)
