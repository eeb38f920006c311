use Rattle.std.proofs.Common.{sym, ap, subst, ◌∙◌, max}
use Rattle.cache_hub.specs.Hubs.{StandsFor}
use Rattle.cache_hub.specs.OpenLanes.{LaneCaughtUp}
use Rattle.cache_hub.proofs.HubLemmas.{stands_caught, caught_of}
use Rattle.cache_hub.proofs.hub.Hub.catch_up.Goals as goal

pub returns-clause-caught : goal.returns-clause-caught
returns-clause-caught g c = caught_of c.args.self.now c.self.inside.cache c.self.inside.rebuilds c.self.inside.lanes c.args.selection.now c.args.at c.args.many c.max.result c.in_ok-events.events c.in_ok-caught.caught
    c.self.view_is c.requires.resource c.in_ok-events.ensures.served (c.max.ensures ∙ ap (max c.args.at) c.end-end.ensures) c.in_ok-events.ensures.lent c.in_ok-caught.ensures

pub returns-clause-stands : goal.returns-clause-stands
returns-clause-stands g c = λ log stands.
    stands_caught log (record { cache = c.self.inside.cache; rebuilds = c.self.inside.rebuilds; lanes = c.self.inside.lanes })
    c.note_caught.new.self c.args.id c.caught.inside.upto
    (subst (λ e. LaneCaughtUp c.args.id c.caught.inside.upto e c.self.inside.lanes c.note_caught.new.self) c.end-end.ensures c.note_caught.ensures)
    (subst (StandsFor log) (sym c.self.view_is) stands)
