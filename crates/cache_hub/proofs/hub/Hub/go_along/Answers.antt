use Rattle.std.proofs.Common.{sym, Some, ap, max, rules, subst, ◌∙◌}
use Rattle.cache_hub.specs.Hubs.{StandsFor}
use Rattle.cache_hub.specs.OpenLanes.{GoesAlong, LaneCaughtUp, open_at}
use Rattle.cache_hub.proofs.HubLemmas.{along_as, stands_caught}
use Rattle.cache_hub.proofs.hub.Hub.go_along.Goals as goal

pub returns-clause-caught : goal.returns-clause-caught
returns-clause-caught g c = λ log many some stands.
    let goes : GoesAlong c.args.selection.now c.args.at (open_at c.self.inside.lanes.all c.args.id) = search rules in
    along_as log c.args.self.now c.self.inside.cache c.self.inside.rebuilds c.self.inside.lanes c.args.id c.args.selection.now c.args.at many c.max-upto.result c.new.result.items
    c.self.view_is goes (c.max-upto.ensures ∙ ap (max c.args.at) c.end-end.ensures) c.new.ensures.items some stands

pub returns-clause-stands : goal.returns-clause-stands
returns-clause-stands g c = λ log stands.
    stands_caught log (record { cache = c.self.inside.cache; rebuilds = c.self.inside.rebuilds; lanes = c.self.inside.lanes })
    c.note_caught.new.self (Some c.args.id) c.max-upto.result
    (subst (λ e. LaneCaughtUp (Some c.args.id) c.max-upto.result e c.self.inside.lanes c.note_caught.new.self) c.end-end.ensures c.note_caught.ensures)
    (subst (StandsFor log) (sym c.self.view_is) stands)
