use Rattle.std.proofs.Common.{sym, ap, ◌∙◌}
use Rattle.cache_hub.specs.OpenLanes.{LanesData, open_at}
use Rattle.cache_hub.proofs.BothLemmas.{found_in_placed, found_in_alike}
use Rattle.cache_hub.proofs.lanes.Lanes.lane.Goals as goal

pub returns-in-Some : goal.returns-in-Some
returns-in-Some g c =
    sym (found_in_placed c.self.inside.placed.entries c.self.inside.alike.entries c.args.id c.in-Some.lane.now (sym c.in-Some.ensures.value))
    ∙ ap (λ (x : LanesData). open_at x.all c.args.id) c.self.view_is

pub returns-in-None : goal.returns-in-None
returns-in-None g c =
    c.get-in-None.ensures.value ∙ sym (found_in_alike c.self.inside.placed.entries c.self.inside.alike.entries c.args.id (sym c.in-None.ensures.value))
    ∙ ap (λ (x : LanesData). open_at x.all c.args.id) c.self.view_is
