use Rattle.std.proofs.Common.{subst, ◌++◌}
use Rattle.cache_hub.specs.OpenLanes.{LanesData, AreChanged, left_behind}
use Rattle.cache_hub.proofs.BothLemmas.{changed_both}
use Rattle.cache_hub.proofs.lanes.Lanes.lag.Goals as goal

pub returns-clause-behind : goal.returns-clause-behind
returns-clause-behind g c =
    subst (λ (x : LanesData). AreChanged left_behind x.all (c.lag_all.new.lanes.entries ++ c.lag_all-2.new.lanes.entries)) c.self.view_is
    (changed_both c.self.inside.placed.entries c.self.inside.alike.entries c.lag_all.new.lanes.entries c.lag_all-2.new.lanes.entries left_behind c.lag_all.ensures c.lag_all-2.ensures)
