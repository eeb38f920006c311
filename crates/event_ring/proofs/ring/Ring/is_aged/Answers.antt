use Rattle.std.proofs.Common.{◌-◌, leb, false, ap, ◌∙◌}
use Rattle.std.specs.Option.{option_map_or}
use Rattle.event_ring.specs.declared.stamped.Stamped.{Stamped}
use Rattle.event_ring.proofs.ring.Ring.is_aged.Goals as goal

pub returns-in-Some : goal.returns-in-Some
returns-in-Some c =
    rw (← c.self.view_is)
    (ap (leb c.self.inside.fresh_ms) c.saturating_sub.ensures
    ∙ ap (λ o. option_map_or (λ (x : Stamped). leb c.self.inside.fresh_ms (c.args.now - x.stamp)) o false) c.in-Some.ensures)

pub returns-in-None : goal.returns-in-None
returns-in-None c =
    rw (← c.self.view_is)
    (ap (λ o. option_map_or (λ (x : Stamped). leb c.self.inside.fresh_ms (c.args.now - x.stamp)) o false) c.in-None.ensures)
