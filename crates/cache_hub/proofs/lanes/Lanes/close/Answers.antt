use Rattle.std.proofs.Common.{◌≡◌, subst, ◌++◌, None, rules}
use Rattle.cache_hub.specs.OpenLanes.{LanesData, SetsLane}
use Rattle.cache_hub.proofs.BothLemmas.{apart_closed, set_none}
use Rattle.cache_hub.proofs.LaneLemmas.{each_set}
use Rattle.cache_hub.proofs.lanes.Lanes.close.Goals as goal

pub returns-clause-closed : goal.returns-clause-closed
returns-clause-closed g c =
    subst (λ (x : LanesData). SetsLane x.all (c.swap_remove-placed.new.self.entries ++ c.swap_remove-alike.new.self.entries) c.args.id None) c.self.view_is
    (set_none c.self.inside.placed.entries c.self.inside.alike.entries c.swap_remove-placed.new.self.entries c.swap_remove-alike.new.self.entries c.args.id
    c.swap_remove-placed.ensures.updates.0 c.swap_remove-alike.ensures.updates.0)

pub invariant_of-self : goal.invariant_of-self
invariant_of-self g c = (
  c.self.invariant.0,
  c.self.invariant.1,
  search rules,
  search rules,
  search rules,
  (
    c.self.invariant.5.0,
    each_set (λ o. o.lane.selection ≡ c.self.invariant.5.0) c.self.inside.alike.entries c.swap_remove-alike.new.self.entries c.args.id None
        c.swap_remove-alike.ensures.updates.0 (λ o is. absurd (cc)) c.self.invariant.5.1,
  ),
  apart_closed c.self.inside.placed.entries c.self.inside.alike.entries c.swap_remove-placed.new.self.entries c.swap_remove-alike.new.self.entries c.args.id
      c.self.invariant.6 c.swap_remove-placed.ensures.updates.0 c.swap_remove-alike.ensures.updates.0,
)
