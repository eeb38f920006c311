use Rattle.std.proofs.Common.{Some, sym, ap, subst, arith, ◌∙◌, ◌++◌}
use Rattle.cache_hub.specs.OpenLanes.{LanesData, SetsLane, open_at}
use Rattle.cache_hub.proofs.BothLemmas.{none_of_both, set_placed, set_alike}
use Rattle.cache_hub.proofs.lanes.Lanes.put.Goals as goal

pub returns-then-are_like-clause-fresh : goal.returns-then-are_like-clause-fresh
returns-then-are_like-clause-fresh g c =
    ap (λ (x : LanesData). open_at x.all c.self.inside.next) (sym c.self.view_is)
    ∙ none_of_both c.self.inside.placed.entries c.self.inside.alike.entries c.self.inside.next (c.self.invariant.3 c.self.inside.next (omega arith)) (c.self.invariant.4 c.self.inside.next (omega arith))

pub returns-then-are_like-clause-put : goal.returns-then-are_like-clause-put
returns-then-are_like-clause-put g c =
    subst (λ (x : LanesData). SetsLane x.all (c.self.inside.placed.entries ++ c.insert.new.self.entries) c.self.inside.next (Some c.args.lane)) c.self.view_is
    (set_alike c.self.inside.placed.entries c.self.inside.alike.entries c.insert.new.self.entries c.self.inside.next (Some c.args.lane)
    (c.self.invariant.3 c.self.inside.next (omega arith)) c.in_ok-insert.ensures.updates.0)

pub returns-clause-fresh : goal.returns-clause-fresh
returns-clause-fresh g c =
    ap (λ (x : LanesData). open_at x.all c.self.inside.next) (sym c.self.view_is)
    ∙ none_of_both c.self.inside.placed.entries c.self.inside.alike.entries c.self.inside.next (c.self.invariant.3 c.self.inside.next (omega arith)) (c.self.invariant.4 c.self.inside.next (omega arith))

pub returns-clause-put : goal.returns-clause-put
returns-clause-put g c =
    subst (λ (x : LanesData). SetsLane x.all (c.put_placed.new.placed.entries ++ c.self.inside.alike.entries) c.self.inside.next (Some c.args.lane)) c.self.view_is
    (set_placed c.self.inside.placed.entries c.self.inside.alike.entries c.put_placed.new.placed.entries c.self.inside.next c.args.lane c.in_ok-put_placed.ensures.put)
