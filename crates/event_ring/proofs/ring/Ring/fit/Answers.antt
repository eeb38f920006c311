use Rattle.std.proofs.Common.{◌≤◌, ap, subst, arith}
use Rattle.event_ring.specs.Rings.{RingData, IsRing}
use Rattle.event_ring.proofs.FitLemmas.{fitted_within, refitted}
use Rattle.event_ring.proofs.ring.Ring.fit.Goals as goal

pub invariant_of-self-2 : goal.invariant_of-self-2
invariant_of-self-2 c =
    let within = fitted_within c.args.self.now c.args.now (subst IsRing c.self.view_is c.self.invariant) in
    let low : c.self.inside.window ≤ c.fitting-capacity.result = omega (arith, within.0, c.fitting-capacity.ensures, ap (λ (r : RingData). r.window) c.self.view_is) in
    let high : c.fitting-capacity.result ≤ c.self.inside.window_max = omega (arith, within.1, c.fitting-capacity.ensures, ap (λ (r : RingData). r.window_max) c.self.view_is) in
    let ring : RingData = record { window = c.self.inside.window; window_max = c.self.inside.window_max; fresh_ms = c.self.inside.fresh_ms; capacity = c.self.inside.capacity; floor = c.self.inside.floor; held = c.self.inside.held.items; room = c.self.inside.held.capacity } in
    let same = c.in_ok-make_room.ensures.ok in
    rw same (refitted ring c.fitting-capacity.result c.self.invariant low high)
