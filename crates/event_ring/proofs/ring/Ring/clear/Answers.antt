use Rattle.std.proofs.Common.{◌≡◌, [], ap, arith}
use Rattle.event_ring.proofs.FitLemmas.{emptied}
use Rattle.event_ring.proofs.ring.Ring.clear.Goals as goal

pub invariant_of-self : goal.invariant_of-self
invariant_of-self c =
    let items : c.clear.new.self.items ≡ [] = ap (λ b. b.items) c.clear.ensures in
    let room = ap (λ b. b.capacity) c.clear.ensures in
    let is = c.self.invariant in
    rw items (emptied c.self.inside.window c.self.inside.window_max c.self.inside.fresh_ms c.self.inside.capacity c.args.floor c.clear.new.self.capacity is.some is.least is.most is.bounded (omega (arith, room, is.roomy)) (omega (arith, room, is.sized)))
