use Rattle.std.proofs.Common.{◌≡◌, [], ap, arith}
use Rattle.event_ring.proofs.FitLemmas.{emptied}
use Rattle.event_ring.proofs.ring.Ring.new.Goals as goal

pub invariant_of-result : goal.invariant_of-result
invariant_of-result c =
    let items : c.in_ok-held.held.items ≡ [] = ap (λ b. b.items) c.in_ok-held.ensures in
    let room = ap (λ b. b.capacity) c.in_ok-held.ensures in
    rw items (emptied c.args.window c.args.window_max c.args.fresh_ms c.args.window c.args.floor c.in_ok-held.held.capacity c.requires.some (omega arith) c.requires.order c.requires.bounded (omega (arith, room)) (omega (arith, room, c.requires.order)))
