use Rattle.std.proofs.Common.{◌≡◌, ◌≤◌, length, ap, ◌∙◌, subst, arith}
use Rattle.std.specs.Prelude.{All}
use Rattle.std.proofs.lemmas.List.{take_all}
use Rattle.event_ring.specs.Rings.{RingData, IsRing, last_revision}
use Rattle.event_ring.specs.declared.stamped.Stamped.{Stamped}
use Rattle.event_ring.proofs.OrderLemmas.{not_falling}
use Rattle.event_ring.proofs.PushLemmas.{last_from, last_is_top}
use Rattle.event_ring.proofs.ring.Ring.last.Goals as goal

pub returns : goal.returns
returns c =
    let is = subst IsRing c.self.view_is c.self.invariant in
    let ring = c.args.self.now in
    let long : length ring.held ≤ c.len.result = omega (arith, ap (λ (r : RingData). length r.held) c.self.view_is) in
    let last : c.floor_after.result ≡ last_revision ring.floor ring.held = c.floor_after.ensures ∙ ap (last_revision ring.floor) (take_all c.len.result ring.held long) in
    let above : All (λ (x : Stamped). ring.floor ≤ x.event.rev) ring.held = λ i d inside. omega (arith, is.above i d inside) in
    let floor : ring.floor ≤ c.floor_after.result = omega (arith, last, last_from ring.floor ring.floor ring.held (omega arith) above) in
    let top : All (λ (x : Stamped). x.event.rev ≤ c.floor_after.result) ring.held = λ i d inside. omega (arith, last, last_is_top ring.floor ring.held (not_falling ring.held is.rising) i d inside) in
    record { value = last; floor = floor; top = top }
