use Rattle.std.proofs.Common.{◌≡◌, ◌+◌, ◌-◌, ◌≤◌, List, ◌++◌, length, drop, map, sym, ap, ◌∙◌, subst, arith}
use Rattle.circular_buffer.specs.Buffer.{Buffer}
use Rattle.event_ring.specs.Events.{EventRows}
use Rattle.event_ring.specs.Rings.{RingData, IsRing, AreDropped, stamped}
use Rattle.event_ring.specs.declared.stamped.Stamped.{Stamped}
use Rattle.event_ring.proofs.PushLemmas.{keep_rings}
use Rattle.event_ring.proofs.PlaceLemmas.{pushed_is, with_room, keep_last-drop}
use Rattle.event_ring.proofs.ring.Ring.push_revision.Goals as goal

pub append-requires : goal.append-requires
append-requires c =
    let passed = c.passed-passed.result in
    let is = subst IsRing c.self.view_is c.self.invariant in
    let are = subst (λ (xs : List EventRows). AreDropped c.args.self.now xs passed) c.deref.ensures.value c.passed-passed.ensures in
    let items = ap (λ (r : RingData). r.held) c.self.view_is in
    let within : passed ≤ length c.self.inside.held.items = omega (arith, are.within, ap (λ (xs : List Stamped). length xs) items) in
    let many : c.len.result - passed ≡ length c.self.inside.held.items - passed = omega (arith, c.len.ensures.len) in
    let left : c.truncate_front.new.self.items ≡ drop passed c.args.self.now.held =
    ap (λ (b : Buffer Stamped). b.items) c.truncate_front.ensures ∙ keep_last-drop c.self.inside.held.items passed (c.len.result - passed) within many ∙ ap (drop passed) items in
    let room = ap (λ (b : Buffer Stamped). b.capacity) c.truncate_front.ensures in
    let enough : c.args.self.now.capacity + 63 ≤ c.self.inside.held.capacity = omega (arith, c.self.invariant.roomy, ap (λ (r : RingData). r.capacity) c.self.view_is) in
    omega (arith, with_room c.args.self.now c.args.events.items passed c.self.inside.held.capacity is c.requires are enough, ap (λ (xs : List Stamped). length xs) left, room)

pub invariant_of-self : goal.invariant_of-self
invariant_of-self c =
    let passed = c.passed-passed.result in
    let is = subst IsRing c.self.view_is c.self.invariant in
    let are = subst (λ (xs : List EventRows). AreDropped c.args.self.now xs passed) c.deref.ensures.value c.passed-passed.ensures in
    let items = ap (λ (r : RingData). r.held) c.self.view_is in
    let within : passed ≤ length c.self.inside.held.items = omega (arith, are.within, ap (λ (xs : List Stamped). length xs) items) in
    let many : c.len.result - passed ≡ length c.self.inside.held.items - passed = omega (arith, c.len.ensures.len) in
    let left : c.truncate_front.new.self.items ≡ drop passed c.args.self.now.held =
    ap (λ (b : Buffer Stamped). b.items) c.truncate_front.ensures ∙ keep_last-drop c.self.inside.held.items passed (c.len.result - passed) within many ∙ ap (drop passed) items in
    let held : c.append.new.held.items ≡ drop passed c.args.self.now.held ++ map (stamped c.args.now) c.args.events.items =
    ap (λ (b : Buffer Stamped). b.items) c.append.ensures ∙ ap (λ (xs : List Stamped). xs ++ map (stamped c.args.now) c.args.events.items) left in
    let same = pushed_is c.args.self.now c.args.events.items c.args.now passed c.floor_after-self-inside.result c.append.new.held.items are c.floor_after-self-inside.ensures held in
    let ring = subst IsRing same (keep_rings c.args.self.now c.args.events.items c.args.now is c.requires) in
    let room = ap (λ (b : Buffer Stamped). b.capacity) c.truncate_front.ensures in
    let room' = ap (λ (b : Buffer Stamped). b.capacity) c.append.ensures in
    let stays : c.append.new.held.capacity ≡ c.self.inside.held.capacity = omega (arith, room, room') in
    rw stays (subst (λ (r : RingData). IsRing (record r { floor = c.floor_after-self-inside.result; held = c.append.new.held.items })) (sym c.self.view_is) ring)
