use Rattle.std.proofs.Common.{◌≡◌, ℕ, ◌+◌, ◌-◌, List, length, sym, ap, subst, arith}
use Rattle.std.specs.Prelude.{slice_get, Some, None}
use Rattle.event_ring.specs.Rings.{RingData, IsRing, IsPlaceAbove, AreDropped}
use Rattle.event_ring.specs.declared.stamped.Stamped.{Stamped}
use Rattle.event_ring.proofs.OrderLemmas.{not_falling}
use Rattle.event_ring.proofs.PlaceLemmas.{parts_at, all_parts}
use Rattle.event_ring.proofs.ring.Ring.passed.Goals as goal

pub place_above-requires : goal.place_above-requires
place_above-requires c = not_falling c.self.inside.held.items c.self.invariant.rising

pub returns-in-Some : goal.returns-in-Some
returns-in-Some c =
    let items = ap (λ (r : RingData). r.held) c.self.view_is in
    let long = ap (λ (r : RingData). length r.held) c.self.view_is in
    let many = ap (λ (r : RingData). r.capacity) c.self.view_is in
    let excess = c.saturating_sub-excess.result in
    let over : excess ≡ (length c.args.self.now.held + length c.args.events.now) - c.args.self.now.capacity = omega (arith, long, many) in
    let here = subst (λ (xs : List Stamped). slice_get xs excess ≡ Some c.in-Some.first.now) items (sym c.in-Some.ensures) in
    let rev = ap (λ (x : Stamped). x.event.rev - 1) c.first.view_is in
    let place = subst (λ (at : ℕ). IsPlaceAbove c.self.inside.held.items at c.place_above.result) rev c.place_above.ensures in
    let there = subst (λ (xs : List Stamped). IsPlaceAbove xs (c.in-Some.first.now.event.rev - 1) c.place_above.result) items place in
    parts_at c.args.self.now c.args.events.now excess c.place_above.result c.in-Some.first.now (subst IsRing c.self.view_is c.self.invariant) c.requires over here there

pub returns-in-None : goal.returns-in-None
returns-in-None c =
    let items = ap (λ (r : RingData). r.held) c.self.view_is in
    let long = ap (λ (r : RingData). length r.held) c.self.view_is in
    let many = ap (λ (r : RingData). r.capacity) c.self.view_is in
    let excess = c.saturating_sub-excess.result in
    let over : excess ≡ (length c.args.self.now.held + length c.args.events.now) - c.args.self.now.capacity = omega (arith, long, many) in
    let past = subst (λ (xs : List Stamped). slice_get xs excess ≡ None) items (sym c.in-None.ensures) in
    let all : length c.args.self.now.held ≡ c.len-in-None.result = omega (arith, long) in
    subst (AreDropped c.args.self.now c.args.events.now) all
    (all_parts c.args.self.now c.args.events.now excess (subst IsRing c.self.view_is c.self.invariant) c.requires over past)
