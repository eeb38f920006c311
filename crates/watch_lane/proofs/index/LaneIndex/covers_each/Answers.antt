use Rattle.std.proofs.Common.{refl}
use Rattle.watch_lane.proofs.IndexLemmas.{found_by}
use Rattle.watch_lane.proofs.index.LaneIndex.covers_each.Goals as goal

pub returns-then-covers-clause-covered : goal.returns-then-covers-clause-covered
returns-then-covers-clause-covered c = λ yes id found.
    found_by c.args.self.now c.self.inside.field c.self.inside.lanes.entries c.self.inside.places c.args.obj.now c.args.by.now id
    c.name.result.now c.value_in-value.result.now c.ns.result.now c.name-2.result.now c.value_in-by_value.result.now c.ns-then-covers.result.now
    c.self.view_is (λ p. c.self.invariant p id) c.ns.ensures.whole c.ns-then-covers.ensures.whole
    c.name.ensures.value c.value_in-value.ensures c.ns.ensures.value c.name-2.ensures.value c.value_in-by_value.ensures c.ns-then-covers.ensures.value
    (c.if-not-covers.ensures.covered refl id) (c.if-covers.ensures.covered refl id) (c.covers-then-covers.ensures.covered yes id)
    found
