use Rattle.std.proofs.Common.{ap, ◌∙◌}
use Rattle.event_ring.specs.Rings.{RingData, since}
use Rattle.event_ring.proofs.OrderLemmas.{not_falling}
use Rattle.event_ring.proofs.PlaceLemmas.{lent}
use Rattle.event_ring.proofs.ring.Ring.since.Goals as goal

pub place_above-requires : goal.place_above-requires
place_above-requires c = not_falling c.self.inside.held.items c.self.invariant.rising

pub returns-clause-lent : goal.returns-clause-lent
returns-clause-lent c =
    c.from.ensures ∙ lent c.self.inside.held.items c.args.at c.place_above.result c.place_above.ensures ∙ ap (λ (r : RingData). since r c.args.at) c.self.view_is
