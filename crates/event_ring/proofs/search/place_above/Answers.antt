use Rattle.std.proofs.Common.{◌+◌, ◌-◌, ◌/◌, get_or, sym, ◌∙◌, arith}
use Rattle.std.proofs.lemmas.Bool.{ltb-false}
use Rattle.event_ring.proofs.PushLemmas.{not_after}
use Rattle.event_ring.proofs.search.place_above.Goals as goal

pub loop-low-preserved : goal.loop-low-preserved
loop-low-preserved c =
    let middle = c.loop-low.low + (c.loop-low.high - c.loop-low.low) / 2 in
    record {
      order = omega arith;
      within = c.loop-low.invariant.within;
      below = λ i d before. not_after c.args.held.now.items i middle d c.args.at (omega (arith, before)) (omega arith) c.requires (ltb-false c.args.at (get_or c.args.held.now.items middle d).event.rev (sym (c.is_above.ensures d) ∙ c.if-is_above.false));
      above = c.loop-low.invariant.above;
    }
