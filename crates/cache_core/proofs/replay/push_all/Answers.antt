use Rattle.std.proofs.Common.{◌≡◌, ◌∷◌, map, ap, sym, subst}
use Rattle.cache_core.specs.Steps.{AreGroups, AreReplayed}
use Rattle.cache_core.proofs.RingLemmas.{pushed_upto}
use Rattle.cache_core.proofs.replay.push_all.Goals as goal

pub loop-events-preserved : goal.loop-events-preserved
loop-events-preserved c =
    let first : c.loop-events.events-iterator.rest.items ≡ c.in-Some.events ∷ c.next.new.self.rest.items = c.in-Some.ensures.steps.0 in
    let groups = ap (map (λ group. group.items)) first in
    let is = subst (AreGroups c.loop-events.invariant.last) groups c.loop-events.invariant.groups in
    record {
      last = is.0.rev;
      up_to = pushed_upto c.loop-events.invariant.last c.args.time c.loop-events.ring c.push.new.ring c.in-Some.events.items c.loop-events.invariant.up_to is.0 c.push.ensures;
      groups = is.1;
      goes_on = λ new replay. c.loop-events.invariant.goes_on new (subst (λ gs. AreReplayed c.loop-events.ring gs c.args.time new) (sym groups) (c.push.new.ring, c.push.ensures, replay));
    }
