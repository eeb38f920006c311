use Rattle.std.proofs.Common.{ℕ, map}
use Rattle.event_ring.specs.Rings.{RingData}
use Rattle.cache_core.specs.Steps.{IsUpTo, AreGroups, AreReplayed}
use Rattle.cache_core.proofs.replay.push_all.Given as goal

-- what is left may follow, and whoever replays it from here has replayed all
abbrev pub invariant-loop-events : goal.invariant-loop-events
invariant-loop-events l = record {
  last : ℕ;
  up_to : IsUpTo last l.ring;
  groups : AreGroups last (map (λ group. group.items) l.events-iterator.rest.items);
  goes_on : (new : RingData) → AreReplayed l.ring (map (λ group. group.items) l.events-iterator.rest.items) l.time new →
      AreReplayed l.initial.ring (map (λ group. group.items) l.fn.groups.items) l.time new;
}
