use Rattle.std.proofs.Common.{◌≡◌, ◌+◌, ◌≤◌, ◌++◌, length, map}
use Rattle.event_ring.specs.Rings.{stamped}
use Rattle.event_ring.proofs.ring.append.Given as goal

-- what was appended, and then what is left, are the old events and the new ones, for which there is room
abbrev pub invariant-loop-event : goal.invariant-loop-event
invariant-loop-event l = record {
  all : l.held.items ++ map (stamped l.now) l.event-iterator.rest.items ≡ l.initial.held.items ++ map (stamped l.now) l.fn.events.items;
  same : l.held.capacity ≡ l.initial.held.capacity;
  room : length l.held.items + length l.event-iterator.rest.items ≤ l.held.capacity;
}
