use Rattle.std.proofs.Common.{ℕ, ◌-◌, ◌<◌, ◌≤◌, length, get_or}
use Rattle.event_ring.specs.declared.stamped.Stamped.{Stamped}
use Rattle.event_ring.proofs.search.place_above.Given as goal

abbrev pub invariant-loop-low : goal.invariant-loop-low
invariant-loop-low l = record {
  order : l.low ≤ l.high;
  within : l.high ≤ length l.held.items;
  below : (i : ℕ) (d : Stamped) → i < l.low → (get_or l.held.items i d).event.rev ≤ l.at;
  above : (i : ℕ) (d : Stamped) → l.high ≤ i → i < length l.held.items → l.at < (get_or l.held.items i d).event.rev;
}

abbrev pub decreases-loop-low : goal.decreases-loop-low
decreases-loop-low l = l.high - l.low
