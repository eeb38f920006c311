-- Laws of pushes.
use Rattle.std.specs.Prelude.{◌≡◌, ℕ, ◌+◌, ◌<◌, ◌≤◌, List, ◌++◌, length, All}
use Rattle.event_ring.specs.Events.{EventRows}
use Rattle.event_ring.specs.Rings.{RingData, IsRing, IsNext, since, later, pushed, with_events, kept, dropped}

-- after a push a ring holds fewer than 64 events more than its capacity
abbrev pub PushesAreBounded : Type 0
PushesAreBounded =
    (ring : RingData) (events : List EventRows) (now : ℕ) → IsRing ring → IsNext ring events →
    length (pushed ring events now).held ≤ ring.capacity + 63

-- above the floor after a push there is all that there was, and all that is new
abbrev pub PushesLoseNothing : Type 0
PushesLoseNothing =
    (ring : RingData) (events : List EventRows) (now at : ℕ) → IsRing ring → IsNext ring events →
    (pushed ring events now).floor ≤ at → since (pushed ring events now) at ≡ since ring at ++ later at events

-- a push drops the first events, and of each revision all or none
abbrev pub PushesDropWholeRevisions : Type 0
PushesDropWholeRevisions =
    (ring : RingData) (events : List EventRows) (now : ℕ) → IsRing ring → IsNext ring events →
    (dropped ring.capacity (with_events ring events now) ++ kept ring.capacity (with_events ring events now) ≡ with_events ring events now) ×
    All (λ d. All (λ k. d.event.rev < k.event.rev) (kept ring.capacity (with_events ring events now))) (dropped ring.capacity (with_events ring events now))

-- a ring stays one
abbrev pub PushesKeepRings : Type 0
PushesKeepRings =
    (ring : RingData) (events : List EventRows) (now : ℕ) → IsRing ring → IsNext ring events → IsRing (pushed ring events now)
