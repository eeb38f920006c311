-- A ring as plain data: the last events of a resource, each with the time at which it was pushed.
use Rattle.std.specs.Prelude.{◌≡◌, ℕ, ◌+◌, ◌-◌, ◌*◌, ◌/◌, ◌<◌, ◌≤◌, ◌==◌, min, max, Bool, false, not, ◌&&◌, nat_lt, nat_le, if◌then◌else◌, List, [], ◌∷◌, ◌++◌, length, take, drop, map, filter, count_by, All, slice_get, AllPairs}
use Rattle.std.specs.Option.{option_map_or}
use Rattle.std.specs.Cmp.Lexicographic.{slice_cmp}
use Rattle.std.specs.List.{slice_index_or}
use Rattle.std.specs.List.Sorted.{IsStrictlySortedBy}
use Rattle.std.specs.declared.cmp.Ordering.{Ordering}
use Rattle.std.specs.Ordering.{nat_cmp, ordering_then}
use Rattle.event_ring.specs.Events.{EventRows}
use Rattle.event_ring.specs.declared.stamped.Stamped.{Stamped}

-- The capacity lies between window and window_max, and follows the age of the events, of which those younger
-- than fresh_ms are fresh. What was dropped is up to the floor. The block has room for so many events.
pub record RingData : Type 0 where
  pub window : ℕ
  pub window_max : ℕ
  pub fresh_ms : ℕ
  pub capacity : ℕ
  pub floor : ℕ
  pub held : List Stamped
  pub room : ℕ

-- ---- what is lent

abbrev pub events_of : List Stamped → List EventRows
events_of held = map (λ x. x.event) held

-- of some events, those above a revision
abbrev pub later : ℕ → List EventRows → List EventRows
later at events = filter (λ event. nat_lt at event.rev) events

-- the ring's events above a revision
abbrev pub since : RingData → ℕ → List EventRows
since ring at = later at (events_of ring.held)

-- ---- a push

-- how many of the events have a revision above another
abbrev pub count_above : ℕ → List Stamped → ℕ
count_above rev held = count_by (λ x. nat_lt rev x.event.rev) held

-- an event stays while fewer than `many` events have a revision above its own
abbrev pub stays : ℕ → List Stamped → Stamped → Bool
stays many held x = nat_lt (count_above x.event.rev held) many

-- those that stay, and those that don't
abbrev pub kept : ℕ → List Stamped → List Stamped
kept many held = filter (stays many held) held

abbrev pub dropped : ℕ → List Stamped → List Stamped
dropped many held = filter (λ x. not (stays many held x)) held

-- the revision of the last event, or the floor where there is none
abbrev pub last_revision : ℕ → List Stamped → ℕ
last_revision floor [] = floor
last_revision floor (x ∷ more) = last_revision x.event.rev more

abbrev pub stamped : ℕ → EventRows → Stamped
stamped now event = record { event = event; stamp = now }

-- the ring's events and new ones, which are stamped with a time
abbrev pub with_events : RingData → List EventRows → ℕ → List Stamped
with_events ring events now = ring.held ++ map (stamped now) events

-- the ring after a push: of its events and the new ones it holds those that stay, and its floor is the revision
-- of the last one that doesn't, or as before
abbrev pub pushed : RingData → List EventRows → ℕ → RingData
pushed ring events now = record ring {
  held = kept ring.capacity (with_events ring events now);
  floor = last_revision ring.floor (dropped ring.capacity (with_events ring events now));
}

-- what may be pushed: 1 to 64 events of one revision above the floor and above those held, their keys rising
pub record IsNext (ring : RingData) (events : List EventRows) : Type 0 where
  pub rev : ℕ
  pub some : 0 < length events
  pub few : length events ≤ 64
  pub numbered : All (λ event. event.rev ≡ rev) events
  pub rising : IsStrictlySortedBy (slice_cmp nat_cmp) (map (λ event. event.key) events)
  pub above_floor : ring.floor < rev
  pub above_held : All (λ x. x.event.rev < rev) ring.held

-- ---- the fit of the capacity to the age of the events

-- the event at a place, if there is one, has an age of at least fresh_ms; no event is younger than 0
abbrev pub is_aged : RingData → ℕ → ℕ → Bool
is_aged ring now place = option_map_or (λ x. nat_le ring.fresh_ms (now - x.stamp)) (slice_get ring.held place) false

-- A ring that holds fewer events than its capacity keeps it. Else, where the oldest event is fresh, it doubles, up
-- to window_max. Else, where the first of the last half a capacity of events is aged, it halves, down to window.
abbrev pub fitted_capacity : RingData → ℕ → ℕ
fitted_capacity ring now =
    if nat_lt (length ring.held) ring.capacity then ring.capacity
    else (if nat_lt ring.capacity ring.window_max && not (is_aged ring now 0) then min (2 * ring.capacity) ring.window_max
    else (if nat_lt ring.window ring.capacity && is_aged ring now (length ring.held - ring.capacity / 2) then max (ring.capacity / 2) ring.window
    else ring.capacity))

-- the events of a capacity, and those of one revision but for one
abbrev pub room_for : ℕ → ℕ
room_for capacity = capacity + 63

-- the ring of that capacity; its block grows where it hasn't the room
abbrev pub fitted : RingData → ℕ → RingData
fitted ring now = record ring { capacity = fitted_capacity ring now; room = max ring.room (room_for (fitted_capacity ring now)) }

-- ---- what a ring keeps

-- the order of events: by revision, and then by key
abbrev pub event_cmp : EventRows → EventRows → Ordering
event_cmp a b = ordering_then (nat_cmp a.rev b.rev) (slice_cmp nat_cmp a.key b.key)

-- how many of the events are of one revision
abbrev pub count_of : ℕ → List Stamped → ℕ
count_of rev held = count_by (λ x. x.event.rev == rev) held

-- what each ring is
pub record IsRing (ring : RingData) : Type 0 where
  pub some : 1 ≤ ring.window
  pub least : ring.window ≤ ring.capacity
  pub most : ring.capacity ≤ ring.window_max
  pub bounded : ring.window_max ≤ 102400
  pub few : length ring.held ≤ ring.window_max + 63
  pub roomy : room_for ring.capacity ≤ ring.room
  pub sized : ring.room ≤ room_for ring.window_max
  pub rising : IsStrictlySortedBy event_cmp (events_of ring.held)
  pub above : All (λ x. ring.floor < x.event.rev) ring.held
  pub whole : (rev : ℕ) → count_of rev ring.held ≤ 64

-- ---- a search

-- the events before a place are of revisions up to a number, and those from there on of greater ones
pub record IsPlaceAbove (held : List Stamped) (at place : ℕ) : Type 0 where
  pub within : place ≤ length held
  pub below : (i : ℕ) (d : Stamped) → i < place → (slice_index_or held i d).event.rev ≤ at
  pub above : (i : ℕ) (d : Stamped) → place ≤ i → i < length held → at < (slice_index_or held i d).event.rev

-- revisions don't fall
abbrev pub NotFalling : List Stamped → Type 0
NotFalling held = AllPairs (λ x y. x.event.rev ≤ y.event.rev) held

-- the first events of a ring, before a place, are those that a push drops
pub record AreDropped (ring : RingData) (events : List EventRows) (place : ℕ) : Type 0 where
  pub within : place ≤ length ring.held
  pub dropped_are : (now : ℕ) → dropped ring.capacity (with_events ring events now) ≡ take place ring.held
  pub kept_are : (now : ℕ) → kept ring.capacity (with_events ring events now) ≡ drop place ring.held ++ map (stamped now) events
