-- Laws of events.
use Rattle.std.specs.Prelude.{◌≡◌, ℕ, ◌≤◌, nat_lt, List, length, filter, find, All, Option, bytes_eq}
use Rattle.std.specs.Option.{option_map_or}
use Rattle.std.specs.List.Sorted.{IsStrictlySortedBy}
use Rattle.kube_meta.specs.declared.resources.Resource.{Resource}
use Rattle.kube_meta.specs.Rows.{RowData}
use Rattle.rev_log.specs.Logs.{Log, AreNumbered, IsLog}
use Rattle.rev_log.specs.States.{row_at}
use Rattle.select_all.specs.Streams.{EventData, IsEventWithin, event_cmp, events}
use Rattle.select_all.specs.Floors.{changes_between}

-- there is an event for each change
abbrev pub EventsAreCounted : Type 0
EventsAreCounted =
    (log : Log) (resource : Resource) (a b : ℕ) →
    length (events log resource a b) ≡ changes_between log resource a b

-- of the events from a on, those above b are the events from b on
abbrev pub EventsAbove : Type 0
EventsAbove =
    (log : Log) (resource : Resource) (a b c : ℕ) → AreNumbered log.first log.revisions → a ≤ b →
    filter (λ event. nat_lt b event.rev) (events log resource a c) ≡ events log resource b c

-- the row at a key before events, where this row stands after them: what the first event of that key says, if there is one
abbrev pub row_undone : List EventData → List ℕ → Option RowData → Option RowData
row_undone events key row = option_map_or (λ event. event.before) (find (λ event. bytes_eq event.key key) events) row

-- what stood at a is found from what stands at b and from the events between
abbrev pub EventsUndo : Type 0
EventsUndo =
    (log : Log) (resource : Resource) (a b : ℕ) (key : List ℕ) → a ≤ b →
    row_at log resource a key ≡ row_undone (events log resource a b) key (row_at log resource b key)

-- events stand in order, above a and up to b
abbrev pub EventsAreInOrder : Type 0
EventsAreInOrder =
    (log : Log) (resource : Resource) (a b : ℕ) → IsLog log →
    IsStrictlySortedBy event_cmp (events log resource a b) × All (IsEventWithin a b) (events log resource a b)
