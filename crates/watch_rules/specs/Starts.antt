-- Where a watch may start.
use Rattle.std.specs.Prelude.{Bool, true, false}
use Rattle.select_all.specs.declared.selection.Meaning.{Meaning}
use Rattle.select_all.specs.declared.selection.Meaning.TheVariants.{MostRecent, Any, NotOlder, Exact}
use Rattle.watch_rules.specs.declared.starts.Start.{Start}
use Rattle.watch_rules.specs.declared.starts.Start.TheVariants.{FromState, FromHere, FromRevision}

-- one revision alone is a meaning for lists, and for no watch
abbrev pub is_for_watches : Meaning → Bool
is_for_watches MostRecent = true
is_for_watches Any = true
is_for_watches (NotOlder revision) = true
is_for_watches (Exact revision) = false

abbrev pub is_never_exact : Start → Bool
is_never_exact (FromState meaning) = is_for_watches meaning
is_never_exact (FromHere meaning) = is_for_watches meaning
is_never_exact (FromRevision revision) = true

-- with an event for each object of a state
abbrev pub is_from_state : Start → Bool
is_from_state (FromState meaning) = true
is_from_state (FromHere meaning) = false
is_from_state (FromRevision revision) = false
