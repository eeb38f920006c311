-- What two passes of one log know of each other.
use Rattle.std.specs.Prelude.{◌≡◌, ◌≤◌}
use mathlib.Core.List.{IsPrefix}
use Rattle.rev_front.specs.Passes.{Pass}
use Rattle.rev_log.specs.Changes.{RevisionData}

-- q knows all that o knows of their log
pub record KnowsAllOf (o q : Pass RevisionData) : Type 0 where
  pub log_is : q.first ≡ o.first
  pub seen_on : IsPrefix o.seen q.seen
  pub shown_on : o.shown ≤ q.shown
  pub floor_on : o.floor ≤ q.floor
  pub gen_on : o.gen ≤ q.gen
