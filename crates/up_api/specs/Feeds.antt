-- What feeds and histories give of a log: the revisions that changed one resource, with these changes alone.
use Rattle.std.specs.Prelude.{◌≡◌, ℕ, ◌<◌, ◌≤◌, ◌⊎◌, List, [], ◌∷◌, ◌++◌, length, filter, filter_map, sum_by, Option, Some, None}
use Rattle.kube_meta.specs.Rows.{RowData}
use Rattle.kube_meta.specs.Resources.{same_resource}
use Rattle.kube_meta.specs.declared.resources.Resource.{Resource}
use Rattle.rev_log.specs.Changes.{ChangeData, RevisionData}
use Rattle.rev_log.specs.Logs.{Log, end_of, between}
use Rattle.rev_log.specs.States.{IsStateAt}
use Rattle.up_api.specs.declared.feeds.Feed.{Feed}

-- what a poll gives
pub record PolledData : Type 0 where
  pub from : ℕ
  pub upto : ℕ
  pub revisions : List RevisionData

-- what a history gives
pub record HistoryData : Type 0 where
  pub floor : ℕ
  pub rows : List RowData
  pub revisions : List RevisionData
  pub upto : ℕ

-- the changes of one resource
abbrev pub changes_of : Resource → List ChangeData → List ChangeData
changes_of resource changes = filter (λ change. same_resource change.resource resource) changes

-- the revision with these changes, if there are any
abbrev pub unless_empty : ℕ → List ChangeData → Option RevisionData
unless_empty rev [] = None
unless_empty rev (change ∷ more) = Some (record { rev = rev; changes = change ∷ more })

-- the part of a revision that is of one resource, if there is any
abbrev pub part_of : Resource → RevisionData → Option RevisionData
part_of resource revision = unless_empty revision.rev (changes_of resource revision.changes)

-- the parts of the revisions above one number and up to another
abbrev pub parts_between : Log → Resource → ℕ → ℕ → List RevisionData
parts_between log resource from to = filter_map (part_of resource) (between log from to)

-- how many changes these have
abbrev pub changes_in : List RevisionData → ℕ
changes_in revisions = sum_by (λ revision. length revision.changes) revisions

-- the last of these revisions is the one that brings them to `max` changes, and `upto` is its number
pub record Reaches (max upto : ℕ) (revisions : List RevisionData) : Type 0 where
  pub before : List RevisionData
  pub last : RevisionData
  pub are : revisions ≡ before ++ last ∷ []
  pub number : last.rev ≡ upto
  pub fewer : changes_in before < max
  pub enough : max ≤ changes_in revisions

-- what a poll behind `from` gives: whole revisions, until they hold at least `max` changes or none is left
pub record IsPoll (log : Log) (resource : Resource) (from max : ℕ) (polled : PolledData) : Type 0 where
  pub begins : polled.from ≡ from
  pub onward : from ≤ polled.upto
  pub within : polled.upto ≤ end_of log
  pub parts : polled.revisions ≡ parts_between log resource from polled.upto
  pub stops : ((polled.upto ≡ end_of log) × (changes_in polled.revisions < max)) ⊎ Reaches max polled.upto polled.revisions

-- what a cache that stands for the log up to `from` is fed
pub record IsFed (log : Log) (resource : Resource) (polled : PolledData) : Type 0 where
  pub onward : polled.from ≤ polled.upto
  pub within : polled.upto ≤ end_of log
  pub parts : polled.revisions ≡ parts_between log resource polled.from polled.upto

-- what a history of a resource is of a log whose floor is at least that of the history
pub record IsHistory (log : Log) (log_floor : ℕ) (resource : Resource) (history : HistoryData) : Type 0 where
  pub begun : log.first ≤ history.floor
  pub kept : history.floor ≤ log_floor
  pub ordered : history.floor ≤ history.upto
  pub within : history.upto ≤ end_of log
  pub state : IsStateAt log resource history.floor history.rows
  pub parts : history.revisions ≡ parts_between log resource history.floor history.upto

abbrev pub feed_at : Resource → ℕ → ℕ → Feed
feed_at resource upto gen = record { resource = resource; upto = upto; gen_ = gen }

-- a poll from a to b and one from b to c are what came from a to c
abbrev pub PollsJoin : Type 0
PollsJoin =
    (log : Log) (resource : Resource) (a m n : ℕ) (first second : PolledData) →
    IsPoll log resource a m first → IsPoll log resource first.upto n second →
    first.revisions ++ second.revisions ≡ parts_between log resource a second.upto
