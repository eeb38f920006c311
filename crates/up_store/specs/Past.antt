-- What states and histories are made of, once a store is let go.
use Rattle.std.specs.Prelude.{◌≡◌, ℕ, ◌≤◌, List, fold}
use Rattle.kube_meta.specs.Rows.{AreRising, row_with}
use Rattle.kube_meta.specs.declared.resources.Resource.{Resource}
use Rattle.rev_log.specs.Logs.{Log, end_of}
use Rattle.rev_log.specs.States.{row_next, row_at}
use Rattle.up_store.specs.Kept.{changed}
use Rattle.up_store.specs.declared.past.OldHistory.{OldHistory}
use Rattle.up_store.specs.declared.past.OldState.{OldState}

-- where its revisions are made upon its rows, the log's rows stand at a revision
pub record IsOldState (log : Log) (resource : Resource) (at : ℕ) (old : OldState) : Type 0 where
  pub resource_is : old.resource ≡ resource
  pub rising : AreRising old.rows
  pub leaves : (key : List ℕ) → fold (row_next resource key) (row_with old.rows key) old.revisions.items ≡ row_at log resource at key

-- what a history of a resource is made of, of a log whose floor is at least that of the history: the state at its floor,
-- and the revisions with changes after it
pub record IsOldHistory (log : Log) (log_floor : ℕ) (resource : Resource) (old : OldHistory) : Type 0 where
  pub begun : log.first ≤ old.floor
  pub kept : old.floor ≤ log_floor
  pub ordered : old.floor ≤ old.upto
  pub within : old.upto ≤ end_of log
  pub state : IsOldState log resource old.floor old.state
  pub revisions : old.revisions.items ≡ changed log old.floor old.upto
