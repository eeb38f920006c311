-- How a mirror of a cluster begins anew: from a list that isn't behind its own end.
use Rattle.std.specs.Prelude.{◌≡◌, ◌⊎◌, ℕ, List, [], Option, Some, Result, Ok, Err}
use Rattle.edge_io.specs.Sent.{Sent}
use Rattle.rev_log.specs.Changes.{RevisionData}
use Rattle.rev_log.specs.Logs.{end_of, grown}
use Rattle.rev_log.specs.States.{IsStateAt}
use Rattle.kube_meta.specs.Rows.{RowData}
use Rattle.mirror_law.specs.Mirrors.{opened_log}
use Rattle.mirror_log.specs.MirrorLogs.{MirrorLogData}
use Rattle.mirror_log.specs.Rebasing.{Rebases, IsDifferentAt, IsNowhereDifferent, IsStoreRefusal}
use Rattle.mirror_log.specs.declared.refusal.RebaseNo.{RebaseNo}
use Rattle.mirror_log.specs.declared.refusal.RebaseNo.TheVariants as rebase
use Rattle.cluster_link.specs.Lists.{ListData, IsClusterList, HasList, AnswersList}
use Rattle.cluster_link.specs.Mirroring.{ClusterData, MirrorsList, mirror_log, unread}
use Rattle.cluster_link.specs.Refusals.{anew_refusal}
use Rattle.cluster_link.specs.declared.heard.Heard.TheVariants.{Ended}
use Rattle.cluster_link.specs.declared.refusal.ClusterNo.{ClusterNo}
use Rattle.cluster_link.specs.declared.refusal.ClusterNo.TheVariants.{Memory, OtherValue, OtherLog}

-- Its log grew up to the list's revision, where it has the list's rows, and mirrors the cluster's from there; its store
-- serves nothing below; nothing is kept, nothing was read, and no stream was asked for yet.
pub record IsListedAnew (old : ClusterData) (list : ListData) (new : ClusterData) : Type 0 where
  pub selection : new.selection ≡ old.selection
  pub more : List RevisionData
  pub log : new.log ≡ grown old.log more
  pub end : end_of new.log ≡ list.at
  pub state : IsStateAt new.log list.selection.resource list.at list.rows
  pub floor : new.told.floor ≡ list.at
  pub kept : new.kept ≡ []
  pub reading : new.reading ≡ unread
  pub answer : new.answer ≡ Some (Ok (Ended list.at))
  pub mirrors : MirrorsList list new.log

-- its log, what is kept and its reading stay as they were, and the refusal is the answer from now on
pub record IsStill (old : ClusterData) (why : ClusterNo) (new : ClusterData) : Type 0 where
  pub selection : new.selection ≡ old.selection
  pub log : new.log ≡ old.log
  pub kept : new.kept ≡ old.kept
  pub reading : new.reading ≡ old.reading
  pub answer : new.answer ≡ Some (Err why)

-- how it is told that the list isn't of the log: by an old row that isn't the one that stands; without one, where
-- there is none; or by what kept that from being known
abbrev pub TellsOther : MirrorLogData → List RowData → ℕ → ℕ → ClusterNo → MirrorLogData → Type 0
TellsOther m rows to at why new =
    ((key : List ℕ) × (why ≡ OtherValue) × IsDifferentAt m rows key)
    ⊎ (((why ≡ OtherLog) × IsNowhereDifferent m rows)
    ⊎ ((fault : RebaseNo) × (why ≡ anew_refusal to at fault) × IsStoreRefusal m fault new))

-- how a log's refusal to begin anew is told
abbrev pub NamesRefusal : MirrorLogData → List RowData → ℕ → ℕ → RebaseNo → ClusterNo → MirrorLogData → Type 0
NamesRefusal m rows to at rebase.OtherLog why new = TellsOther m rows to at why new
NamesRefusal m rows to at fault why new = why ≡ anew_refusal to at fault

-- why its log, which rests, isn't taken to a list
pub record IsNotRelisted (old : ClusterData) (list : ListData) (why : ClusterNo) (new : ClusterData) : Type 0 where
  pub fault : RebaseNo
  pub between : MirrorLogData
  pub refused : Rebases (mirror_log old) list.rows list.at (Err fault) between
  pub named : NamesRefusal between list.rows (end_of old.log) list.at fault why (mirror_log new)

-- ---- a mirror that begins with a list

-- one of an empty log, whose first revision is 1
pub record IsEmptyFor (list : ListData) (m : ClusterData) : Type 0 where
  pub selection : m.selection ≡ list.selection
  pub log : m.log ≡ opened_log 1 []

-- is taken to the list
pub record IsBegunWith (list : ListData) (m : ClusterData) : Type 0 where
  pub before : ClusterData
  pub empty : IsEmptyFor list before
  pub listed : IsListedAnew before list m

-- or isn't, or there was no memory
abbrev pub IsNotBegun : ListData → ClusterNo → Type 0
IsNotBegun list why =
    (why ≡ Memory) ⊎ ((before : ClusterData) × (after : ClusterData) × IsEmptyFor list before × IsNotRelisted before list why after)

-- ---- a call

-- what it makes of a list of its selection
abbrev pub TakesList : ClusterData → ListData → Result (Unit {0}) ClusterNo → ClusterData → Type 0
TakesList old list (Ok u) new = IsListedAnew old list new
TakesList old list (Err why) new = IsStill old why new × IsNotRelisted old list why new

-- the bytes have a list of its selection, of which it makes this
pub record HasTakenList (old : ClusterData) (taken : List ℕ) (sent : Sent) (result : Result (Unit {0}) ClusterNo) (new : ClusterData) : Type 0 where
  pub list : ListData
  pub lawful : IsClusterList list
  pub has : HasList old.selection taken sent list
  pub takes : TakesList old list result new

-- what one call answers that asked for a list and took these bytes, and what it leaves
abbrev pub Relists : ClusterData → List ℕ → Option (List ℕ) → Sent → Result (Unit {0}) ClusterNo → ClusterData → Type 0
Relists old taken left sent (Ok u) new = HasTakenList old taken sent (Ok u) new
Relists old taken left sent (Err why) new =
    HasTakenList old taken sent (Err why) new
    ⊎ (IsStill old why new × AnswersList old.selection taken left sent (Err why))
