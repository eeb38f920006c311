-- What becomes of a mirror's log where it is to begin anew.
use Rattle.std.specs.Prelude.{◌≡◌, ℕ, ◌<◌, ◌⊎◌, List, [], Option, Some, None, Result, Ok, Err}
use Rattle.kube_meta.specs.Rows.{RowData, key_of}
use Rattle.rev_log.specs.Changes.{RevisionData}
use Rattle.rev_log.specs.Logs.{end_of, grown}
use Rattle.rev_log.specs.States.{IsStateAt}
use Rattle.up_api.specs.declared.refusals.UpNo.{UpNo}
use Rattle.up_api.specs.declared.refusals.UpNo.TheVariants as up
use Rattle.up_store.specs.Hearing.{filled}
use Rattle.up_store.specs.declared.hearing.HearNo.{HearNo}
use Rattle.up_store.specs.declared.hearing.HearNo.TheVariants as hear
use Rattle.mirror_log.specs.declared.bridge_refusal.BridgeNo.{BridgeNo}
use Rattle.mirror_log.specs.declared.bridge_refusal.BridgeNo.TheVariants as between
use Rattle.mirror_log.specs.Bridges.{AreKept, IsFirstOther, MayBeOfOneLog}
use Rattle.mirror_log.specs.declared.refusal.RebaseNo.{RebaseNo}
use Rattle.mirror_log.specs.declared.refusal.RebaseNo.TheVariants.{Behind, OtherLog, Passed, Memory}
use Rattle.mirror_log.specs.MirrorLogs.{MirrorLogData, Rests, seen_to}

-- It began anew from rows that stand at a later revision: the log, grown up to there, has them, what is below is no longer
-- served, and nothing is kept.
pub record IsRebased (old : MirrorLogData) (rows : List RowData) (base : ℕ) (new : MirrorLogData) : Type 0 where
  pub selection : new.selection ≡ old.selection
  pub most_gap : new.most_gap ≡ old.most_gap
  pub kept : new.kept ≡ []
  pub more : List RevisionData
  pub log : new.log ≡ grown old.log more
  pub end : end_of new.log ≡ base
  pub state : IsStateAt new.log old.selection.resource base rows
  pub floor : new.told.floor ≡ base

-- the objects at the log's end, and these rows, can't be of one log
pub record IsOfOtherLog (old : MirrorLogData) (rows : List RowData) (base : ℕ) : Type 0 where
  pub state : List RowData
  pub is_state : IsStateAt old.log old.selection.resource (end_of old.log) state
  pub other : ¬ MayBeOfOneLog (end_of old.log) state base rows

-- the first of the rows that was written up to the log's end and isn't the one that stands there has this key
pub record IsDifferentAt (old : MirrorLogData) (rows : List RowData) (key : List ℕ) : Type 0 where
  pub state : List RowData
  pub is_state : IsStateAt old.log old.selection.resource (end_of old.log) state
  pub row : RowData
  pub first : IsFirstOther (end_of old.log) state rows row
  pub key_is : key ≡ key_of row

-- none is: all that were written up to there stand there, the very same
pub record IsNowhereDifferent (old : MirrorLogData) (rows : List RowData) : Type 0 where
  pub state : List RowData
  pub is_state : IsStateAt old.log old.selection.resource (end_of old.log) state
  pub same : AreKept (end_of old.log) state rows

abbrev pub Differs : MirrorLogData → List RowData → Option (List ℕ) → Type 0
Differs old rows (Some key) = IsDifferentAt old rows key
Differs old rows None = IsNowhereDifferent old rows

-- the store has passed the log's end: it has reached this revision, or its floor is there, as the pass knows now
abbrev pub IsPassed : MirrorLogData → ℕ → MirrorLogData → Type 0
IsPassed old at new = (end_of old.log < at) × ((at ≡ seen_to new) ⊎ (at ≡ new.told.floor))

-- what is answered, and what becomes of the log: where it doesn't begin anew, it stays
abbrev pub Rebases : MirrorLogData → List RowData → ℕ → Result ℕ RebaseNo → MirrorLogData → Type 0
Rebases old rows base (Ok to) new = IsRebased old rows base new × (to ≡ base)
Rebases old rows base (Err (Behind to)) new = Rests old new × (to ≡ end_of old.log) × (base < to)
Rebases old rows base (Err OtherLog) new = Rests old new × IsOfOtherLog old rows base
Rebases old rows base (Err (Passed at)) new = Rests old new × IsPassed old at new
Rebases old rows base (Err Memory) new = Rests old new

-- ---- its steps

-- why the store refused one of them
abbrev pub IsStoreRefusal : MirrorLogData → RebaseNo → MirrorLogData → Type 0
IsStoreRefusal old (Behind to) new = ⊥
IsStoreRefusal old OtherLog new = ⊥
IsStoreRefusal old (Passed at) new = IsPassed old at new
IsStoreRefusal old Memory new = Unit {0}

-- Revisions were added, and those at which nothing changes, up to a revision that is the floor now, and nothing is kept.
pub record HasAdded (old : MirrorLogData) (revisions : List RevisionData) (base : ℕ) (new : MirrorLogData) : Type 0 where
  pub selection : new.selection ≡ old.selection
  pub most_gap : new.most_gap ≡ old.most_gap
  pub kept : new.kept ≡ []
  pub log : new.log ≡ grown old.log (filled (end_of old.log) revisions base)
  pub end : end_of new.log ≡ base
  pub floor : new.told.floor ≡ base

abbrev pub CommitsAll : MirrorLogData → List RevisionData → ℕ → Result ℕ RebaseNo → MirrorLogData → Type 0
CommitsAll old revisions base (Ok to) new = HasAdded old revisions base new × (to ≡ base)
CommitsAll old revisions base (Err why) new = Rests old new × IsStoreRefusal old why new

-- ---- refusals

-- the store's, of revisions
abbrev pub add_refusal : HearNo → RebaseNo
add_refusal (hear.Passed at) = Passed at
add_refusal hear.Memory = Memory

-- and of a state
abbrev pub read_refusal : UpNo → RebaseNo
read_refusal (up.Compacted asked floor) = Passed floor
read_refusal (up.Future asked current) = Passed current
read_refusal (up.Cut opened now) = Passed now
read_refusal up.Memory = Memory

-- there are no revisions between
abbrev pub bridge_refusal : BridgeNo → RebaseNo
bridge_refusal between.OtherLog = OtherLog
bridge_refusal between.Memory = Memory
