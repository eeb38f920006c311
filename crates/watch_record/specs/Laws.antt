-- That what is written of a log is read.
use Rattle.std.specs.Prelude.{◌≡◌, ℕ, ◌^◌, ◌<◌, ◌≤◌, true, List, map, length, All, Option, IfSome, None}
use Rattle.serde_json.specs.Data.{Data}
use Rattle.kube_meta.specs.Keys.{namespace_of, IsKey}
use Rattle.json_obj.specs.Objects.{refusal, IsObjectOf}
use Rattle.json_obj.specs.Orderly.{IsOrderly}
use Rattle.rev_log.specs.Changes.{ChangeData, RevisionData, IsRevision}
use Rattle.watch_record.specs.Revisions.{recorded_line, text_of_change, tells_revision, IsRecordedRevision}

-- the object of a change, if it has one, is that of a value that was read and that nothing refused at some path
pub record IsStoredFor (change : ChangeData) : Type 0 where
  pub key : IsKey change.key
  pub stored : IfSome change.new (λ obj. (path : Option (List ℕ)) × (d : Data) × IsOrderly d
      × (refusal change.resource (namespace_of change.key) path d ≡ None) × IsObjectOf change.resource (namespace_of change.key) d obj)

-- a revision as a store accepts it, with a change
pub record IsAccepted (revision : RevisionData) : Type 0 where
  pub form : IsRevision revision
  pub some_changes : 0 < length revision.changes
  pub within : revision.rev ≤ 2 ^ 62
  pub stored : All IsStoredFor revision.changes

-- its line, without the line feed, tells the next revision behind the one before it, which is read as itself
abbrev pub LinesAreReadBack : Type 0
LinesAreReadBack =
    (revision : RevisionData) → IsAccepted revision →
    let line : List ℕ = recorded_line (map text_of_change revision.changes) revision.rev in
    (tells_revision revision.rev line ≡ true) × IsRecordedRevision revision.rev line revision
