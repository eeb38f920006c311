-- What the parts of the reader do: for private clauses.
use Rattle.std.specs.Prelude.{◌≡◌, ℕ, ◌+◌, ◌^◌, ◌<◌, ◌≤◌, Bool, true, false, List, ◌++◌, length, map, All, Option, Some, None, IfSome, is_none}
use Rattle.serde_json.specs.Data.{Data}
use Rattle.serde_json.specs.Written.{comma_if}
use Rattle.kube_meta.specs.declared.objects.Obj.{Obj}
use Rattle.kube_meta.specs.declared.resources.Resource.{Resource}
use Rattle.json_obj.specs.Objects.{refusal, IsObjectOf}
use Rattle.json_obj.specs.Replies.{items_text}
use Rattle.rev_log.specs.Changes.{ChangeData, RevisionData, HasItsKey, IsRevision}
use Rattle.rev_front.specs.Passes.{FitFrom}
use Rattle.rev_log.specs.Logs.{Fits}
use Rattle.watch_record.specs.Revisions.{Told, is_stored, text_of_told, is_line_of, bad_place, IsNewOf, IsChangeOf, AreChangesOf, AreRevisionsOf}

-- the object that a text holds, if it may be stored in the namespace under the name
abbrev pub KeepsObject : Resource → List ℕ → List ℕ → Data → Option Obj → Type 0
KeepsObject resource ns name d None = is_none (refusal resource ns (Some name) d) ≡ false
KeepsObject resource ns name d (Some obj) = (refusal resource ns (Some name) d ≡ None) × IsObjectOf resource ns d obj

-- what stands at a key by a value
pub record KeepsNew (resource : Resource) (key : List ℕ) (d : Data) (new : Option Obj) : Type 0 where
  pub stored : is_stored resource key d ≡ true
  pub new_is : IsNewOf resource key d new
  pub keyed : IfSome new (λ obj. obj.key ≡ key)

-- what is told is a change, and its text is written
pub record ReadsChange (rev : ℕ) (later : Bool) (told : Option Told) (change : ChangeData) (old new : List ℕ) : Type 0 where
  pub value : Told
  pub told_is : told ≡ Some value
  pub change_is : IsChangeOf rev value change
  pub keyed : HasItsKey change
  pub writes : new ≡ old ++ (comma_if later ++ text_of_told value)

pub record ReadsChanges (rev : ℕ) (told : Option (List Told)) (changes : List ChangeData) (old new : List ℕ) : Type 0 where
  pub values : List Told
  pub told_is : told ≡ Some values
  pub changes_are : AreChangesOf rev values changes
  pub keyed : All HasItsKey changes
  pub writes : new ≡ old ++ items_text (map text_of_told values)

-- a revision of the log, with a change
pub record IsKept (rev : ℕ) (revision : RevisionData) : Type 0 where
  pub form : IsRevision revision
  pub some_changes : 0 < length revision.changes
  pub within : rev ≤ 2 ^ 62

pub record ReadsRevision (rev : ℕ) (line : List ℕ) (told : Option (List Told)) (revision : RevisionData) : Type 0 where
  pub values : List Told
  pub told_is : told ≡ Some values
  pub line_is : is_line_of rev line values ≡ true
  pub rev_is : revision.rev ≡ rev
  pub changes_are : AreChangesOf rev values revision.changes
  pub kept : IsKept rev revision

-- a log as a record keeps it
pub record KeepsLog (first : ℕ) (log : List RevisionData) : Type 0 where
  pub fitting : FitFrom Fits first log
  pub some_changes : All (λ revision. 0 < length revision.changes) log
  pub ends : first + length log ≤ 2 ^ 62

-- the log that lines tell, the first of them with the revision behind `first`
pub record ReadsLog (first : ℕ) (lines : List (List ℕ)) (log : List RevisionData) : Type 0 where
  pub good : bad_place (first + 1) lines ≡ None
  pub log_is : AreRevisionsOf (first + 1) lines log
