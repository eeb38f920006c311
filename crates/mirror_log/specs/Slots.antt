-- The changes of revisions that aren't made yet, by their numbers.
use Rattle.std.specs.Prelude.{◌≡◌, ℕ, ◌<◌, ◌≤◌, nat_eq, List, [], ◌∷◌, ◌++◌, length, map, filter, All, Option, Some, None, IsSome, if◌then◌else◌}
use Rattle.std.specs.List.Sorted.{IsPermutation}
use Rattle.std.specs.Map.{lookup}
use Rattle.std.specs.Ordering.{is_eq, nat_cmp}
use Rattle.kube_meta.specs.declared.resources.Resource.{Resource}
use Rattle.kube_meta.specs.Rows.{RowData, key_of}
use Rattle.rev_log.specs.Changes.{ChangeData, RevisionData, IsRevision}
use Rattle.mirror_log.specs.Bridges.{younger}

-- the changes of one revision
abbrev pub of_rev : ℕ → List ChangeData → List ChangeData
of_rev rev changes = filter (λ change. nat_eq change.rev rev) changes

-- changes by the numbers of their revisions
abbrev pub SlotsData : Type 0
SlotsData = List (ℕ × List ChangeData)

-- the slot of a revision, if there is one
abbrev pub slot_of : SlotsData → ℕ → Option (List ChangeData)
slot_of slots rev = lookup (λ other. is_eq (nat_cmp rev other)) slots

-- the changes in it
abbrev pub changes_in : Option (List ChangeData) → List ChangeData
changes_in None = []
changes_in (Some changes) = changes

abbrev pub slot_at : SlotsData → ℕ → List ChangeData
slot_at slots rev = changes_in (slot_of slots rev)

-- each revision has those of the changes that are its own, and a slot only where it has some
pub record Hold (slots : SlotsData) (changes : List ChangeData) : Type 0 where
  pub has : (rev : ℕ) → slot_at slots rev ≡ of_rev rev changes
  pub some : (rev : ℕ) → IsSome (slot_of slots rev) → 0 < length (slot_at slots rev)

-- the change goes last among those of its revision
abbrev pub Adds : SlotsData → ChangeData → SlotsData → Type 0
Adds old change new =
    (rev : ℕ) → slot_of new rev ≡ (if nat_eq change.rev rev then Some (slot_at old change.rev ++ change ∷ []) else slot_of old rev)

-- a row is put
abbrev pub put_of : Resource → RowData → ChangeData
put_of resource row = record { rev = row.rev; resource = resource; key = key_of row; new = Some row.obj }

-- the younger rows are put
abbrev pub puts : Resource → ℕ → List RowData → List ChangeData
puts resource from rows = map (put_of resource) (younger from rows)

-- one is removed at a revision
abbrev pub removal_of : Resource → RowData → ℕ → ChangeData
removal_of resource row rev = record { rev = rev; resource = resource; key = key_of row; new = None }

-- a removal at a revision behind the one and up to the other
pub record IsRemoval (resource : Resource) (from to : ℕ) (change : ChangeData) : Type 0 where
  pub alone : change.resource ≡ resource
  pub none : change.new ≡ None
  pub above : from < change.rev
  pub within : change.rev ≤ to

-- beside the changes so far, the slots have removals of these rows
pub record Remove (resource : Resource) (from to : ℕ) (changes : List ChangeData) (rows : List RowData) (slots : SlotsData) : Type 0 where
  pub removed : List ChangeData
  pub hold : Hold slots (changes ++ removed)
  pub keys : map (λ change. change.key) removed ≡ map key_of rows
  pub removals : All (IsRemoval resource from to) removed

-- the revision is that of a slot
abbrev pub IsOfSlot : (ℕ × List ChangeData) → RevisionData → Type 0
IsOfSlot slot revision = (revision.rev ≡ slot.0) × IsRevision revision × IsPermutation slot.1 revision.changes

-- each revision is that of its slot
abbrev pub AreMadeOf : SlotsData → List RevisionData → Type 0
AreMadeOf [] [] = Unit {0}
AreMadeOf [] (revision ∷ revisions) = ⊥
AreMadeOf (slot ∷ slots) [] = ⊥
AreMadeOf (slot ∷ slots) (revision ∷ revisions) = IsOfSlot slot revision × AreMadeOf slots revisions
