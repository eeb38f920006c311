-- Changes and revisions as plain data.
use Rattle.std.specs.Prelude.{◌≡◌, ℕ, ◌≤◌, Bool, false, ◌&&◌, List, length, All, AllPairs, Option, IfSome, bytes_eq}
use Rattle.std.specs.Cmp.Lexicographic.{slice_cmp}
use Rattle.std.specs.List.Sorted.{IsStrictlySortedBy}
use Rattle.std.specs.declared.cmp.Ordering.{Ordering}
use Rattle.std.specs.Ordering.{nat_cmp, ordering_then}
use Rattle.kube_meta.specs.declared.objects.Obj.{Obj}
use Rattle.kube_meta.specs.declared.resources.Resource.{Resource}
use Rattle.kube_meta.specs.Resources.{place_of, same_resource}

-- at a revision, the object with this key is written, or is removed where there is no new one
pub record ChangeData : Type 0 where
  pub rev : ℕ
  pub resource : Resource
  pub key : List ℕ
  pub new : Option Obj

-- what was accepted together, under one number
pub record RevisionData : Type 0 where
  pub rev : ℕ
  pub changes : List ChangeData

-- a written object has the key of its change
abbrev pub HasItsKey : ChangeData → Type 0
HasItsKey change = IfSome change.new (λ obj. obj.key ≡ change.key)

-- the order of changes: by resource, and then by key
abbrev pub change_cmp : ChangeData → ChangeData → Ordering
change_cmp a b = ordering_then (nat_cmp (place_of a.resource) (place_of b.resource)) (slice_cmp nat_cmp a.key b.key)

-- two changes of one object
abbrev pub same_object : ChangeData → ChangeData → Bool
same_object a b = same_resource a.resource b.resource && bytes_eq a.key b.key

-- no object comes twice
abbrev pub AreOfDistinctObjects : List ChangeData → Type 0
AreOfDistinctObjects changes = AllPairs (λ a b. same_object a b ≡ false) changes

-- what a revision is: at most 64 changes of distinct objects in order, each with the revision's number
pub record IsRevision (revision : RevisionData) : Type 0 where
  pub few : length revision.changes ≤ 64
  pub rising : IsStrictlySortedBy change_cmp revision.changes
  pub numbered : All (λ change. change.rev ≡ revision.rev) revision.changes
  pub keyed : All HasItsKey revision.changes
