-- The part of a revision that is of one resource.
use Rattle.std.proofs.Common.{◌≡◌, ℕ, Bool, List, [], ◌∷◌, length, filter, Some, arith, ◌==◌, false, refl}
use Rattle.std.proofs.lemmas.List.Kept.{IsStrictlySortedBy-filter}
use Rattle.std.proofs.lemmas.List.Elements.{All-filter}
use Rattle.std.proofs.lemmas.List.Sums.{length-filter, count_by-le-length}
use Rattle.rev_log.specs.Changes.{ChangeData, RevisionData, HasItsKey, change_cmp, IsRevision}
use Rattle.up_api.specs.Feeds.{unless_empty}

-- some changes of a revision, in their order, are a revision
pub IsRevision-filter : (p : ChangeData → Bool) (revision : RevisionData) → IsRevision revision → IsRevision (record { rev = revision.rev; changes = filter p revision.changes })
IsRevision-filter p revision is = record {
  few = omega (arith, is.few, length-filter p revision.changes, count_by-le-length p revision.changes);
  rising = IsStrictlySortedBy-filter change_cmp p revision.changes is.rising;
  numbered = All-filter p (λ change. change.rev ≡ revision.rev) revision.changes is.numbered;
  keyed = All-filter p HasItsKey revision.changes is.keyed;
}

-- changes that there are
pub some_changes : (rev : ℕ) (changes : List ChangeData) → (length changes == 0) ≡ false → Some (record { rev = rev; changes = changes }) ≡ unless_empty rev changes
some_changes rev [] none = cc
some_changes rev (change ∷ more) some = refl
