-- The last change of an object decides what stands at its key.
use Rattle.std.proofs.Common.{◌≡◌, ℕ, zero, suc, ◌-◌, Bool, true, false, ◌&&◌, cond, List, [], ◌∷◌, filter, length, fold, leb, ◌<◌, Option, All, refl, sym, ap, ◌∙◌, inl, inr, arith}
use Rattle.std.specs.List.{flat_map, slice_get}
use Rattle.std.specs.Option.{option_map_or}
use Rattle.std.proofs.lemmas.Bool.{cases_Bool}
use Rattle.std.proofs.lemmas.List.Elements.{All-head, All-tail}
use Rattle.std.proofs.lemmas.List.Sums.{fold-append}
use Rattle.kube_meta.specs.declared.resources.Resource.{Resource}
use Rattle.kube_meta.specs.Rows.{RowData}
use Rattle.rev_log.specs.Changes.{ChangeData, RevisionData, IsRevision}
use Rattle.rev_log.specs.Laws.{last_of, row_of, changes_in, LastChangesDecide}
use Rattle.rev_log.specs.Rows.{row_next_upto}
use Rattle.rev_log.specs.States.{is_change_of, row_after, row_in_base}
use Rattle.rev_log.proofs.StateLemmas.{fold_upto}

-- ---- the last of some changes

last_of_more : (change : ChangeData) (more : List ChangeData) (row : Option RowData) → option_map_or row_of (last_of (change ∷ more)) row ≡ option_map_or row_of (last_of more) (row_of change)
last_of_more change [] row = refl
last_of_more change (next ∷ more) row =
    let here : length (change ∷ next ∷ more) - 1 ≡ suc (length more) = omega arith in
    let there : length (next ∷ more) - 1 ≡ length more = omega arith in
    let found : (n : ℕ) (last : Option ChangeData) → slice_get (next ∷ more) n ≡ last → option_map_or row_of last row ≡ option_map_or row_of (slice_get (next ∷ more) n) row = λ n last e. ap (λ o. option_map_or row_of o row) (sym e) in
    ap (λ n. option_map_or row_of (slice_get (change ∷ next ∷ more) n) row) here
    ∙ either (next ∷ more) (length more) (omega arith)
    ∙ ap (λ n. option_map_or row_of (slice_get (next ∷ more) n) (row_of change)) (sym there)
  where
    either : (xs : List ChangeData) (n : ℕ) → n < length xs → option_map_or row_of (slice_get xs n) row ≡ option_map_or row_of (slice_get xs n) (row_of change)
    either [] n within = absurd (omega arith)
    either (x ∷ xs) zero within = refl
    either (x ∷ xs) (suc n) within = either xs n (omega arith)

-- a change that passes a test replaces what stood
abbrev replaces : (ChangeData → Bool) → Option RowData → ChangeData → Option RowData
replaces p row change = cond (p change) (row_of change) row

last_replaces : (p : ChangeData → Bool) (changes : List ChangeData) (row : Option RowData) → fold (replaces p) row changes ≡ option_map_or row_of (last_of (filter p changes)) row
last_replaces p [] row = refl
last_replaces p (change ∷ changes) row = elim (cases_Bool (p change)) [
  | inl pass ↦ rw pass (last_replaces p changes (row_of change) ∙ sym (last_of_more change (filter p changes) row))
  | inr fail ↦ rw fail (last_replaces p changes row)
]

-- ---- revisions as their changes

abbrev is_within : Resource → ℕ → List ℕ → ChangeData → Bool
is_within resource at key change = leb change.rev at && is_change_of resource key change

all_within : (resource : Resource) (at : ℕ) (key : List ℕ) (rev : ℕ) (changes : List ChangeData) (row : Option RowData) → leb rev at ≡ true → All (λ change. change.rev ≡ rev) changes →
    fold (row_after resource key rev) row changes ≡ fold (replaces (is_within resource at key)) row changes
all_within resource at key rev [] row within numbered = refl
all_within resource at key rev (change ∷ changes) row within numbered =
    let number : change.rev ≡ rev = All-head (λ c. c.rev ≡ rev) change changes numbered in
    let same : replaces (is_within resource at key) row change ≡ row_after resource key rev row change = rw (number, within) refl in
    all_within resource at key rev changes (row_after resource key rev row change) within (All-tail (λ c. c.rev ≡ rev) change changes numbered)
    ∙ ap (λ r. fold (replaces (is_within resource at key)) r changes) (sym same)

none_within : (resource : Resource) (at : ℕ) (key : List ℕ) (rev : ℕ) (changes : List ChangeData) (row : Option RowData) → leb rev at ≡ false → All (λ change. change.rev ≡ rev) changes →
    row ≡ fold (replaces (is_within resource at key)) row changes
none_within resource at key rev [] row past numbered = refl
none_within resource at key rev (change ∷ changes) row past numbered =
    let number : change.rev ≡ rev = All-head (λ c. c.rev ≡ rev) change changes numbered in
    let same : replaces (is_within resource at key) row change ≡ row = rw (number, past) refl in
    none_within resource at key rev changes row past (All-tail (λ c. c.rev ≡ rev) change changes numbered)
    ∙ ap (λ r. fold (replaces (is_within resource at key)) r changes) (sym same)

one_revision : (resource : Resource) (at : ℕ) (key : List ℕ) (row : Option RowData) (revision : RevisionData) → IsRevision revision →
    row_next_upto resource at key row revision ≡ fold (replaces (is_within resource at key)) row revision.changes
one_revision resource at key row revision is = elim (cases_Bool (leb revision.rev at)) [
  | inl within ↦ rw within (all_within resource at key revision.rev revision.changes row within is.numbered)
  | inr past ↦ rw past (none_within resource at key revision.rev revision.changes row past is.numbered)
]

revisions : (resource : Resource) (at : ℕ) (key : List ℕ) (log : List RevisionData) (row : Option RowData) → All IsRevision log →
    fold (row_next_upto resource at key) row log ≡ fold (replaces (is_within resource at key)) row (flat_map (λ revision. revision.changes) log)
revisions resource at key [] row are = refl
revisions resource at key (revision ∷ log) row are =
    revisions resource at key log (row_next_upto resource at key row revision) (All-tail IsRevision revision log are)
    ∙ ap (λ r. fold (replaces (is_within resource at key)) r (flat_map (λ x. x.changes) log)) (one_revision resource at key row revision (All-head IsRevision revision log are))
    ∙ sym (fold-append (replaces (is_within resource at key)) row revision.changes (flat_map (λ x. x.changes) log))

pub last_decides : LastChangesDecide
last_decides log numbered are resource at key =
    sym (fold_upto resource at key (row_in_base log.base resource key) log.first log.revisions numbered)
    ∙ revisions resource at key log.revisions (row_in_base log.base resource key) are
    ∙ last_replaces (is_within resource at key) (changes_in log) (row_in_base log.base resource key)
