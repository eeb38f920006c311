-- What revisions carry, and how many of the last ones fit into so many bytes.
use Rattle.std.proofs.Common.{◌≡◌, ℕ, suc, ◌+◌, ◌-◌, ◌*◌, ◌^◌, ◌<◌, ◌≤◌, inl, inr, List, [], ◌∷◌, ◌++◌, length, get_or, drop, max, min, All, refl, sym, ap, ◌∙◌, subst, arith, length-append}
use Rattle.std.specs.List.{sum_by}
use Rattle.std.specs.Prelude.{nat_le, true, false}
use Rattle.std.proofs.lemmas.Bool.{cases_Bool, le-leb, lt-leb}
use Rattle.std.proofs.lemmas.List.Sums.{sum_by-append, sum_by-cons, sum_by-le, length-filter, count_by-le-length}
use Rattle.rev_log.specs.Changes.{RevisionData}
use Rattle.up_store.specs.Kept.{carried, fitting, has_changes, text_size, with_changes}
use Rattle.up_store.proofs.ChangedLemmas.{none_are}

-- they carry little enough to be summed
pub light : (xs : List RevisionData) → sum_by carried (with_changes xs) ≤ length xs * 18446744073709551615
light xs =
    let few : length (with_changes xs) ≤ length xs = omega (arith, length-filter has_changes xs, count_by-le-length has_changes xs) in
    omega (arith, sum_by-le carried 18446744073709551615 (with_changes xs) (λ k d inside. omega arith), few)

-- and one of them what it carries
pub alone : (r : RevisionData) → sum_by carried (with_changes (r ∷ [])) ≡ carried r
alone r = elim (cases_Bool (has_changes r)) [
  | inl some ↦ rw some (omega arith)
  | inr none ↦ rw none (ap (λ changes. min (sum_by (λ change. text_size change.new) changes) 18446744073709551615) (sym (none_are r.changes none)))
]

-- where all fit, all are counted
pub fits-all : (bytes : ℕ) (xs : List RevisionData) → sum_by carried xs ≤ bytes → fitting bytes xs ≡ length xs
fits-all bytes [] low = refl
fits-all bytes (r ∷ rest) low = rw (le-leb (sum_by carried (r ∷ rest)) bytes low) refl

-- and else those behind the first one, of which there is at least one
pub fits-next : (bytes : ℕ) (r : RevisionData) (rest : List RevisionData) → bytes < sum_by carried (r ∷ rest) → fitting bytes (r ∷ rest) ≡ max 1 (fitting bytes rest)
fits-next bytes r rest high = rw (lt-leb (sum_by carried (r ∷ rest)) bytes high) refl

some-fit : (bytes : ℕ) (r : RevisionData) (rest : List RevisionData) → 1 ≤ fitting bytes (r ∷ rest)
some-fit bytes r rest = elim (cases_Bool (nat_le (sum_by carried (r ∷ rest)) bytes)) [
  | inl fits ↦ rw fits (omega arith)
  | inr over ↦ rw over (omega arith)
]

-- where the last ones fit, no fewer are counted
pub fits-more : (bytes : ℕ) (xs ys : List RevisionData) → sum_by carried ys ≤ bytes → length ys ≤ fitting bytes (xs ++ ys)
fits-more bytes [] ys low = omega (arith, fits-all bytes ys low)
fits-more bytes (x ∷ xs) ys low = elim (cases_Bool (nat_le (sum_by carried (x ∷ (xs ++ ys))) bytes)) [
  | inl fits ↦ rw fits (omega (arith, length-append xs ys))
  | inr over ↦ rw over (omega (arith, fits-more bytes xs ys low))
]

-- and where they don't, none before them is
pub fits-past : (bytes : ℕ) (xs ys : List RevisionData) → bytes < sum_by carried ys → fitting bytes (xs ++ ys) ≡ fitting bytes ys
fits-past bytes [] ys high = refl
fits-past bytes (x ∷ xs) [] high = absurd (omega (arith, high))
fits-past bytes (x ∷ xs) (y ∷ ys) high =
    fits-next bytes x (xs ++ y ∷ ys) (omega (arith, high, sum_by-cons carried x (xs ++ y ∷ ys), sum_by-append carried xs (y ∷ ys)))
    ∙ ap (max 1) (fits-past bytes xs (y ∷ ys) high) ∙ omega (arith, some-fit bytes y ys)
