-- What a log shows as it grows, and from one revision to another.
use Rattle.std.proofs.Common.{◌≡◌, ℕ, zero, suc, ◌+◌, ◌-◌, ◌<◌, ◌≤◌, List, [], ◌∷◌, ◌++◌, length, get_or, take, drop, fold, refl, sym, ap, ◌∙◌, arith}
use Rattle.std.proofs.Math.Seq.{take-nil, drop-nil}
use Rattle.std.proofs.lemmas.List.{take-append-le, length-append}
use Rattle.std.proofs.lemmas.List.Sums.{fold-append}
use Rattle.kube_meta.specs.declared.resources.Resource.{Resource}
use Rattle.kube_meta.specs.Rows.{RowData}
use Rattle.rev_log.specs.Changes.{RevisionData}
use Rattle.rev_log.specs.Logs.{Log, grown, end_of, upto, between, AreNumbered}
use Rattle.rev_log.specs.Laws.{RowsStay, StatesStay}
use Rattle.rev_log.specs.States.{row_next, row_in_base, row_at, IsStateAt}

-- the revisions up to a number of the log stay
pub upto-grown : (log : Log) (more : List RevisionData) (at : ℕ) → at ≤ end_of log → upto (grown log more) at ≡ upto log at
upto-grown log more at within = take-append-le (at - log.first) log.revisions more (omega arith)

-- and so do what stands at a key, and the state
pub row_at-grown : (log : Log) (more : List RevisionData) (resource : Resource) (at : ℕ) (key : List ℕ) → at ≤ end_of log → row_at (grown log more) resource at key ≡ row_at log resource at key
row_at-grown log more resource at key within = ap (fold (row_next resource key) (row_in_base log.base resource key)) (upto-grown log more at within)

pub IsStateAt-grown : (log : Log) (more : List RevisionData) (resource : Resource) (at : ℕ) (rows : List RowData) → at ≤ end_of log → IsStateAt log resource at rows → IsStateAt (grown log more) resource at rows
IsStateAt-grown log more resource at rows within state = record {
  rising = state.rising;
  exact = λ key. state.exact key ∙ sym (row_at-grown log more resource at key within);
}

pub rows_stay : RowsStay
rows_stay log more resource at key within = row_at-grown log more resource at key within

pub states_stay : StatesStay
states_stay log more resource at rows within = (
  IsStateAt-grown log more resource at rows within,
  λ state. record { rising = state.rising; exact = λ key. state.exact key ∙ row_at-grown log more resource at key within },
)

-- at and past the end the whole log counts
pub upto-end : (log : Log) (at : ℕ) → end_of log ≤ at → upto log at ≡ log.revisions
upto-end log at past = all log.revisions (at - log.first) (omega arith)
  where
    all : (xs : List RevisionData) (n : ℕ) → length xs ≤ n → take n xs ≡ xs
    all [] n long = take-nil n
    all (x ∷ xs) zero long = absurd (omega arith)
    all (x ∷ xs) (suc n) long = ap (λ rest. x ∷ rest) (all xs n (omega arith))

-- one more revision is one more step
pub row_at-pushed : (log : Log) (revision : RevisionData) (resource : Resource) (key : List ℕ) → row_at (grown log (revision ∷ [])) resource (end_of log + 1) key ≡ row_next resource key (row_at log resource (end_of log) key) revision
row_at-pushed log revision resource key =
    let longer : length (log.revisions ++ revision ∷ []) ≡ length log.revisions + 1 = length-append log.revisions (revision ∷ []) in
    let now : upto (grown log (revision ∷ [])) (end_of log + 1) ≡ log.revisions ++ revision ∷ [] = upto-end (grown log (revision ∷ [])) (end_of log + 1) (omega arith) in
    let before : upto log (end_of log) ≡ log.revisions = upto-end log (end_of log) (omega arith) in
    rw (now, before) (fold-append (row_next resource key) (row_in_base log.base resource key) log.revisions (revision ∷ []))

-- parts of a list that meet
joined : (p m n : ℕ) (xs : List RevisionData) → p ≤ m → m ≤ n → drop p (take m xs) ++ drop m (take n xs) ≡ drop p (take n xs)
joined p m n [] a b = rw (take-nil, take-nil, drop-nil, drop-nil) refl
joined zero zero n (x ∷ xs) a b = refl
joined (suc p) zero n (x ∷ xs) a b = absurd (omega arith)
joined p (suc m) zero (x ∷ xs) a b = absurd (omega arith)
joined zero (suc m) (suc n) (x ∷ xs) a b = ap (λ rest. x ∷ rest) (joined zero m n xs (omega arith) (omega arith))
joined (suc p) (suc m) (suc n) (x ∷ xs) a b = joined p m n xs (omega arith) (omega arith)

pub between-joined : (log : Log) (a b c : ℕ) → a ≤ b → b ≤ c → between log a b ++ between log b c ≡ between log a c
between-joined log a b c first second = joined (a - log.first) (b - log.first) (c - log.first) log.revisions (omega arith) (omega arith)

-- what stands at a later revision, from what stood at an earlier one
pub row_at-between : (log : Log) (resource : Resource) (key : List ℕ) (a b : ℕ) → a ≤ b → row_at log resource b key ≡ fold (row_next resource key) (row_at log resource a key) (between log a b)
row_at-between log resource key a b order =
    ap (fold (row_next resource key) (row_in_base log.base resource key)) (sym (joined zero (a - log.first) (b - log.first) log.revisions (omega arith) (omega arith)))
    ∙ fold-append (row_next resource key) (row_in_base log.base resource key) (upto log a) (between log a b)

-- ---- numbers

-- one more revision with the next number
pub AreNumbered-push : (first : ℕ) (revisions : List RevisionData) (revision : RevisionData) → AreNumbered first revisions → revision.rev ≡ first + length revisions + 1 → AreNumbered first (revisions ++ revision ∷ [])
AreNumbered-push first [] revision numbered next = (omega (arith, next), tt)
AreNumbered-push first (x ∷ revisions) revision numbered next = (numbered.0, AreNumbered-push (first + 1) revisions revision numbered.1 (omega (arith, next)))

-- the number at a place
pub number_at : (first : ℕ) (revisions : List RevisionData) (i : ℕ) (d : RevisionData) → AreNumbered first revisions → i < length revisions → (get_or revisions i d).rev ≡ first + i + 1
number_at first [] i d numbered inside = absurd (omega arith)
number_at first (x ∷ revisions) zero d numbered inside = omega (arith, numbered.0)
number_at first (x ∷ revisions) (suc i) d numbered inside = omega (arith, number_at (first + 1) revisions i d numbered.1 (omega arith))
