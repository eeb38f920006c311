-- Counts, floors and evictions as a log and a window grow.
use Rattle.std.proofs.Common.{◌≡◌, ℕ, zero, suc, ◌+◌, ◌-◌, ◌<◌, ◌≤◌, inl, inr, List, [], ◌∷◌, ◌++◌, drop, take, refl, sym, ap, ◌∙◌, subst, arith}
use Rattle.std.specs.Prelude.{sum_by}
use Rattle.std.proofs.Math.Seq.{take-nil, drop-nil}
use Rattle.std.proofs.lemmas.Bool.{cases_lt}
use Rattle.std.proofs.lemmas.List.{length-append}
use Rattle.std.proofs.lemmas.List.Sums.{sum_by-cons, sum_by-append}
use Rattle.kube_meta.specs.declared.resources.Resource.{Resource}
use Rattle.rev_log.specs.Changes.{RevisionData}
use Rattle.rev_log.specs.Logs.{Log, grown, end_of, between}
use Rattle.rev_log.proofs.GrowthLemmas.{between-joined}
use Rattle.select_all.specs.Floors.{changes_in, changes_between, IsPassed, IsFloorOk}
use Rattle.select_all.specs.FloorLaws.{CountsStay, FloorsStay, FloorsBegin, FloorsGoOn, FloorsWait, FloorsEvict, EvictionsStay}
use Rattle.select_all.proofs.StreamLaws.{between-none, between-grown}

-- ---- counts

pub end-grows : (log : Log) (more : List RevisionData) → end_of log ≤ end_of (grown log more)
end-grows log more = omega (arith, length-append log.revisions more)

-- counts of a part of a list, as the list and the part grow
part-grows : (f : RevisionData → ℕ) (p m n : ℕ) (xs more : List RevisionData) → m ≤ n → sum_by f (drop p (take m xs)) ≤ sum_by f (drop p (take n (xs ++ more)))
part-grows f p m n [] more le = rw (take-nil, drop-nil) (omega arith)
part-grows f p zero n (x ∷ xs) more le = rw drop-nil (omega arith)
part-grows f p (suc m) zero (x ∷ xs) more le = absurd (omega (arith, le))
part-grows f zero (suc m) (suc n) (x ∷ xs) more le = rw (sum_by-cons, sum_by-cons) (omega (arith, part-grows f zero m n xs more (omega (arith, le))))
part-grows f (suc p) (suc m) (suc n) (x ∷ xs) more le = part-grows f p m n xs more (omega (arith, le))

pub count-grows : (log : Log) (more : List RevisionData) (resource : Resource) (a b c : ℕ) → b ≤ c → changes_between log resource a b ≤ changes_between (grown log more) resource a c
count-grows log more resource a b c le = part-grows (changes_in resource) (a - log.first) (b - log.first) (c - log.first) log.revisions more (omega (arith, le))

-- counts up to one revision and from it on
pub counts_join : (log : Log) (resource : Resource) (a b c : ℕ) → a ≤ b → b ≤ c → changes_between log resource a b + changes_between log resource b c ≡ changes_between log resource a c
counts_join log resource a b c first second =
    sym (sum_by-append (changes_in resource) (between log a b) (between log b c)) ∙ ap (sum_by (changes_in resource)) (between-joined log a b c first second)

count_none : (log : Log) (resource : Resource) (a b : ℕ) → b ≤ a → changes_between log resource a b ≡ 0
count_none log resource a b order = ap (sum_by (changes_in resource)) (between-none log a b order)

pub counts_are_kept : CountsStay
counts_are_kept log more resource a b within = elim (cases_lt a b) [
  | inl above ↦ ap (sum_by (changes_in resource)) (between-grown log more a b (omega (arith, above, within)))
  | inr not_above ↦ count_none (grown log more) resource a b not_above ∙ sym (count_none log resource a b not_above)
]

-- ---- windows

-- what two logs count alike is passed alike
passed_alike : (log other : Log) (resource : Resource) (many e v : ℕ) → ((a b : ℕ) → b ≤ e → changes_between log resource a b ≡ changes_between other resource a b) → v ≤ e → IsPassed log resource many e v → IsPassed other resource many e v
passed_alike log other resource many e v same le passed = record {
  changed = omega (arith, passed.changed, same (v - 1) v le);
  above = omega (arith, passed.above, same v e (omega arith));
}

floor_alike : (log other : Log) (resource : Resource) (low high base e floor : ℕ) → ((a b : ℕ) → b ≤ e → changes_between log resource a b ≡ changes_between other resource a b) → IsFloorOk log resource low high base e floor → IsFloorOk other resource low high base e floor
floor_alike log other resource low high base e floor same is = record {
  from_base = is.from_base;
  dropped = elim is.dropped [
    | inl begins ↦ inl begins
    | inr h ↦ inr (h.0, h.1, passed_alike log other resource low e floor same h.1 h.2)
  ];
  keeps = λ v above le passed. is.keeps v above le (passed_alike other log resource high e v (λ a b within. sym (same a b within)) le passed);
}

pub floors_are_kept : FloorsStay
floors_are_kept log more resource low high base e floor within =
    let same : (a b : ℕ) → b ≤ e → changes_between log resource a b ≡ changes_between (grown log more) resource a b = λ a b le. sym (counts_are_kept log more resource a b (omega (arith, le, within))) in (
      floor_alike log (grown log more) resource low high base e floor same,
      floor_alike (grown log more) log resource low high base e floor (λ a b le. sym (same a b le)),
    )

pub floors_begin : FloorsBegin
floors_begin log resource low high base e le = record {
  from_base = omega arith;
  dropped = inl refl;
  keeps = λ v above within passed. absurd (omega (arith, above, within, le));
}

-- a window that ends later is past what it was past, and a smaller one too
passed_later : (log : Log) (resource : Resource) (many few e later v : ℕ) → v ≤ e → e ≤ later → few ≤ many → IsPassed log resource many e v → IsPassed log resource few later v
passed_later log resource many few e later v within le fewer passed = record {
  changed = passed.changed;
  above = omega (arith, passed.above, counts_join log resource v e later within le, fewer);
}

pub floors_go_on : FloorsGoOn
floors_go_on log resource low high many base e later floor next least most le is goes = record {
  from_base = omega (arith, is.from_base, goes.from_base);
  dropped = elim goes.dropped [
    | inl same ↦ elim is.dropped [
      | inl begins ↦ inl (same ∙ begins)
      | inr h ↦ inr (omega (arith, same, h.0), omega (arith, same, h.1, le), subst (IsPassed log resource low later) (sym same) (passed_later log resource low low e later floor h.1 le (omega arith) h.2))
    ]
    | inr h ↦ inr (omega (arith, h.0, is.from_base), h.1, passed_later log resource many low later later next h.1 (omega arith) least h.2)
  ];
  keeps = λ v above within passed. elim (cases_lt floor v) [
    | inl beyond ↦ goes.keeps v beyond within (passed_later log resource high many later later v within (omega arith) most passed)
    | inr up_to ↦ omega (arith, up_to, goes.from_base)
  ];
}

-- no change of the resource from one end to a later one
module _ (log : Log) (resource : Resource) (e later : ℕ) (le : e ≤ later) (none : changes_between log resource e later ≡ 0) where
  quiet : (v : ℕ) → e < v → v ≤ later → changes_between log resource (v - 1) v ≡ 0
  quiet v above within =
      let first = counts_join log resource e (v - 1) later (omega (arith, above)) (omega (arith, within)) in
      let second = counts_join log resource (v - 1) v later (omega arith) within in
      omega (arith, first, second, none)

  passed_before : (many v : ℕ) → v ≤ later → IsPassed log resource many later v → (v ≤ e) × IsPassed log resource many e v
  passed_before many v within passed = elim (cases_lt e v) [
    | inl above ↦ absurd (omega (arith, quiet v above within, passed.changed))
    | inr up_to ↦ (up_to, record { changed = passed.changed; above = omega (arith, passed.above, counts_join log resource v e later up_to le, none) })
  ]

pub floors_wait : FloorsWait
floors_wait log resource low high base e later floor le none is = record {
  from_base = is.from_base;
  dropped = elim is.dropped [
    | inl begins ↦ inl begins
    | inr h ↦ inr (h.0, omega (arith, h.1, le), passed_later log resource low low e later floor h.1 le (omega arith) h.2)
  ];
  keeps = λ v above within passed. let h = passed_before log resource e later le none high v within passed in is.keeps v above h.0 h.1;
}

-- ---- evictions

pub floors_evict : FloorsEvict
floors_evict log log_floor resource low high base e floor a within old is below = record {
  below = below;
  cause = elim is.dropped [
    | inl begins ↦ inl (omega (arith, begins, old))
    | inr h ↦ inr (passed_later log resource low low e (end_of log) floor h.1 within (omega arith) h.2)
  ];
}

pub IsPassed-grown : (log : Log) (more : List RevisionData) (resource : Resource) (low n : ℕ) → IsPassed log resource low (end_of log) n → IsPassed (grown log more) resource low (end_of (grown log more)) n
IsPassed-grown log more resource low n passed = record {
  changed = omega (arith, passed.changed, count-grows log more resource (n - 1) n n (omega arith));
  above = omega (arith, passed.above, count-grows log more resource n (end_of log) (end_of (grown log more)) (end-grows log more));
}

pub evictions_stay : EvictionsStay
evictions_stay log more log_floor later_floor low resource a n rises lost = record {
  below = lost.below;
  cause = elim lost.cause [
    | inl floor ↦ inl (omega (arith, floor, rises))
    | inr passed ↦ inr (IsPassed-grown log more resource low n passed)
  ];
}
