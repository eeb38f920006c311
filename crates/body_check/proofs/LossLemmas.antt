-- Which losses a log bears out.
use Rattle.std.proofs.Common.{◌≡◌, ℕ, ◌+◌, ◌-◌, ◌<◌, ◌≤◌, inl, inr, true, eqb, ltb, leb, List, [], length, take, drop, sym, ap, ◌∙◌, arith}
use Rattle.std.specs.Prelude.{◌&&◌, ◌||◌, sum_by}
use Rattle.std.proofs.lemmas.Bool.{cases_lt, lt-ltb, le-ltb, ltb-true, le-leb, lt-leb, leb-true, eq-eqb, ne_eqb, and_parts, and_from, or_cases, or_left, or_right}
use Rattle.std.proofs.lemmas.List.{drop-take, take_rest, drop_all, length-take}
use Rattle.kube_meta.specs.declared.resources.Resource.{Resource}
use Rattle.rev_log.specs.Changes.{RevisionData}
use Rattle.rev_log.specs.Logs.{Log, end_of, between}
use Rattle.rev_log.proofs.MapLemmas.{take_all}
use Rattle.select_all.specs.Floors.{changes_in, changes_between, IsEvicted, is_passed}
use Rattle.body_check.specs.Losses.{log_from, is_lost}

-- ---- counting

pub passed_by : (a b some many window : ℕ) → a ≡ 1 - some → b ≡ window - many → a ≡ 0 → eqb b 0 ≡ (ltb 0 some && leb window many)
passed_by a b some many window a_is b_is none =
    let there : 0 < some = omega (arith, a_is, none) in
    let first : ltb 0 some ≡ true = lt-ltb 0 some there in
    elim (cases_lt many window) [
      | inl less ↦
          let left : b ≡ 0 → ⊥ = λ e. omega (arith, e, b_is, less) in
          rw (first, lt-leb window many less) (ne_eqb b 0 left)
      | inr enough ↦
          let none_left : b ≡ 0 = omega (arith, b_is, enough) in
          rw (first, le-leb window many enough) (eq-eqb b 0 none_left)
    ]

pub passed_not : (a some many window : ℕ) → a ≡ 1 - some → (a ≡ 0 → ⊥) → eqb a 0 ≡ (ltb 0 some && leb window many)
passed_not a some many window a_is more =
    let none : some ≤ 0 = omega (arith, a_is, more) in
    rw (le-ltb 0 some none) (ne_eqb a 0 more)

module _ (first : ℕ) (log : List RevisionData) (v : ℕ) (after : first < v) (within : v - first ≤ length log) where
  pub one_is : take (v - first - (v - first - 1)) (drop (v - first - 1) log) ≡ between (log_from first log) (v - 1) v
  one_is =
      let m : ℕ = v - first - 1 in
      let one : v - first - (v - first - 1) ≡ 1 = omega arith in
      let low : v - first - 1 ≡ v - 1 - first = omega arith in
      let high : v - first - 1 + 1 ≡ v - first = omega arith in
      ap (λ (k : ℕ). take k (drop (v - first - 1) log)) one ∙ sym (drop-take (v - first - 1) 1 log)
      ∙ ap (λ (k : ℕ). drop (v - first - 1) (take k log)) high ∙ ap (λ (k : ℕ). drop k (take (v - first) log)) low

  pub rest_is : take (length log - (v - first)) (drop (v - first) log) ≡ between (log_from first log) v (first + length log)
  rest_is =
      let all : take (first + length log - first) log ≡ log = take_all log (first + length log - first) (omega arith) in
      take_rest log (v - first) ∙ ap (drop (v - first)) (sym all)

-- ---- the test and the fact

module _ (log : Log) (resource : Resource) where
  -- a revision with a change is one of the log
  pub changed_within : (v : ℕ) → 0 < changes_between log resource (v - 1) v → v ≤ end_of log
  changed_within v some = elim (cases_lt (end_of log) v) [
    | inl past ↦
        let none : between log (v - 1) v ≡ [] = drop_all (v - 1 - log.first) (take (v - log.first) log.revisions) (omega (arith, length-take (v - log.first) log.revisions)) in
        let zero : changes_between log resource (v - 1) v ≡ 0 = ap (sum_by (changes_in resource)) none in
        absurd (omega arith)
    | inr fine ↦ fine
  ]

  module _ (log_floor window : ℕ) (at floor : ℕ) where
    pub lost_evicted : is_lost log log_floor window resource at floor ≡ true → IsEvicted log log_floor window resource at floor
    lost_evicted is =
        let parts = and_parts (ltb at floor) (leb floor log_floor || is_passed log resource window (end_of log) floor) is in
        record {
          below = ltb-true at floor parts.0;
          cause = elim (or_cases (leb floor log_floor) (is_passed log resource window (end_of log) floor) parts.1) [
            | inl old ↦ inl (leb-true floor log_floor old)
            | inr past ↦
                let both = and_parts (ltb 0 (changes_between log resource (floor - 1) floor)) (leb window (changes_between log resource floor (end_of log))) past in
                inr (record { changed = ltb-true 0 _ both.0; above = leb-true window _ both.1 })
          ];
        }

    pub evicted_lost : IsEvicted log log_floor window resource at floor → is_lost log log_floor window resource at floor ≡ true
    evicted_lost is = and_from (ltb at floor) (leb floor log_floor || is_passed log resource window (end_of log) floor) (lt-ltb at floor is.below) (elim is.cause [
      | inl old ↦ or_left (leb floor log_floor) (is_passed log resource window (end_of log) floor) (le-leb floor log_floor old)
      | inr past ↦ or_right (leb floor log_floor) (is_passed log resource window (end_of log) floor)
          (and_from (ltb 0 (changes_between log resource (floor - 1) floor)) (leb window (changes_between log resource floor (end_of log))) (lt-ltb 0 _ past.changed) (le-leb window _ past.above))
    ])

    pub lost_within : log_floor ≤ end_of log → is_lost log log_floor window resource at floor ≡ true → (at < floor) × (floor ≤ end_of log)
    lost_within le is =
        let lost = lost_evicted is in
        (lost.below, elim lost.cause [ inl old ↦ omega (arith, old) | inr past ↦ changed_within floor past.changed ])
