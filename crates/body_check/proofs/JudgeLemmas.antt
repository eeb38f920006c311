-- From what is found of starts to the judgement.
use Rattle.std.proofs.Common.{◌≡◌, ℕ, ◌<◌, ◌≤◌, ◌^◌, inl, inr, true, false, IsTrue, List, take, refl, sym, ap, ◌∙◌, subst, arith}
use Rattle.std.proofs.lemmas.Bool.{cases_lt}
use Rattle.kube_meta.specs.Rows.{RowData}
use Rattle.rev_log.specs.Logs.{Log, end_of}
use Rattle.watch_record.specs.declared.records.Record.{Record}
use Rattle.watch_rules.specs.Bodies.{IsOpening}
use Rattle.watch_rules.specs.Starts.{is_from_state}
use Rattle.watch_rules.specs.declared.starts.Start.{Start}
use Rattle.watch_rules.specs.declared.starts.Start.TheVariants.{FromState, FromHere, FromRevision}
use Rattle.body_check.specs.declared.judging.Checked.TheVariants.{Lawful, Unlawful}
use Rattle.body_check.specs.Courses.{rows_told, Admits, IsRanged}
use Rattle.body_check.specs.Findings.{Begins, IsReachedBy, IsBrokenAt}
use Rattle.body_check.specs.Judging.{record_log, IsAllowed, MayStart, IsToldBy, IsLawfulFrom, IsUnlawfulAt, JudgementsAreOne}
use Rattle.body_check.specs.Rounds.{IsTriedBy}

-- ---- allowed starts

pub allowed_from : (log : Log) (start : Start) (at : ℕ) → IsRanged start → log.first ≤ at → at ≤ end_of log → Admits start at → IsAllowed log start at
allowed_from log (FromState meaning) at ranged begun reached admits = (begun, reached, admits)
allowed_from log (FromHere meaning) at ranged begun reached admits = (begun, reached, admits)
allowed_from log (FromRevision revision) at ranged begun reached admits = admits

pub allowed_parts : (log : Log) (start : Start) (at : ℕ) → IsRanged start → IsAllowed log start at → (log.first ≤ at) × (at ≤ end_of log) × Admits start at
allowed_parts log (FromState meaning) at ranged allowed = (allowed.0, allowed.1, allowed.2)
allowed_parts log (FromHere meaning) at ranged allowed = (allowed.0, allowed.1, allowed.2)
allowed_parts log (FromRevision revision) at ranged allowed = absurd ranged

-- ---- a start at one revision

module _ (case : Record) (revision : ℕ) (start_is : case.ask.start ≡ FromRevision revision) where
  pub one_opens : (rows : List RowData) → IsOpening (record_log case) case.ask.selection case.ask.start revision (rows_told case.ask.start case.ask.selection rows)
  one_opens rows = subst (λ (start : Start). IsOpening (record_log case) case.ask.selection start revision (rows_told start case.ask.selection rows)) (sym start_is) (refl, refl)

  pub one_unclosed : IsTrue case.ask.closing → revision ≤ 2 ^ 62
  one_unclosed closing =
      let state : true ≡ false = sym (case.ask.closing_a_state closing) ∙ ap is_from_state start_is in
      absurd (cc)

  one_allowed : MayStart case revision
  one_allowed = subst (λ (start : Start). IsAllowed (record_log case) start revision) (sym start_is) refl

  only_allowed : (at : ℕ) → MayStart case at → at ≡ revision
  only_allowed at allowed = subst (λ (start : Start). IsAllowed (record_log case) start at) start_is allowed

  pub one_lawful : (to : ℕ) → IsReachedBy (IsToldBy case revision) case.lines.items to → IsLawfulFrom case revision to
  one_lawful to is = record {
    allowed = one_allowed;
    told = is.told;
    least_start = λ other p allowed told. let same = only_allowed other allowed in omega (arith, same);
    least_position = is.least;
  }

  pub one_unlawful : (n : ℕ) → IsBrokenAt (IsToldBy case revision) case.lines.items n → IsUnlawfulAt case n
  one_unlawful n is = record {
    none = λ at p allowed told. is.none p (subst (λ (a : ℕ). IsToldBy case a case.lines.items p) (only_allowed at allowed) told);
    within = is.within;
    begun = inr (revision, one_allowed, is.begun);
    greatest = λ at m allowed few begun. is.greatest m few (subst (λ (a : ℕ). Begins (IsToldBy case a) (take m case.lines.items)) (only_allowed at allowed) begun);
  }

-- ---- starts at several

pub decided : (case : Record) (at best to : ℕ) → MayStart case at → IsReachedBy (IsToldBy case at) case.lines.items to → IsTriedBy case at best → IsLawfulFrom case at to
decided case at best to allowed is tried = record {
  allowed = allowed;
  told = is.told;
  least_start = λ other p may told. elim (cases_lt other at) [
    | inl below ↦ absurd (tried.none other p may below told)
    | inr fine ↦ fine
  ];
  least_position = is.least;
}

pub finished : (case : Record) (next best : ℕ) → IsRanged case.ask.start → end_of (record_log case) < next → IsTriedBy case next best → IsUnlawfulAt case best
finished case next best ranged past tried = record {
  none = λ at p allowed told. tried.none at p allowed (below at allowed) told;
  within = tried.within;
  begun = tried.begun;
  greatest = λ at m allowed few begun. tried.greatest at m allowed (below at allowed) few begun;
}
  where
    below : (at : ℕ) → MayStart case at → at < next
    below at allowed = let parts = allowed_parts (record_log case) case.ask.start at ranged allowed in omega (arith, parts.1)

-- ---- one judgement

le_from_begun : (case : Record) (n m : ℕ) → IsUnlawfulAt case n → IsUnlawfulAt case m → n ≤ m
le_from_begun case n m is other = elim is.begun [
  | inl none ↦ omega (arith, none)
  | inr begun ↦ other.greatest begun.0 n begun.1 is.within begun.2
]

pub judged_once : JudgementsAreOne
judged_once case (Lawful at to) (Lawful other_at other_to) is other =
    let low = is.least_start other_at other_to other.allowed other.told in
    let high = other.least_start at to is.allowed is.told in
    let starts : at ≡ other_at = omega (arith, low, high) in
    let here : IsToldBy case other_at case.lines.items to = subst (λ (a : ℕ). IsToldBy case a case.lines.items to) starts is.told in
    let there : IsToldBy case at case.lines.items other_to = subst (λ (a : ℕ). IsToldBy case a case.lines.items other_to) (sym starts) other.told in
    let ends : to ≡ other_to = omega (arith, is.least_position other_to there, other.least_position to here) in
    λ i. Lawful (starts i) (ends i)
judged_once case (Lawful at to) (Unlawful n) is other = absurd (other.none at to is.allowed is.told)
judged_once case (Unlawful n) (Lawful at to) is other = absurd (is.none at to other.allowed other.told)
judged_once case (Unlawful n) (Unlawful m) is other =
    let same : n ≡ m = omega (arith, le_from_begun case n m is other, le_from_begun case m n other is) in
    ap (λ (k : ℕ). Unlawful k) same
