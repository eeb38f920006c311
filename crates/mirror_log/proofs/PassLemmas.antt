-- What a pass knows of a mirror's log, before and after a section.
use Rattle.std.proofs.Common.{◌≡◌, ℕ, ◌+◌, ◌<◌, ◌≤◌, List, [], ◌∷◌, ◌++◌, length, sym, ap, ◌∙◌, inl, inr, arith, length-append}
use Rattle.std.proofs.lemmas.List.{append-nil}
use Rattle.std.proofs.lemmas.Bool.{cases_lt}
use Rattle.kube_meta.specs.Rows.{RowData}
use Rattle.rev_front.specs.Passes.{Pass, IsPass, Extends, end_from}
use Rattle.rev_front.proofs.Beginnings.{prefix_shorter, prefix_length}
use Rattle.rev_log.specs.Changes.{RevisionData}
use Rattle.rev_log.specs.Logs.{Log, Fits, end_of, grown, upto}
use Rattle.rev_log.proofs.GrowthLemmas.{upto-end, upto-grown}
use Rattle.up_api.specs.Sections.{log_of, log_upto}
use Rattle.up_api.proofs.SectionLemmas.{logs_grow_on}

-- all that a pass has seen
pub whole : (base : List RowData) (p : Pass RevisionData) (to : ℕ) → end_from p.first p.seen ≤ to → log_upto base p to ≡ record { first = p.first; base = base; revisions = p.seen }
whole base p to past = ap (λ (revisions : List RevisionData). let log : Log = record { first = p.first; base = base; revisions = revisions } in log) (upto-end (log_of base p) to past)

-- a log of a section stays as the pass goes on
pub stays : (base : List RowData) (p q : Pass RevisionData) (to : ℕ) → Extends p q → to ≤ end_from p.first p.seen → log_upto base q to ≡ log_upto base p to
stays base p q to on within =
    ap (λ (log : Log). let cut : Log = record log { revisions = upto log to } in cut) (logs_grow_on base p q on)
    ∙ ap (λ (revisions : List RevisionData). let log : Log = record { first = p.first; base = base; revisions = revisions } in log) (upto-grown (log_of base p) on.seen_on.0 to within)

pub seen_on : (p q : Pass RevisionData) → Extends p q → end_from p.first p.seen ≤ end_from q.first q.seen
seen_on p q on = omega (arith, on.log_is, prefix_length p.seen q.seen on.seen_on)

-- ---- revisions that were added

no_more : (xs ys : List RevisionData) (more : List RevisionData) → xs ++ more ≡ ys → length ys ≡ length xs → ys ≡ xs
no_more xs ys [] is same = sym is ∙ append-nil xs
no_more xs ys (r ∷ more) is same = absurd (omega (arith, same, ap length is, length-append xs (r ∷ more)))

module _ (base : List RowData) (p q : Pass RevisionData) (more : List RevisionData) (to : ℕ) (before : Log)
    (pass : IsPass Fits p) (on : Extends p q) (within : to ≤ end_from p.first p.seen) (shown : p.shown ≤ end_of before) (last : end_of before ≡ to) (committed : log_of base q ≡ grown before more) where
  reached : end_from p.first p.seen ≡ to
  reached = omega (arith, pass.within, shown, last, within)

  all : q.seen ≡ before.revisions ++ more
  all = ap (λ (log : Log). log.revisions) committed

  first : before.first ≡ p.first
  first = sym (ap (λ (log : Log). log.first) committed) ∙ on.log_is

  same : before.revisions ≡ p.seen
  same =
      let long : length before.revisions ≡ length p.seen = omega (arith, last, reached, first) in
      let begins = prefix_shorter p.seen before.revisions q.seen on.seen_on (more, sym all) (omega (arith, long)) in
      no_more p.seen before.revisions begins.0 begins.1 long

  now : q.seen ≡ p.seen ++ more
  now = all ∙ ap (λ (revisions : List RevisionData). revisions ++ more) same

  -- they are those behind the end
  pub added : log_upto base q (to + length more) ≡ grown (log_upto base p to) more
  added =
      let long : end_from q.first q.seen ≤ to + length more = omega (arith, on.log_is, reached, ap length now, length-append p.seen more) in
      whole base q (to + length more) long
      ∙ ap (λ (n : ℕ). let log : Log = record { first = n; base = base; revisions = q.seen } in log) on.log_is
      ∙ ap (λ (revisions : List RevisionData). let log : Log = record { first = p.first; base = base; revisions = revisions } in log) now
      ∙ ap (λ (log : Log). grown log more) (sym (whole base p to (omega (arith, reached))))

  pub added_to : end_from q.first q.seen ≡ to + length more
  added_to = omega (arith, on.log_is, reached, ap length now, length-append p.seen more)

-- the mirror's end isn't the store's: that is above it
pub passed : (p : Pass RevisionData) (to at : ℕ) → IsPass Fits p → to ≤ end_from p.first p.seen → p.shown ≤ at → ¬ (at ≡ to) → to < at
passed p to at pass within shown other = elim (cases_lt to at) [
  | inl above ↦ above
  | inr not_above ↦ absurd (other (omega (arith, pass.within, within, shown, not_above)))
]
