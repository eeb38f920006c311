-- What stays of a cache's log as the pass beside it learns.
use Rattle.std.proofs.Common.{◌≡◌, ℕ, ◌-◌, ◌≤◌, List, ◌++◌, take, length, length-take, length-append, sym, ap, subst, ◌∙◌, arith}
use Rattle.std.proofs.lemmas.List.{take-append-le}
use Rattle.kube_meta.specs.Rows.{RowData}
use Rattle.rev_front.specs.Passes.{Pass, Extends, end_from}
use Rattle.rev_log.specs.Changes.{RevisionData}
use Rattle.rev_log.specs.Logs.{Log, end_of}
use Rattle.up_api.specs.Sections.{log_upto, LogsGrow, StandsAt}

-- the log of a pass that goes on grows
pub logs_grow_on : LogsGrow
logs_grow_on base p q later =
    ap (λ (z : ℕ × List RevisionData). record { first = z.0; base = base; revisions = z.1 }) {x = (q.first, q.seen)} {y = (p.first, p.seen ++ later.seen_on.0)} (λ i. (later.log_is i, sym later.seen_on.1 i))

-- what was seen up to a revision stays
pub log_upto-later : (base : List RowData) (p q : Pass RevisionData) (at : ℕ) → Extends p q → at ≤ end_from p.first p.seen → log_upto base p at ≡ log_upto base q at
log_upto-later base p q at later within =
    let seen : take (at - p.first) p.seen ≡ take (at - p.first) q.seen =
    sym (ap (take (at - p.first)) (sym later.seen_on.1) ∙ take-append-le (at - p.first) p.seen later.seen_on.0 (omega arith)) in
    let first : take (at - p.first) q.seen ≡ take (at - q.first) q.seen = ap (λ n. take (at - n) q.seen) (sym later.log_is) in
    ap (λ (z : ℕ × List RevisionData). record { first = z.0; base = base; revisions = z.1 }) {x = (p.first, take (at - p.first) p.seen)} {y = (q.first, take (at - q.first) q.seen)} (λ i. (sym later.log_is i, (seen ∙ first) i))

-- and its end is that revision
pub log_upto-end : (base : List RowData) (p : Pass RevisionData) (at : ℕ) → p.first ≤ at → at ≤ end_from p.first p.seen → end_of (log_upto base p at) ≡ at
log_upto-end base p at begun within = omega (arith, begun, within, length-take (at - p.first) p.seen)

-- a cache stands where it stood as the pass beside it learns
pub stands-later : {S : Log → Type 0} (base : List RowData) (p q : Pass RevisionData) (at : ℕ) → Extends p q → StandsAt S base p at → StandsAt S base q at
stands-later {S} base p q at later stands = record {
  begun = subst (λ n. n ≤ at) (sym later.log_is) stands.begun;
  within = omega (arith, stands.within, later.log_is, ap length later.seen_on.1, length-append p.seen later.seen_on.0);
  stands = subst S (log_upto-later base p q at later stands.within) stands.stands;
}
