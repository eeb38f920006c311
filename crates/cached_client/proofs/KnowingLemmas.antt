-- Passes of one log that go on, and that meet.
use Rattle.std.proofs.Common.{◌≡◌, ℕ, ◌-◌, ◌≤◌, List, ◌++◌, take, sym, ap, subst, ◌∙◌, arith}
use Rattle.std.proofs.lemmas.List.{take-append-le}
use Rattle.kube_meta.specs.Rows.{RowData}
use Rattle.rev_front.specs.Passes.{Pass, Extends, Met, end_from}
use Rattle.rev_front.proofs.Beginnings.{prefix_trans, prefix_length}
use Rattle.rev_log.specs.Changes.{RevisionData}
use Rattle.rev_log.specs.Logs.{Log}
use Rattle.up_api.specs.Sections.{StandsAt, log_of, log_upto}
use Rattle.cached_client.specs.Knowing.{KnowsAllOf}

-- ---- what goes on

pub extends_knows : (p q : Pass RevisionData) → Extends p q → KnowsAllOf p q
extends_knows p q later = record {
  log_is = later.log_is;
  seen_on = later.seen_on;
  shown_on = later.shown_on;
  floor_on = later.floor_on;
  gen_on = later.gen_on;
}

pub knows_join : (o p q : Pass RevisionData) → KnowsAllOf o p → KnowsAllOf p q → KnowsAllOf o q
knows_join o p q first second = record {
  log_is = second.log_is ∙ first.log_is;
  seen_on = prefix_trans o.seen p.seen q.seen first.seen_on second.seen_on;
  shown_on = omega (arith, first.shown_on, second.shown_on);
  floor_on = omega (arith, first.floor_on, second.floor_on);
  gen_on = omega (arith, first.gen_on, second.gen_on);
}

pub knows_on : (o p q : Pass RevisionData) → KnowsAllOf o p → Extends p q → KnowsAllOf o q
knows_on o p q first later = knows_join o p q first (extends_knows p q later)

-- ---- what meets

-- the one that was met is known
pub met_theirs : (p o q : Pass RevisionData) → p.first ≡ o.first → Met p o q → KnowsAllOf o q
met_theirs p o q one met = record {
  log_is = ap (λ (x : Pass RevisionData). x.first) met.is ∙ one;
  seen_on = met.theirs;
  shown_on = omega (arith, ap (λ (x : Pass RevisionData). x.shown) met.is);
  floor_on = omega (arith, ap (λ (x : Pass RevisionData). x.floor) met.is);
  gen_on = omega (arith, ap (λ (x : Pass RevisionData). x.gen) met.is);
}

-- ---- a log that is seen, seen by whoever knows as much

pub within-known : (o q : Pass RevisionData) (at : ℕ) → KnowsAllOf o q → at ≤ end_from o.first o.seen → at ≤ end_from q.first q.seen
within-known o q at knows within = omega (arith, within, knows.log_is, prefix_length o.seen q.seen knows.seen_on)

-- what was seen up to a revision
log-known : (base : List RowData) (o q : Pass RevisionData) (at : ℕ) → KnowsAllOf o q → at ≤ end_from o.first o.seen → log_upto base o at ≡ log_upto base q at
log-known base o q at knows within =
    let seen : take (at - o.first) o.seen ≡ take (at - o.first) q.seen =
    sym (ap (take (at - o.first)) (sym knows.seen_on.1) ∙ take-append-le (at - o.first) o.seen knows.seen_on.0 (omega arith)) in
    let first : take (at - o.first) q.seen ≡ take (at - q.first) q.seen = ap (λ n. take (at - n) q.seen) (sym knows.log_is) in
    ap (λ (z : ℕ × List RevisionData). record { first = z.0; base = base; revisions = z.1 }) {x = (o.first, take (at - o.first) o.seen)} {y = (q.first, take (at - q.first) q.seen)} (λ i. (sym knows.log_is i, (seen ∙ first) i))

-- a cache stands for it there too
pub stands_known : {S : Log → Type 0} (base : List RowData) (o q : Pass RevisionData) (at : ℕ) → KnowsAllOf o q → StandsAt S base o at → StandsAt S base q at
stands_known {S} base o q at knows stands = record {
  begun = subst (λ n. n ≤ at) (sym knows.log_is) stands.begun;
  within = within-known o q at knows stands.within;
  stands = subst S (log-known base o q at knows stands.within) stands.stands;
}

-- the log goes on from the one that was seen
pub log_grown : (base : List RowData) (o q : Pass RevisionData) (knows : KnowsAllOf o q) → log_of base q ≡ record (log_of base o) { revisions = o.seen ++ knows.seen_on.0 }
log_grown base o q knows =
    ap (λ (z : ℕ × List RevisionData). record { first = z.0; base = base; revisions = z.1 }) {x = (q.first, q.seen)} {y = (o.first, o.seen ++ knows.seen_on.0)} (λ i. (knows.log_is i, sym knows.seen_on.1 i))
