-- Revisions of a peer that follow a log, and the quiet ones between them.
use Rattle.std.proofs.Common.{◌≡◌, ℕ, ◌+◌, ◌-◌, ◌≤◌, List, [], ◌∷◌, ◌++◌, length, append_assoc, length-append, sym, ap, ◌∙◌, arith}
use Rattle.rev_front.specs.Passes.{Authored, Whole, credited, quiets, revision as reached}
use Rattle.rev_log.specs.Changes.{RevisionData}
use Rattle.rev_log.specs.Logs.{quiet_at}
use Rattle.up_store.specs.Hearing.{AreAscending, extended, filled}
use Rattle.up_store.proofs.ChangedLemmas.{quiets-length}

-- what an author committed in three steps
pub credited-thrice : (a : Authored) (x y z n : ℕ) → x + y + z ≡ n → credited (credited (credited a x) y) z ≡ credited a n
credited-thrice a x y z n is =
    let all : a.own + x + y + z ≡ a.own + n = omega (arith, is) in
    ap (λ (k : ℕ). record a { own = k }) all

pub ascending-end : (from : ℕ) (revisions : List RevisionData) (to : ℕ) → AreAscending from revisions to → from ≤ to
ascending-end from [] to is = is
ascending-end from (r ∷ rest) to is = omega (arith, is.0, ascending-end r.rev rest to is.2)

pub filled-end : (from : ℕ) (revisions : List RevisionData) (to : ℕ) → AreAscending from revisions to → from + length (filled from revisions to) ≡ to
filled-end from [] to is = omega (arith, is, quiets-length from (to - from))
filled-end from (r ∷ rest) to is =
    omega (arith, is.0, quiets-length from (r.rev - from - 1), length-append (quiets quiet_at from (r.rev - from - 1)) (r ∷ filled r.rev rest to), filled-end r.rev rest to is.2)

pub reached-filled : (w after : Whole RevisionData) (from : ℕ) (revisions : List RevisionData) (to floor : ℕ) → from ≡ reached w → after ≡ extended w (filled from revisions to) floor → AreAscending from revisions to →
    reached after ≡ to
reached-filled w after from revisions to floor end is rising =
    ap reached is ∙ omega (arith, end, length-append w.log (filled from revisions to), filled-end from revisions to rising)

-- the log passed over quiet ones
pub reached-quiet : (w after : Whole RevisionData) (upto : ℕ) → after ≡ record w { log = w.log ++ quiets quiet_at (reached w) (upto - reached w) } → reached w ≤ upto → reached after ≡ upto
reached-quiet w after upto is onward =
    ap reached is ∙ omega (arith, onward, length-append w.log (quiets quiet_at (reached w) (upto - reached w)), quiets-length (reached w) (upto - reached w))

-- and one more is added
pub reached-more : (w after : Whole RevisionData) (r : RevisionData) → after ≡ record w { log = w.log ++ r ∷ [] } → reached after ≡ reached w + 1
reached-more w after r is = ap reached is ∙ omega (arith, length-append w.log (r ∷ []))

-- so the rest is left
pub log-more : (w mid after all : Whole RevisionData) (r : RevisionData) (more rest : List RevisionData) (to : ℕ) →
    mid ≡ record w { log = w.log ++ quiets quiet_at (reached w) (r.rev - 1 - reached w) } → after ≡ record mid { log = mid.log ++ r ∷ [] } → reached after ≡ r.rev → rest ≡ r ∷ more →
    record w { log = w.log ++ filled (reached w) rest to } ≡ all → record after { log = after.log ++ filled (reached after) more to } ≡ all
log-more w mid after all r more rest to passed is number first so_far =
    let quiet : List RevisionData = quiets quiet_at (reached w) (r.rev - 1 - reached w) in
    let left : List RevisionData = filled r.rev more to in
    let count : r.rev - 1 - reached w ≡ r.rev - reached w - 1 = omega arith in
    ap (λ n. record after { log = after.log ++ filled n more to }) number
    ∙ ap (λ (v : Whole RevisionData). record v { log = v.log ++ left }) (is ∙ ap (λ (v : Whole RevisionData). record v { log = v.log ++ r ∷ [] }) passed)
    ∙ ap (λ xs. record w { log = xs }) (append_assoc (w.log ++ quiet) (r ∷ []) left ∙ append_assoc w.log quiet (r ∷ left))
    ∙ ap (λ n. record w { log = w.log ++ (quiets quiet_at (reached w) n ++ r ∷ left) }) count
    ∙ ap (λ xs. record w { log = w.log ++ filled (reached w) xs to }) (sym first)
    ∙ so_far
