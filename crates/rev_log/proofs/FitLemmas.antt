-- Logs of which each revision fits its place.
use Rattle.std.proofs.Common.{ℕ, suc, ◌+◌, List, [], ◌∷◌, refl, subst, arith}
use Rattle.std.proofs.lemmas.List.Elements.{All-cons, All-nil}
use Rattle.rev_front.specs.Passes.{FitFrom}
use Rattle.rev_log.specs.Changes.{RevisionData, IsRevision}
use Rattle.rev_log.specs.Logs.{Fits, FittingLogsAreNumbered}
use Rattle.rev_log.specs.Laws.{FittingLogsAreLogs}

-- what fits behind one revision fits the places after it
rest-fits : (first : ℕ) (revision : RevisionData) (more : List RevisionData) → FitFrom Fits first (revision ∷ more) → FitFrom Fits (first + 1) more
rest-fits first revision more fit i found at = subst (λ n. Fits n found) (omega arith) (fit (suc i) found at)

pub numbered : FittingLogsAreNumbered
numbered first [] fit = (tt, All-nil IsRevision)
numbered first (revision ∷ more) fit =
    let this = fit 0 revision refl in
    let rest = numbered (first + 1) more (rest-fits first revision more fit) in
    ((omega (arith, this.0), rest.0), All-cons IsRevision revision more this.1 rest.1)

pub are_logs : FittingLogsAreLogs
are_logs log fit rising old ends =
    let both = numbered log.first log.revisions fit in
    record { base_rising = rising; base_old = old; numbered = both.0; revisions = both.1; ends = ends }
