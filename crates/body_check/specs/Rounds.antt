-- One start after another.
use Rattle.std.specs.Prelude.{ℕ, ◌+◌}
use Rattle.watch_record.specs.declared.records.Record.{Record}
use Rattle.body_check.specs.declared.found.Found.{Found}
use Rattle.body_check.specs.declared.found.Found.TheVariants.{Reached, Broken}
use Rattle.body_check.specs.Judging.{MayStart, IsToldBy, IsLawfulFrom}
use Rattle.body_check.specs.Trials.{AreTried}

-- the starts below a revision are tried, with this best number of lines
abbrev pub IsTriedBy : Record → ℕ → ℕ → Type 0
IsTriedBy case next best = AreTried (MayStart case) (IsToldBy case) case.lines.items next best

-- the start at a revision decides, or is tried too
abbrev pub IsRoundOf : Record → ℕ → Found → Type 0
IsRoundOf case at (Reached to) = IsLawfulFrom case at to
IsRoundOf case at (Broken best) = IsTriedBy case (at + 1) best
