-- Laws of what a mirror keeps.
use Rattle.std.specs.Prelude.{◌≡◌, ℕ, false, List, Option, Some, None}
use Rattle.rev_log.specs.Logs.{Log, end_of}
use Rattle.select_all.specs.declared.selection.Selection.{Selection}
use Rattle.select_all.specs.Streams.{TransitionData}
use Rattle.mirror_law.specs.Taking.{IsTakenEvent, IsTakenMark}
use Rattle.mirror_log.specs.Faults.{event_fault, mark_fault}
use Rattle.mirror_log.specs.declared.take_refusal.TakeNo.{TakeNo}
use Rattle.mirror_log.specs.declared.take_refusal.TakeNo.TheVariants.{BadLine, Order, Gap}

-- nothing is wrong, unless the line is too far behind the last
abbrev pub IsAtMostGap : Option TakeNo → Type 0
IsAtMostGap None = Unit {0}
IsAtMostGap (Some BadLine) = ⊥
IsAtMostGap (Some (Order last got)) = ⊥
IsAtMostGap (Some (Gap last got)) = Unit {0}

-- that is so of each event and each bookmark that a mirror takes, as it does the lines of a lawful body
abbrev pub TakenEventsFit : Type 0
TakenEventsFit =
    (s : Selection) (most_gap : ℕ) (m : Log) (kept : List TransitionData) (t : TransitionData) → IsTakenEvent s m kept t →
    IsAtMostGap (event_fault s most_gap m kept t)

abbrev pub TakenMarksFit : Type 0
TakenMarksFit =
    (most_gap : ℕ) (m : Log) (kept : List TransitionData) (at : ℕ) → IsTakenMark m kept at → IsAtMostGap (mark_fault most_gap (end_of m) kept at false)
