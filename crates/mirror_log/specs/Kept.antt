-- What the fields of a mirror's log keep.
use Rattle.std.specs.Prelude.{◌≡◌, ◌≤◌, Bool, true, List}
use Rattle.kube_meta.specs.Rows.{RowData}
use Rattle.rev_front.specs.Passes.{Pass, end_from}
use Rattle.rev_log.specs.Changes.{RevisionData}
use Rattle.rev_log.specs.Logs.{IsLog}
use Rattle.up_api.specs.Sections.{log_upto}
use Rattle.mirror_log.specs.Intakes.{IntakeData, IsIntake, IsAtEnd}

-- The store is a mirror's. The pass has seen it up to the log's end at least; what the store has up to there is a log, and
-- what is taken in is an intake that stands at its end.
pub record Holds (base : List RowData) (mirror : Bool) (told : Pass RevisionData) (intake : IntakeData) : Type 0 where
  pub a_mirror : mirror ≡ true
  pub begun : told.first ≤ intake.to
  pub seen : intake.to ≤ end_from told.first told.seen
  pub log : IsLog (log_upto base told intake.to)
  pub lawful : IsIntake intake
  pub at : IsAtEnd intake.selection.resource intake (log_upto base told intake.to)
