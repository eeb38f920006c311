-- Whether the lines of a record are those of a lawful body of its watch (Kubernetes API concepts, "Efficient detection
-- of changes"; KEP-956; KEP-3157).
use Rattle.std.specs.Prelude.{◌≡◌, ℕ, ◌≤◌, ◌⊎◌, List, ◌++◌, length, take, map}
use Rattle.meta_view.specs.declared.form.Form.TheVariants.{Whole}
use Rattle.rev_log.specs.Logs.{Log, end_of}
use Rattle.select_all.specs.declared.selection.Meaning.{Meaning}
use Rattle.select_all.specs.Meanings.{IsAtLeast}
use Rattle.watch_record.specs.declared.records.Record.{Record}
use Rattle.watch_rules.specs.Bodies.{Line, TellsBody}
use Rattle.watch_rules.specs.declared.starts.Start.{Start}
use Rattle.watch_rules.specs.declared.starts.Start.TheVariants.{FromState, FromHere, FromRevision}
use Rattle.watch_lines.specs.Texts.{line_text}
use Rattle.body_check.specs.declared.judging.Checked.{Checked}
use Rattle.body_check.specs.declared.judging.Checked.TheVariants.{Lawful, Unlawful}
use Rattle.body_check.specs.Losses.{log_from}

-- the log of a record
abbrev pub record_log : Record → Log
record_log case = log_from case.first case.log.items

-- ---- where the ask lets a body begin

-- at the revision that is asked for, reached or not, or at any of the log that is new enough
abbrev pub IsAllowed : Log → Start → ℕ → Type 0
IsAllowed log (FromState meaning) at = (log.first ≤ at) × (at ≤ end_of log) × IsAtLeast meaning at
IsAllowed log (FromHere meaning) at = (log.first ≤ at) × (at ≤ end_of log) × IsAtLeast meaning at
IsAllowed log (FromRevision revision) at = at ≡ revision

-- a body of the recorded watch may begin at the revision: what it asks for and its log allow that
abbrev pub MayStart : Record → ℕ → Type 0
MayStart case at = IsAllowed (record_log case) case.ask.start at

-- ---- texts of bodies

-- The texts are those of a lawful body that begins at `at` and reaches p.
pub record IsToldBy (case : Record) (at : ℕ) (texts : List (List ℕ)) (p : ℕ) : Type 0 where
  pub lines : List Line
  pub tells : TellsBody (record_log case) case.floor case.window case.ask at lines p
  pub texts_are : texts ≡ map (line_text Whole case.ask.selection.resource) lines

-- They are the first ones of such a body.
abbrev pub IsBegunBy : Record → ℕ → List (List ℕ) → Type 0
IsBegunBy case at texts = (more : List (List ℕ)) × (p : ℕ) × IsToldBy case at (texts ++ more) p

-- ---- the judgement

-- The lines are those of a lawful body. This is the least start of one, and the least position that one from there
-- reaches.
pub record IsLawfulFrom (case : Record) (at to : ℕ) : Type 0 where
  pub allowed : MayStart case at
  pub told : IsToldBy case at case.lines.items to
  pub least_start : (other p : ℕ) → MayStart case other → IsToldBy case other case.lines.items p → at ≤ other
  pub least_position : (p : ℕ) → IsToldBy case at case.lines.items p → to ≤ p

-- They are those of none. This is the greatest number of first lines that begin one, or 0 where no start is allowed.
pub record IsUnlawfulAt (case : Record) (n : ℕ) : Type 0 where
  pub none : (at p : ℕ) → MayStart case at → IsToldBy case at case.lines.items p → ⊥
  pub within : n ≤ length case.lines.items
  pub begun : (n ≡ 0) ⊎ ((at : ℕ) × MayStart case at × IsBegunBy case at (take n case.lines.items))
  pub greatest : (at m : ℕ) → MayStart case at → m ≤ length case.lines.items → IsBegunBy case at (take m case.lines.items) → m ≤ n

-- the record is judged rightly: as lawful, with the least start and the least position of its lines; or as unlawful,
-- with the greatest number of first lines that begin a lawful body
abbrev pub IsJudged : Record → Checked → Type 0
IsJudged case (Lawful at to) = IsLawfulFrom case at to
IsJudged case (Unlawful line) = IsUnlawfulAt case line

-- a record has one judgement
abbrev pub JudgementsAreOne : Type 0
JudgementsAreOne = (case : Record) (x y : Checked) → IsJudged case x → IsJudged case y → x ≡ y
