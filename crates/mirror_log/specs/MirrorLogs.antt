-- The log of a mirror, and what a line of its peer's watch makes of it.
use Rattle.std.specs.Prelude.{◌≡◌, ℕ, ◌+◌, ◌<◌, ◌≤◌, ◌==◌, if◌then◌else◌, List, [], ◌∷◌, ◌++◌, is_some, Option, Some, None, Result, Ok, Err}
use Rattle.rev_front.specs.Passes.{Pass, end_from}
use Rattle.rev_log.specs.Changes.{RevisionData}
use Rattle.rev_log.specs.Logs.{Log, end_of, grown}
use Rattle.select_all.specs.declared.selection.Selection.{Selection}
use Rattle.select_all.specs.Streams.{TransitionData}
use Rattle.watch_rules.specs.Bodies.{Line}
use Rattle.mirror_law.specs.Following.{upto_of, kept_after}
use Rattle.mirror_law.specs.Mirrors.{AreToldBy, IsRevisionTold}
use Rattle.mirror_law.specs.Taking.{row_before}
use Rattle.up_store.specs.declared.hearing.HearNo.{HearNo}
use Rattle.up_store.specs.declared.hearing.HearNo.TheVariants as hear
use Rattle.mirror_log.specs.declared.take_refusal.TakeNo.{TakeNo}
use Rattle.mirror_log.specs.declared.refusal.MirrorNo.{MirrorNo}
use Rattle.mirror_log.specs.declared.refusal.MirrorNo.TheVariants.{Refused, Passed, Memory}

-- whose lines it hears, how many revisions without a line may lie before one, what its pass knows of the store, its log, which is a beginning of the store's, and the lines of the
-- revision behind that log's end, as they came
pub record MirrorLogData : Type 0 where
  pub selection : Selection
  pub most_gap : ℕ
  pub told : Pass RevisionData
  pub log : Log
  pub kept : List TransitionData

-- ---- what a line makes of it

-- the log grew by revisions of what was kept, each of its own
pub record Grows (old : MirrorLogData) (log : Log) : Type 0 where
  pub more : List RevisionData
  pub log_is : log ≡ grown old.log more
  pub told_by : AreToldBy old.selection.resource old.kept (end_of old.log) more

-- A line was taken whole: all revisions are committed up to which it says that all was told, and no other; an event is kept
-- behind those of its revision, and after a bookmark nothing is.
pub record Takes (old : MirrorLogData) (line : Line) (new : MirrorLogData) : Type 0 where
  pub selection : new.selection ≡ old.selection
  pub most_gap : new.most_gap ≡ old.most_gap
  pub grows : Grows old new.log
  pub reached : end_of new.log ≡ upto_of line
  pub kept : new.kept ≡ kept_after old.kept line

-- It was taken in part: some of these revisions are committed.
pub record TakesSome (old : MirrorLogData) (line : Line) (new : MirrorLogData) : Type 0 where
  pub selection : new.selection ≡ old.selection
  pub most_gap : new.most_gap ≡ old.most_gap
  pub grows : Grows old new.log
  pub within : end_of new.log ≤ upto_of line

-- the revision that the store has reached, as the pass knows it
abbrev pub seen_to : MirrorLogData → ℕ
seen_to m = end_from m.told.first m.told.seen

-- what is answered to a line, by what is wrong with it
abbrev pub Hears : MirrorLogData → Option TakeNo → Line → Result ℕ MirrorNo → MirrorLogData → Type 0
Hears old fault line (Ok to) new = (fault ≡ None) × Takes old line new × (to ≡ end_of new.log)
Hears old fault line (Err (Refused why)) new = (fault ≡ Some why) × (new ≡ old)
Hears old fault line (Err (Passed at)) new = (fault ≡ None) × TakesSome old line new × (at ≡ seen_to new) × (end_of new.log < at)
Hears old fault line (Err Memory) new = (fault ≡ None) × TakesSome old line new

-- ---- what an event makes of it that is alone in its revision

-- the log grew by revisions of what was kept and of the event, each of its own
pub record GrowsWith (old : MirrorLogData) (t : TransitionData) (log : Log) : Type 0 where
  pub more : List RevisionData
  pub log_is : log ≡ grown old.log more
  pub told_by : AreToldBy old.selection.resource (old.kept ++ t ∷ []) (end_of old.log) more

-- It was taken whole: all revisions are committed up to its own, and no other, and nothing is kept.
pub record TakesAlone (old : MirrorLogData) (t : TransitionData) (new : MirrorLogData) : Type 0 where
  pub selection : new.selection ≡ old.selection
  pub most_gap : new.most_gap ≡ old.most_gap
  pub grows : GrowsWith old t new.log
  pub reached : end_of new.log ≡ t.rev
  pub kept : new.kept ≡ []

-- It was taken in part: some of these revisions are committed.
pub record TakesSomeAlone (old : MirrorLogData) (t : TransitionData) (new : MirrorLogData) : Type 0 where
  pub selection : new.selection ≡ old.selection
  pub most_gap : new.most_gap ≡ old.most_gap
  pub grows : GrowsWith old t new.log
  pub within : end_of new.log ≤ t.rev

-- what is answered to it, by what is wrong with it
abbrev pub HearsAlone : MirrorLogData → Option TakeNo → TransitionData → Result ℕ MirrorNo → MirrorLogData → Type 0
HearsAlone old fault t (Ok to) new = (fault ≡ None) × TakesAlone old t new × (to ≡ end_of new.log)
HearsAlone old fault t (Err (Refused why)) new = (fault ≡ Some why) × (new ≡ old)
HearsAlone old fault t (Err (Passed at)) new = (fault ≡ None) × TakesSomeAlone old t new × (at ≡ seen_to new) × (end_of new.log < at)
HearsAlone old fault t (Err Memory) new = (fault ≡ None) × TakesSomeAlone old t new

-- ---- commits

-- what was kept stays until its revision is committed
abbrev pub kept_at : MirrorLogData → ℕ → List TransitionData
kept_at old at = if at == end_of old.log then old.kept else []

-- before a revision above the end an object stands as it stood
abbrev pub StandsOn : MirrorLogData → MirrorLogData → Type 0
StandsOn old new =
    (rev : ℕ) (key : List ℕ) → end_of new.log < rev →
    is_some (row_before new.log old.selection.resource new.kept rev key) ≡ is_some (row_before old.log old.selection.resource old.kept rev key)

-- some revisions are committed
pub record Moves (old new : MirrorLogData) : Type 0 where
  pub selection : new.selection ≡ old.selection
  pub most_gap : new.most_gap ≡ old.most_gap
  pub grows : Grows old new.log
  pub kept : new.kept ≡ kept_at old (end_of new.log)
  pub stands : StandsOn old new

-- the next revision is committed
pub record MovesOne (old new : MirrorLogData) : Type 0 where
  pub selection : new.selection ≡ old.selection
  pub most_gap : new.most_gap ≡ old.most_gap
  pub revision : RevisionData
  pub told_by : IsRevisionTold old.selection.resource (end_of old.log + 1) old.kept revision
  pub log_is : new.log ≡ grown old.log (revision ∷ [])
  pub kept : new.kept ≡ []
  pub stands : StandsOn old new

-- nothing is
pub record Rests (old new : MirrorLogData) : Type 0 where
  pub selection : new.selection ≡ old.selection
  pub most_gap : new.most_gap ≡ old.most_gap
  pub log : new.log ≡ old.log
  pub kept : new.kept ≡ old.kept

-- the store's refusal of revisions
abbrev pub hear_refusal : HearNo → MirrorNo
hear_refusal (hear.Passed at) = Passed at
hear_refusal hear.Memory = Memory

-- what is answered to commits up to a revision
abbrev pub Commits : MirrorLogData → ℕ → Result (Unit {0}) MirrorNo → MirrorLogData → Type 0
Commits old upto (Ok u) new = Moves old new × (end_of new.log ≡ upto)
Commits old upto (Err (Refused why)) new = ⊥
Commits old upto (Err (Passed at)) new = Moves old new × (end_of new.log < upto) × (at ≡ seen_to new) × (end_of new.log < at)
Commits old upto (Err Memory) new = Moves old new × (end_of new.log < upto)
