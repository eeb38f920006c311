-- What one line behind an opening is.
use Rattle.std.specs.Prelude.{◌≡◌, ℕ, ◌≤◌, IsTrue, List, [], ◌∷◌, Option, MatchOption}
use Rattle.rev_log.specs.Logs.{end_of}
use Rattle.select_all.specs.Streams.{TransitionData}
use Rattle.watch_record.specs.declared.records.Record.{Record}
use Rattle.watch_rules.specs.Bodies.{Bookmark, Lost}
use Rattle.body_check.specs.declared.following.Step.{Step}
use Rattle.body_check.specs.declared.following.Step.TheVariants.{On, End, Bad}
use Rattle.body_check.specs.declared.found.Found.TheVariants.{Reached, Broken}
use Rattle.body_check.specs.declared.found.Found.{Found}
use Rattle.body_check.specs.Courses.{text_in}
use Rattle.body_check.specs.Findings.{IsFound, later}
use Rattle.body_check.specs.Judging.{record_log}
use Rattle.body_check.specs.Losses.{is_lost}
use Rattle.body_check.specs.Reading.{Course, IsUnderWay, Reads}

-- The text is a bookmark that may stand from `low` to `high`.
pub record MarksAt (case : Record) (low high : ℕ) (text : List ℕ) (at : ℕ) : Type 0 where
  pub text_is : text ≡ text_in case (Bookmark at)
  pub wanted : IsTrue case.ask.bookmarks
  pub onward : low ≤ at
  pub within : at ≤ high
  pub reached : at ≤ end_of (record_log case)

-- It is a loss there that the log bears out.
pub record LosesAt (case : Record) (low high : ℕ) (text : List ℕ) (at : ℕ) : Type 0 where
  pub floor : ℕ
  pub text_is : text ≡ text_in case (Lost at floor)
  pub onward : low ≤ at
  pub within : at ≤ high
  pub borne : IsTrue (is_lost (record_log case) case.floor case.window case.ask.selection.resource at floor)

-- the number for which a fact holds, if there is one
abbrev pub IsOneWith : (ℕ → Type 0) → Option ℕ → Type 0
IsOneWith Holds at = MatchOption at ((n : ℕ) → Holds n → ⊥) (λ n. Holds n)

-- Behind the text all is found as where these transitions are untold and the position is at least this one.
pub record GoesOn (c : Course) (rest : List TransitionData) (low : ℕ) (text : List ℕ) (more : List TransitionData) (next : ℕ) : Type 0 where
  pub found : (texts : List (List ℕ)) (r : Found) → IsFound (Reads c more next) texts r → IsFound (Reads c rest low) (text ∷ texts) (later 1 r)
  pub under_way : IsUnderWay c more next

-- It ends a body, and nothing follows.
pub record EndsAt (c : Course) (rest : List TransitionData) (low : ℕ) (text : List ℕ) (position : ℕ) : Type 0 where
  pub last : IsFound (Reads c rest low) (text ∷ []) (Reached position)
  pub followed : (other : List ℕ) (texts : List (List ℕ)) → IsFound (Reads c rest low) (text ∷ other ∷ texts) (Broken 1)

abbrev pub IsStepOf : Course → List TransitionData → ℕ → List ℕ → Step → Type 0
IsStepOf c rest low text (On more next) = GoesOn c rest low text more.now next
IsStepOf c rest low text (End position) = EndsAt c rest low text position
IsStepOf c rest low text Bad = (texts : List (List ℕ)) → IsFound (Reads c rest low) (text ∷ texts) (Broken 0)
