-- Whether some log tells all that a record of an unknown log has: the list at the revision of a watch, the lines of the
-- watch's body, and the later lists (Kubernetes API concepts, "Efficient detection of changes", "Resource versions").
use Rattle.std.specs.Prelude.{◌≡◌, ℕ, zero, suc, ◌≤◌, nat_le, List, [], ◌∷◌, ◌++◌, length, take, All, count_by}
use Rattle.kube_meta.specs.Rows.{RowData}
use Rattle.kube_meta.specs.declared.resources.Resource.{Resource}
use Rattle.rev_log.specs.Logs.{Log, IsLog, end_of}
use Rattle.select_all.specs.declared.selection.Selection.{Selection}
use Rattle.select_all.specs.Listings.{IsListing}
use Rattle.watch_lines.specs.Laws.{as_read}
use Rattle.watch_lines.specs.Values.{TellsByValue}
use Rattle.watch_record.specs.Between.{BetweenData, LaterData, IsBetweenRead}
use Rattle.watch_rules.specs.Bodies.{Line, TellsBody}
use Rattle.body_check.specs.declared.verdict.Verdict.{Verdict}
use Rattle.body_check.specs.declared.verdict.Verdict.TheVariants.{Lawful, BadLine, BadList}

-- The rows are those that the selection has at a revision of the log.
pub record IsListedAt (log : Log) (s : Selection) (rows : List RowData) (at : ℕ) : Type 0 where
  pub begun : log.first ≤ at
  pub reached : at ≤ end_of log
  pub listing : IsListing log s at rows

-- the texts tell these lines, one each
abbrev pub TellEach : Resource → List (List ℕ) → List Line → Type 0
TellEach resource [] [] = Unit {0}
TellEach resource [] (line ∷ lines) = ⊥
TellEach resource (text ∷ texts) [] = ⊥
TellEach resource (text ∷ texts) (line ∷ lines) = TellsByValue resource text (as_read line) × TellEach resource texts lines

-- Some log tells all of it: each list is what it has at the list's revision, and the texts are those of a lawful body of
-- the watch, which has reached p.
pub record IsOfSomeLog (case : BetweenData) (p : ℕ) : Type 0 where
  pub log : Log
  pub log_floor : ℕ
  pub low : ℕ
  pub lawful : IsLog log
  pub first : IsListedAt log case.ask.selection case.rows case.from
  pub later : All (λ list. IsListedAt log case.ask.selection list.rows list.at) case.later
  pub lines : List Line
  pub body : TellsBody log log_floor low case.ask case.from lines p
  pub texts : TellEach case.ask.selection.resource case.texts lines

-- the first n lines, and these later lists, of a record
abbrev pub cut : BetweenData → ℕ → List LaterData → BetweenData
cut case n later = record case { texts = take n case.texts; later = later }

-- no log tells it
abbrev pub IsOfNone : BetweenData → Type 0
IsOfNone case = (p : ℕ) → ¬ IsOfSomeLog case p

-- how many later lists stand at or below a revision
abbrev pub held_at : ℕ → List LaterData → ℕ
held_at to later = count_by (λ list. nat_le list.at to) later

-- ---- the judgement

-- Some log tells all. This is the least position that the body may have reached, and so many later lists stand at or
-- below it.
pub record IsAllTold (case : BetweenData) (from to held : ℕ) : Type 0 where
  pub begins : from ≡ case.from
  pub told : IsOfSomeLog case to
  pub least : (p : ℕ) → IsOfSomeLog case p → to ≤ p
  pub held_is : held ≡ held_at to case.later

-- Some log has the first list, but none tells all lines too. Of these the first n, and no more, are told by one.
pub record IsBrokenBy (case : BetweenData) (n : ℕ) : Type 0 where
  pub none : IsOfNone (cut case (length case.texts) [])
  pub within : n ≤ length case.texts
  pub position : ℕ
  pub begun : IsOfSomeLog (cut case n []) position
  pub greatest : (m p : ℕ) → m ≤ length case.texts → IsOfSomeLog (cut case m []) p → m ≤ n

-- Some log tells the first list, all lines and these later lists, but none tells the next one too, by revision; it has
-- this place.
pub record IsAgainst (case : BetweenData) (place : ℕ) : Type 0 where
  pub before : List LaterData
  pub bad : LaterData
  pub behind : List LaterData
  pub later_are : case.later ≡ before ++ bad ∷ behind
  pub place_is : place ≡ bad.place
  pub position : ℕ
  pub told : IsOfSomeLog (cut case (length case.texts) before) position
  pub none : IsOfNone (cut case (length case.texts) (before ++ bad ∷ []))

-- the first list, with place 0, is that of no log; or a later one has none with what comes before it
abbrev pub IsBadAt : BetweenData → ℕ → Type 0
IsBadAt case zero = IsOfNone (cut case 0 [])
IsBadAt case (suc n) = IsAgainst case (suc n)

-- the record is judged rightly: as lawful, where there is a log of which all of it is true; or as unlawful, by the first
-- line, or else the first list, with which there is none
abbrev pub IsJudged : BetweenData → Verdict → Type 0
IsJudged case (Lawful from to held) = IsAllTold case from to held
IsJudged case (BadLine n) = IsBrokenBy case n
IsJudged case (BadList place) = IsBadAt case place

-- a record that was read has one judgement
abbrev pub JudgementsAreOne : Type 0
JudgementsAreOne = (case : BetweenData) (x y : Verdict) → IsBetweenRead case → IsJudged case x → IsJudged case y → x ≡ y
