-- How far a record has been walked, and what was found of it.
use Rattle.std.specs.Prelude.{◌≡◌, ℕ, ◌+◌, ◌^◌, ◌<◌, ◌≤◌, ◌⊎◌, Bool, true, false, List, [], ◌∷◌, ◌++◌, length, take, fold, All, Option, Some, None}
use Rattle.kube_meta.specs.declared.resources.Resource.TheVariants.{Pods}
use Rattle.kube_meta.specs.Resources.{same_resource}
use Rattle.kube_meta.specs.Rows.{RowData}
use Rattle.rev_log.specs.Changes.{RevisionData}
use Rattle.rev_log.specs.Logs.{Log, IsLog, end_of}
use Rattle.rev_log.specs.Rows.{Holds}
use Rattle.rev_log.specs.States.{row_at, IsStateAt}
use Rattle.select_all.specs.declared.selection.Selection.{Selection}
use Rattle.select_all.specs.Listings.{IsListing, row_told}
use Rattle.select_all.specs.Streams.{TransitionData}
use Rattle.watch_rules.specs.Bodies.{Line, TellsBody, AreOpen, told_in}
use Rattle.mirror_law.specs.Mirrors.{IsMirrorOf}
use Rattle.mirror_log.specs.Bridges.{MayBeOfOneLog, Bridges}
use Rattle.watch_record.specs.Between.{LaterData, BetweenData}
use Rattle.body_check.specs.declared.held.Held.{Held}
use Rattle.body_check.specs.declared.held.Held.TheVariants.{Left, Bad}
use Rattle.body_check.specs.declared.walk.Last.{Last}
use Rattle.body_check.specs.declared.walk.Walk.{Walk}
use Rattle.body_check.specs.Lists.{IsListedAt, TellEach, IsOfSomeLog, cut}
use Rattle.body_check.specs.Turns.{MayStand}
use Rattle.body_check.specs.Walks.{IsOwn, HasFirst, IsWalked, reach_of}

-- ---- texts

-- The last event of those that are kept.
pub record IsLastEvent (kept : List TransitionData) (last : Last) : Type 0 where
  pub before : List TransitionData
  pub event : TransitionData
  pub kept_are : kept ≡ before ++ event ∷ []
  pub key : last.key ≡ event.obj.key
  pub count : last.count ≡ length kept

abbrev pub IsLastOf : List TransitionData → Option Last → Type 0
IsLastOf kept None = kept ≡ []
IsLastOf kept (Some last) = IsLastEvent kept last

-- The texts are walked by this log, and the walk keeps what stands behind them.
pub record IsWalkOf (case : BetweenData) (texts : List (List ℕ)) (walk : Walk) (m : Log) : Type 0 where
  pub kept : List TransitionData
  pub lines : List Line
  pub tell : TellEach case.ask.selection.resource texts lines
  pub free : AreOpen lines
  pub walked : IsWalked case.ask case.from case.rows lines m kept
  pub reach : walk.to ≡ reach_of m kept
  pub within : walk.to ≤ 2 ^ 62
  pub rows : Holds walk.rows (λ key. fold (row_told key) (row_at m case.ask.selection.resource (end_of m) key) kept)
  pub last : IsLastOf kept walk.last

-- The log tells the texts, and has come to a revision; each log that has the first list and tells them, and behind them
-- lines that tell of no object, has come at least as far, and is mirrored.
pub record HearsAll (case : BetweenData) (texts : List (List ℕ)) (to : ℕ) (log : Log) : Type 0 where
  pub own : IsOwn case.ask.selection case.from case.rows log
  pub end : end_of log ≡ to
  pub log_floor : ℕ
  pub lines : List Line
  pub body : TellsBody log log_floor 0 case.ask case.from lines to
  pub tell : TellEach case.ask.selection.resource texts lines
  pub peers : (peer : Log) (floor low : ℕ) (others tail : List Line) (p : ℕ) → HasFirst case.ask.selection case.from case.rows peer →
      TellEach case.ask.selection.resource texts others → told_in tail ≡ [] → TellsBody peer floor low case.ask case.from (others ++ tail) p →
      (to ≤ p) × IsMirrorOf peer case.ask.selection case.from log

-- no log that has the first list tells these texts
abbrev pub IsToldByNone : BetweenData → List (List ℕ) → Type 0
IsToldByNone case texts =
    (peer : Log) (floor low : ℕ) (others more : List Line) (p : ℕ) → HasFirst case.ask.selection case.from case.rows peer →
    TellEach case.ask.selection.resource texts others → ¬ TellsBody peer floor low case.ask case.from (others ++ more) p

-- ---- later lists

-- they stand from a revision on, in their order
abbrev pub AreOnward : ℕ → List LaterData → Type 0
AreOnward from [] = Unit {0}
AreOnward from (list ∷ more) = (from ≤ list.at) × (list.at ≤ 2 ^ 62) × AreOnward list.at more

-- The first of the later lists are those of the log at their revisions; the others are left.
pub record HavePassed (case : BetweenData) (to : ℕ) (m : Log) (left : List LaterData) : Type 0 where
  pub gone : List LaterData
  pub parted : case.later ≡ gone ++ left
  pub listed : All (λ l. IsListedAt m case.ask.selection l.rows l.at × (l.at ≤ to)) gone
  pub onward : AreOnward to left

-- The later list with this place is the first that isn't.
pub record HasOther (case : BetweenData) (m : Log) (place : ℕ) : Type 0 where
  pub gone : List LaterData
  pub bad : LaterData
  pub behind : List LaterData
  pub parted : case.later ≡ gone ++ bad ∷ behind
  pub placed : place ≡ bad.place
  pub listed : All (λ l. IsListedAt m case.ask.selection l.rows l.at) gone
  pub begun : case.from ≤ bad.at
  pub reached : bad.at ≤ end_of m
  pub differs : ¬ IsListing m case.ask.selection bad.at bad.rows

abbrev pub AreHeld : BetweenData → ℕ → Log → Held → Type 0
AreHeld case to m (Left left) = HavePassed case to m left.now
AreHeld case to m (Bad place) = HasOther case m place

-- ---- lists above

-- The list may follow rows that stood at a revision, by these revisions.
pub record CanFollow (s : Selection) (from : ℕ) (old : List RowData) (list : LaterData) : Type 0 where
  pub stand : MayStand s list.at list.rows
  pub revisions : List RevisionData
  pub bridges : Bridges Pods from old list.at list.rows revisions

-- it can't
abbrev pub CannotFollow : Selection → ℕ → List RowData → LaterData → Type 0
CannotFollow s from old list = MayStand s list.at list.rows → ¬ MayBeOfOneLog from old list.at list.rows

-- the place of the first list that can't follow those before it, if there is one
abbrev pub IsFirstAgainst : Selection → ℕ → List RowData → List LaterData → Option ℕ → Type 0
IsFirstAgainst s from old [] found = found ≡ None
IsFirstAgainst s from old (list ∷ more) found =
    (CanFollow s from old list × IsFirstAgainst s list.at list.rows more found) ⊎ (CannotFollow s from old list × (found ≡ Some list.place))

-- The log tells all texts and has the first of the later lists, and these rows stand at its end; as in each log that
-- does.
pub record ReachesList (case : BetweenData) (to : ℕ) (gone : List LaterData) (at : ℕ) (old : List RowData) (m : Log) : Type 0 where
  pub is : IsLog m
  pub end : end_of m ≡ at
  pub state : IsStateAt m case.ask.selection.resource at old
  pub first : IsListedAt m case.ask.selection case.rows case.from
  pub listed : All (λ l. IsListedAt m case.ask.selection l.rows l.at) gone
  pub log_floor : ℕ
  pub lines : List Line
  pub body : TellsBody m log_floor 0 case.ask case.from lines to
  pub tell : TellEach case.ask.selection.resource case.texts lines
  pub peers : (more : List LaterData) (p : ℕ) (other : IsOfSomeLog (cut case (length case.texts) (gone ++ more)) p) →
      (other.log.first ≤ at) × IsListing other.log case.ask.selection at old

-- ---- what the judge's parts find

-- revisions lead from the one list to the other, or none do
abbrev pub IsBridged : ℕ → List RowData → ℕ → List RowData → Bool → Type 0
IsBridged from old at rows true = (revisions : List RevisionData) × Bridges Pods from old at rows revisions
IsBridged from old at rows false = ¬ MayBeOfOneLog from old at rows

-- a list may follow, or it can't
abbrev pub ComesAfter : Selection → ℕ → List RowData → LaterData → Bool → Type 0
ComesAfter s from old list true = CanFollow s from old list
ComesAfter s from old list false = CannotFollow s from old list

-- some log has the list, or none
abbrev pub MayBegin : Selection → ℕ → List RowData → Bool → Type 0
MayBegin s from rows true = MayStand s from rows × ((s.resource ≡ Pods) ⊎ CanFollow s 0 [] (record { rows = rows; at = from; place = 0 }))
MayBegin s from rows false = MayStand s from rows → (same_resource s.resource Pods ≡ false) × ¬ MayBeOfOneLog 0 [] from rows

-- The texts are walked, and so are the later lists.
pub record IsWalking (case : BetweenData) (texts : List (List ℕ)) (walk : Walk) : Type 0 where
  pub log : Log
  pub is : IsWalkOf case texts walk log
  pub held : AreHeld case walk.to log walk.held

-- A log tells the texts, and has what the walk keeps.
pub record HasHeard (case : BetweenData) (texts : List (List ℕ)) (walk : Walk) : Type 0 where
  pub log : Log
  pub heard : HearsAll case texts walk.to log
  pub rows : Holds walk.rows (row_at log case.ask.selection.resource walk.to)
  pub held : AreHeld case walk.to log walk.held
  pub within : walk.to ≤ 2 ^ 62

-- So many texts are heard, and nothing may come behind them.
pub record AreWalked (case : BetweenData) (heard : ℕ) (walk : Walk) : Type 0 where
  pub within : heard ≤ length case.texts
  pub has : HasHeard case (take heard case.texts) walk
  pub refused : heard < length case.texts → IsToldByNone case (take (heard + 1) case.texts)
