-- Laws of what clients answer.
use Rattle.std.specs.Prelude.{◌≡◌, ℕ, ◌≤◌, List, [], ◌∷◌, ◌++◌, map, Option, option_map}
use Rattle.kube_meta.specs.Rows.{RowData, behind}
use Rattle.rev_front.specs.Passes.{Pass, IsPass, Extends, end_from, looked, last_of}
use Rattle.rev_log.specs.Changes.{RevisionData}
use Rattle.rev_log.specs.Logs.{Fits}
use Rattle.up_api.specs.Sections.{log_of, Learns}
use Rattle.select_all.specs.declared.selection.Meaning.{Meaning}
use Rattle.select_all.specs.Listings.{IsListing}
use Rattle.select_all.specs.Meanings.{IsAtLeast}
use Rattle.list_rules.specs.declared.ask.ListAsk.{ListAsk}
use Rattle.list_rules.specs.Pages.{IsPage, left_of}
use Rattle.watch_rules.specs.declared.ask.WatchAsk.{WatchAsk}
use Rattle.watch_rules.specs.Bodies.{Line, Told, Lost as LostLine, TellsBody, AreOpen, opening_lines}
use Rattle.client_api.specs.declared.answers.Took.{Took}
use Rattle.client_api.specs.declared.answers.Took.TheVariants.{Events, Quiet, Lost}
use Rattle.client_api.specs.Alone.{LoadsEnd}
use Rattle.client_api.specs.Answers.{ListedData, BegunData}
use Rattle.client_api.specs.Facts.{IsOnward, HasLoaded}
use Rattle.client_api.specs.Fresh.{IsFresh}
use Rattle.client_api.specs.Lists.{IsListed, more_at}
use Rattle.client_api.specs.Starts.{IsWatchStart}
use Rattle.client_api.specs.Turns.{IsWatchTurn}

-- ---- what is known

-- what is known goes on from itself, and from what it went on from
abbrev pub OnwardsJoin : Type 0
OnwardsJoin =
    ((p : Pass RevisionData) → IsOnward p p)
    × ((p q r : Pass RevisionData) → IsOnward p q → IsOnward q r → IsOnward p r)

-- a load of this call was made, and its last one gave this
abbrev pub LooksLoad : Type 0
LooksLoad = (p m q : Pass RevisionData) (n : ℕ) → m ≡ looked p n → p.shown ≤ n → Learns m q → HasLoaded p q × (last_of q ≡ n)

-- what is seen and isn't older than a load of this call is fresh for each meaning that isn't of one revision alone
abbrev pub LoadsAreFresh : Type 0
LoadsAreFresh =
    (p m q : Pass RevisionData) (n at : ℕ) (meaning : Meaning) → m ≡ looked p n → p.shown ≤ n → Learns m q →
    n ≤ at → at ≤ end_from q.first q.seen → IsAtLeast meaning at → IsFresh p meaning at q

-- ---- lists

-- a list's answer is the page of a listing behind the ask's key, with a token of the page behind it where there is one
pub record IsPageOf (list : List RowData) (ask : ListAsk) (listed : ListedData) : Type 0 where
  pub next : Option (List ℕ)
  pub page : IsPage list ask.after (record { limit = ask.limit; rows = listed.rows; next = next })
  pub more_is : listed.more ≡ option_map (more_at ask listed.rev (left_of ask.limit (behind ask.after list))) next

-- Lists of one selection at one revision, whoever asks for the later one, are pages of one listing.
pub record AreOfOneList (base : List RowData) (ask other : ListAsk) (listed later : ListedData) (r : Pass RevisionData) : Type 0 where
  pub list : List RowData
  pub listing : IsListing (log_of base r) other.selection later.rev list
  pub first : IsPageOf list ask listed
  pub second : IsPageOf list other later

abbrev pub ListsAgree : Type 0
ListsAgree =
    (base : List RowData) (p q o r : Pass RevisionData) (ask other : ListAsk) (listed later : ListedData) →
    IsListed base p ask listed q → Extends q r → IsListed base o other later r →
    other.selection ≡ ask.selection → later.rev ≡ listed.rev → AreOfOneList base ask other listed later r

-- ---- watches

-- the lines of a turn: its events; none where it is quiet; or the error of a loss
abbrev pub turn_lines : Took → List Line
turn_lines (Events from upto lines) = map Told lines.items
turn_lines (Quiet upto reached) = []
turn_lines (Lost at floor) = LostLine at floor ∷ []

-- the position of a watch after a turn: the revision up to which all is told
abbrev pub position_after : Took → ℕ → ℕ
position_after (Events from upto lines) position = upto
position_after (Quiet upto reached) position = upto
position_after (Lost at floor) position = position

-- the turn leaves the watch standing: it isn't lost
abbrev pub IsLasting : Took → Type 0
IsLasting (Events from upto lines) = Unit {0}
IsLasting (Quiet upto reached) = Unit {0}
IsLasting (Lost at floor) = ⊥

-- The opening of a watch that begins tells a lawful body.
abbrev pub StartsTell : Type 0
StartsTell =
    (base : List RowData) (window : ℕ) (p q : Pass RevisionData) (ask : WatchAsk) (begun : BegunData) →
    IsWatchStart base p ask begun q →
    let lines : List Line = opening_lines ask begun.at begun.rows in
    TellsBody (log_of base q) q.floor window ask begun.at lines begun.at × AreOpen lines

-- The lines of a lawful body, and then those of a turn, are those of a lawful body, which has reached the new position;
-- and it goes on unless it is lost.
abbrev pub TurnsTell : Type 0
TurnsTell =
    (base : List RowData) (window : ℕ) (p q : Pass RevisionData) (ask : WatchAsk) (at : ℕ) (lines : List Line) (position : ℕ) (took : Took) →
    Extends p q → TellsBody (log_of base p) p.floor window ask at lines position → AreOpen lines →
    IsWatchTurn base window p (record { selection = ask.selection; position = position }) took q →
    TellsBody (log_of base q) q.floor window ask at (lines ++ turn_lines took) (position_after took position)
    × (IsLasting took → AreOpen (lines ++ turn_lines took))

-- ---- a log that nobody else holds

-- what a call's last load gave is the end of the log
abbrev pub LoadsAreEnds : Type 0
LoadsAreEnds =
    (p q : Pass RevisionData) → HasLoaded p q → LoadsEnd p q → last_of q ≡ end_from q.first q.seen
