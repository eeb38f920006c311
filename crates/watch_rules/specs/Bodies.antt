-- The bodies of watches: an opening, then stretches of the log and bookmarks, and last maybe a loss (Kubernetes API
-- concepts, "Efficient detection of changes"; KEP-956; KEP-3157). A body is plain data, read beside its log and ask.
use Rattle.std.specs.Prelude.{◌≡◌, ℕ, ◌≤◌, Bool, true, false, IsTrue, List, [], ◌∷◌, ◌++◌, map, filter_map, Option, Some, None, IfSome, if◌then◌else◌}
use Rattle.std.specs.List.{list_any}
use Rattle.kube_meta.specs.Rows.{RowData}
use Rattle.rev_log.specs.Logs.{Log, end_of}
use Rattle.select_all.specs.declared.selection.Selection.{Selection}
use Rattle.select_all.specs.declared.selection.Kind.TheVariants.{Added}
use Rattle.select_all.specs.Streams.{TransitionData, transitions}
use Rattle.select_all.specs.Listings.{IsListing}
use Rattle.select_all.specs.Floors.{IsEvicted}
use Rattle.watch_rules.specs.declared.starts.Start.{Start}
use Rattle.watch_rules.specs.declared.starts.Start.TheVariants.{FromState, FromHere, FromRevision}
use Rattle.watch_rules.specs.declared.ask.WatchAsk.{WatchAsk}

-- a line of a body: ADDED, MODIFIED or DELETED; BOOKMARK; the bookmark that ends the initial events; or the ERROR
-- that the watch's revision, the first number, is below the floor of what is still known, the second
pub data Line : Type 0 where
  Told : TransitionData → Line
  Bookmark : ℕ → Line
  Closing : ℕ → Line
  Lost : ℕ → ℕ → Line

-- after the opening: the log up to a revision, or a bookmark
pub data BodyPiece : Type 0 where
  Upto : ℕ → BodyPiece
  Mark : BodyPiece

-- the revision of the start and the rows that stood then, the pieces in order, and maybe the floor of a loss
pub record Body : Type 0 where
  pub at : ℕ
  pub rows : List RowData
  pub pieces : List BodyPiece
  pub loss : Option ℕ

-- the body with one more piece
abbrev pub with_piece : Body → BodyPiece → Body
with_piece body piece = record body { pieces = body.pieces ++ piece ∷ [] }

-- ---- the position that a body has reached: the revision up to which all is told

-- the position behind these pieces, from the one before them
abbrev pub reached_by : ℕ → List BodyPiece → ℕ
reached_by from [] = from
reached_by from (Upto to ∷ more) = reached_by to more
reached_by from (Mark ∷ more) = reached_by from more

-- the position that the whole body has reached; a loss doesn't move it
abbrev pub position_of : Body → ℕ
position_of body = reached_by body.at body.pieces

-- the body with a loss at its end
abbrev pub with_loss : Body → ℕ → Body
with_loss body floor = record body { loss = Some floor }

-- the body of an opening alone
abbrev pub opened : ℕ → List RowData → Body
opened at rows = record { at = at; rows = rows; pieces = []; loss = None }

-- ---- its lines

-- an initial event: ADDED, with the row's own revision
abbrev pub initial : RowData → TransitionData
initial row = record { kind = Added; obj = row.obj; rev = row.rev }

-- the lines of the initial events, one for each row that stood at the start, in their order
abbrev pub initial_lines : List RowData → List Line
initial_lines rows = map (λ row. Told (initial row)) rows

-- the first lines of a watch: its initial events, and the bookmark at their revision where one is asked for to end them
abbrev pub opening_lines : WatchAsk → ℕ → List RowData → List Line
opening_lines ask at rows = initial_lines rows ++ (if ask.closing then Closing at ∷ [] else [])

-- a stretch tells the selection's transitions in the revisions above where it begins and up to where it ends
abbrev pub piece_lines : Log → Selection → ℕ → List BodyPiece → List Line
piece_lines log s from [] = []
piece_lines log s from (Upto to ∷ more) = map Told (transitions log s from to) ++ piece_lines log s to more
piece_lines log s from (Mark ∷ more) = Bookmark from ∷ piece_lines log s from more

-- the line of a loss, if there is one: the ERROR that tells the watch's position and the floor
abbrev pub loss_lines : ℕ → Option ℕ → List Line
loss_lines position None = []
loss_lines position (Some floor) = Lost position floor ∷ []

-- all lines of a body, in order: those of the opening, of the pieces and of a loss
abbrev pub lines_of : Log → WatchAsk → Body → List Line
lines_of log ask body = opening_lines ask body.at body.rows ++ piece_lines log ask.selection body.at body.pieces ++ loss_lines (position_of body) body.loss

-- ---- which bodies are lawful

-- a start from a state tells the rows of the listing there, which the log has reached; other starts tell none, and
-- a start from a revision is at that one, reached or not
abbrev pub IsOpening : Log → Selection → Start → ℕ → List RowData → Type 0
IsOpening log s (FromState meaning) at rows = IsListing log s at rows × (at ≤ end_of log)
IsOpening log s (FromHere meaning) at rows = (rows ≡ []) × (at ≤ end_of log)
IsOpening log s (FromRevision revision) at rows = (rows ≡ []) × (at ≡ revision)

-- stretches go on from where the body stands, up to the log's end at most; bookmarks stand only where they are
-- asked for, at a revision that the log has reached
abbrev pub ArePieces : Log → Bool → ℕ → List BodyPiece → Type 0
ArePieces log bookmarks from [] = Unit {0}
ArePieces log bookmarks from (Upto to ∷ more) = (from ≤ to) × (to ≤ end_of log) × ArePieces log bookmarks to more
ArePieces log bookmarks from (Mark ∷ more) = IsTrue bookmarks × (from ≤ end_of log) × ArePieces log bookmarks from more

-- A body of a watch, over a log with a floor of its own, where windows keep at least `low` changes. A loss is one
-- that the log bears out.
pub record IsWatchBody (log : Log) (log_floor low : ℕ) (ask : WatchAsk) (body : Body) : Type 0 where
  pub opening : IsOpening log ask.selection ask.start body.at body.rows
  pub pieces : ArePieces log ask.bookmarks body.at body.pieces
  pub lost : IfSome body.loss (λ floor. IsEvicted log log_floor low ask.selection.resource (position_of body) floor)

-- ---- what a body tells

-- the transition that a line carries
abbrev pub told_by : Line → Option TransitionData
told_by (Told transition) = Some transition
told_by (Bookmark at) = None
told_by (Closing at) = None
told_by (Lost at floor) = None

-- the transitions that lines carry, in order
abbrev pub told_in : List Line → List TransitionData
told_in lines = filter_map told_by lines

-- ---- bookmarks

-- Before a bookmark at p stand exactly the initial events and the transitions from the start up to p.
pub record IsBookmarkOf (log : Log) (ask : WatchAsk) (body : Body) (before : List Line) (p : ℕ) : Type 0 where
  pub wanted : IsTrue ask.bookmarks
  pub onward : body.at ≤ p
  pub reached : p ≤ end_of log
  pub told : told_in before ≡ map initial body.rows ++ transitions log ask.selection body.at p

-- A closing bookmark stands at the start, behind exactly the initial events.
pub record IsClosingOf (log : Log) (ask : WatchAsk) (body : Body) (before : List Line) (p : ℕ) : Type 0 where
  pub wanted : IsTrue ask.closing
  pub starts : p ≡ body.at
  pub reached : p ≤ end_of log
  pub told : before ≡ initial_lines body.rows

-- ---- lines that were written, read beside the log, its floor, the least window and the ask

-- The lines are those of a lawful body that begins at `at` and has reached p.
pub record TellsBody (log : Log) (log_floor low : ℕ) (ask : WatchAsk) (at : ℕ) (lines : List Line) (p : ℕ) : Type 0 where
  pub body : Body
  pub lawful : IsWatchBody log log_floor low ask body
  pub begins : body.at ≡ at
  pub lines_are : lines ≡ lines_of log ask body
  pub reached : p ≡ position_of body

-- They are a beginning of those of a lawful body.
abbrev pub BeginsBody : Log → ℕ → ℕ → WatchAsk → ℕ → List Line → Type 0
BeginsBody log log_floor low ask at lines = (more : List Line) × (p : ℕ) × TellsBody log log_floor low ask at (lines ++ more) p

-- a loss is the last line
abbrev pub is_loss : Line → Bool
is_loss (Told transition) = false
is_loss (Bookmark at) = false
is_loss (Closing at) = false
is_loss (Lost at floor) = true

-- the body hasn't ended by one
abbrev pub AreOpen : List Line → Type 0
AreOpen lines = list_any is_loss lines ≡ false
