-- Laws of the bodies of watches.
use Rattle.std.specs.Prelude.{◌≡◌, ℕ, ◌≤◌, [], ◌∷◌, ◌++◌, map, max, List, None, IsTrue}
use Rattle.kube_meta.specs.Rows.{RowData}
use Rattle.rev_log.specs.Changes.{RevisionData}
use Rattle.rev_log.specs.Logs.{Log, grown, end_of}
use Rattle.select_all.specs.Streams.{transitions}
use Rattle.select_all.specs.Floors.{IsEvicted}
use Rattle.watch_rules.specs.declared.ask.WatchAsk.{WatchAsk}
use Rattle.watch_rules.specs.Bodies.{Line, Told, Bookmark, Closing, Lost, BodyPiece, Body, with_piece, with_loss, opened, IsOpening, ArePieces, IsWatchBody, initial, opening_lines, position_of, piece_lines, lines_of, told_in, IsBookmarkOf, IsClosingOf, TellsBody, BeginsBody, AreOpen}

-- The transitions that a body's lines carry are its initial events and then exactly those from its start to its
-- position: none is left out, told twice or out of its order.
abbrev pub BodiesTellTheStream : Type 0
BodiesTellTheStream =
    (log : Log) (log_floor low : ℕ) (ask : WatchAsk) (body : Body) → IsWatchBody log log_floor low ask body →
    told_in (lines_of log ask body) ≡ map initial body.rows ++ transitions log ask.selection body.at (position_of body)

-- A body's position is never below its start, and above the log's end only where it is still the start.
abbrev pub PositionsRise : Type 0
PositionsRise =
    (log : Log) (log_floor low : ℕ) (ask : WatchAsk) (body : Body) → IsWatchBody log log_floor low ask body →
    (body.at ≤ position_of body) × (position_of body ≤ max body.at (end_of log))

-- A body stays one, of the same lines, as the log grows and its own floor rises.
abbrev pub BodiesStay : Type 0
BodiesStay =
    (log : Log) (more : List RevisionData) (log_floor later_floor low : ℕ) (ask : WatchAsk) (body : Body) →
    log_floor ≤ later_floor → IsWatchBody log log_floor low ask body →
    IsWatchBody (grown log more) later_floor low ask body × (lines_of (grown log more) ask body ≡ lines_of log ask body)

-- An opening is a body that has reached its start.
abbrev pub BodiesBegin : Type 0
BodiesBegin =
    (log : Log) (log_floor low : ℕ) (ask : WatchAsk) (at : ℕ) (rows : List RowData) → IsOpening log ask.selection ask.start at rows →
    IsWatchBody log log_floor low ask (opened at rows) × (lines_of log ask (opened at rows) ≡ opening_lines ask at rows)

-- A body that hasn't ended by a loss goes on by any lawful piece: what it has told stays, and the piece's lines follow.
abbrev pub BodiesGoOn : Type 0
BodiesGoOn =
    (log : Log) (log_floor low : ℕ) (ask : WatchAsk) (body : Body) (piece : BodyPiece) →
    body.loss ≡ None → IsWatchBody log log_floor low ask body → ArePieces log ask.bookmarks (position_of body) (piece ∷ []) →
    IsWatchBody log log_floor low ask (with_piece body piece)
    × (lines_of log ask (with_piece body piece) ≡ lines_of log ask body ++ piece_lines log ask.selection (position_of body) (piece ∷ []))

-- It ends by a loss that the log bears out, whose line is the last.
abbrev pub BodiesEnd : Type 0
BodiesEnd =
    (log : Log) (log_floor low : ℕ) (ask : WatchAsk) (body : Body) (floor : ℕ) →
    body.loss ≡ None → IsWatchBody log log_floor low ask body → IsEvicted log log_floor low ask.selection.resource (position_of body) floor →
    IsWatchBody log log_floor low ask (with_loss body floor)
    × (lines_of log ask (with_loss body floor) ≡ lines_of log ask body ++ Lost (position_of body) floor ∷ [])

-- Before a bookmark at p stand exactly the initial events and the transitions up to p, which the log has reached; and
-- bookmarks were asked for. So a client that goes on from there misses nothing.
abbrev pub BookmarksTellAll : Type 0
BookmarksTellAll =
    (log : Log) (log_floor low : ℕ) (ask : WatchAsk) (body : Body) (before after : List Line) (p : ℕ) → IsWatchBody log log_floor low ask body →
    lines_of log ask body ≡ before ++ Bookmark p ∷ after → IsBookmarkOf log ask body before p

-- A bookmark that ends the initial events stands at the start, behind exactly these, and was asked for.
abbrev pub ClosingsTellTheStart : Type 0
ClosingsTellTheStart =
    (log : Log) (log_floor low : ℕ) (ask : WatchAsk) (body : Body) (before after : List Line) (p : ℕ) → IsWatchBody log log_floor low ask body →
    lines_of log ask body ≡ before ++ Closing p ∷ after → IsClosingOf log ask body before p

-- ---- the same of lines

-- The lines of an opening tell a body that has reached its start.
abbrev pub TellingsBegin : Type 0
TellingsBegin =
    (log : Log) (log_floor low : ℕ) (ask : WatchAsk) (at : ℕ) (rows : List RowData) → IsOpening log ask.selection ask.start at rows →
    TellsBody log log_floor low ask at (opening_lines ask at rows) at × AreOpen (opening_lines ask at rows)

-- Lines with no loss go on by the transitions from where they are up to a revision that the log has reached; by a
-- bookmark where one may stand; or by a loss that the log bears out.
pub record GoOn (log : Log) (log_floor low : ℕ) (ask : WatchAsk) (at : ℕ) (lines : List Line) (p : ℕ) : Type 0 where
  pub stretch : (to : ℕ) → p ≤ to → to ≤ end_of log →
      let more : List Line = lines ++ map Told (transitions log ask.selection p to) in TellsBody log log_floor low ask at more to × AreOpen more
  pub mark : IsTrue ask.bookmarks → p ≤ end_of log →
      let more : List Line = lines ++ Bookmark p ∷ [] in TellsBody log log_floor low ask at more p × AreOpen more
  pub loss : (floor : ℕ) → IsEvicted log log_floor low ask.selection.resource p floor →
      TellsBody log log_floor low ask at (lines ++ Lost p floor ∷ []) p

abbrev pub TellingsGoOn : Type 0
TellingsGoOn =
    (log : Log) (log_floor low : ℕ) (ask : WatchAsk) (at : ℕ) (lines : List Line) (p : ℕ) →
    TellsBody log log_floor low ask at lines p → AreOpen lines → GoOn log log_floor low ask at lines p

-- Lines that tell a body, or begin one, do so as the log grows and its own floor rises.
abbrev pub TellingsStay : Type 0
TellingsStay =
    (log : Log) (more : List RevisionData) (log_floor later_floor low : ℕ) (ask : WatchAsk) (at : ℕ) (lines : List Line) (p : ℕ) →
    log_floor ≤ later_floor → TellsBody log log_floor low ask at lines p → TellsBody (grown log more) later_floor low ask at lines p

abbrev pub BeginningsStay : Type 0
BeginningsStay =
    (log : Log) (more : List RevisionData) (log_floor later_floor low : ℕ) (ask : WatchAsk) (at : ℕ) (lines : List Line) →
    log_floor ≤ later_floor → BeginsBody log log_floor low ask at lines → BeginsBody (grown log more) later_floor low ask at lines
