-- Bodies of watches: how far they reach, what they tell, and that they stay as the log grows.
use Rattle.std.proofs.Common.{◌≡◌, ℕ, ◌≤◌, max, Bool, true, false, List, [], ◌∷◌, ◌++◌, map, Option, Some, None, IfSome, if◌then◌else◌, refl, sym, ap, ◌∙◌, append_assoc, arith}
use Rattle.std.proofs.lemmas.List.{append-nil}
use Rattle.std.proofs.lemmas.List.Elements.{filter_map-append}
use Rattle.kube_meta.specs.declared.resources.Resource.{Resource}
use Rattle.kube_meta.specs.Rows.{RowData}
use Rattle.rev_log.specs.Changes.{RevisionData}
use Rattle.rev_log.specs.Logs.{Log, grown, end_of}
use Rattle.select_all.specs.declared.selection.Selection.{Selection}
use Rattle.select_all.specs.Selecting.{selects}
use Rattle.select_all.specs.Streams.{TransitionData, transitions}
use Rattle.select_all.specs.Floors.{IsEvicted}
use Rattle.select_all.proofs.StreamLaws.{no_transitions, transitions_are_joined, transitions_are_kept}
use Rattle.select_all.proofs.ListingLaws.{listings_are_kept}
use Rattle.select_all.proofs.FloorSteps.{end-grows, evictions_stay}
use Rattle.watch_rules.specs.declared.starts.Start.{Start}
use Rattle.watch_rules.specs.declared.starts.Start.TheVariants.{FromState, FromHere, FromRevision}
use Rattle.watch_rules.specs.declared.ask.WatchAsk.{WatchAsk}
use Rattle.watch_rules.specs.Bodies.{Line, Told, Bookmark, Closing, Lost, BodyPiece, Upto, Mark, Body, with_piece, reached_by, position_of, initial, initial_lines, opening_lines, piece_lines, loss_lines, IsOpening, ArePieces, told_by, told_in}
use Rattle.watch_rules.specs.Laws.{BodiesTellTheStream, PositionsRise, BodiesStay, BodiesBegin, BodiesGoOn, BodiesEnd}

-- ---- positions

pub position-rises : (log : Log) (bookmarks : Bool) (from : ℕ) (pieces : List BodyPiece) → ArePieces log bookmarks from pieces → from ≤ reached_by from pieces
position-rises log bookmarks from [] are = omega arith
position-rises log bookmarks from (Upto to ∷ more) are = omega (arith, are.0, position-rises log bookmarks to more are.2)
position-rises log bookmarks from (Mark ∷ more) are = position-rises log bookmarks from more are.2

pub position-within : (log : Log) (bookmarks : Bool) (from : ℕ) (pieces : List BodyPiece) → ArePieces log bookmarks from pieces → reached_by from pieces ≤ max from (end_of log)
position-within log bookmarks from [] are = omega arith
position-within log bookmarks from (Upto to ∷ more) are = omega (arith, are.1, position-within log bookmarks to more are.2)
position-within log bookmarks from (Mark ∷ more) are = position-within log bookmarks from more are.2

pub positions_are_between : PositionsRise
positions_are_between log log_floor low ask body is =
    (position-rises log ask.bookmarks body.at body.pieces is.pieces, position-within log ask.bookmarks body.at body.pieces is.pieces)

-- ---- what lines carry

pub told_in-map : (all : List TransitionData) → told_in (map Told all) ≡ all
told_in-map [] = refl
told_in-map (x ∷ more) = ap (λ rest. x ∷ rest) (told_in-map more)

told_in-rows : (rows : List RowData) → told_in (initial_lines rows) ≡ map initial rows
told_in-rows [] = refl
told_in-rows (x ∷ more) = ap (λ rest. initial x ∷ rest) (told_in-rows more)

told_in-closing : (closing : Bool) (at : ℕ) → told_in (if closing then Closing at ∷ [] else []) ≡ []
told_in-closing true at = refl
told_in-closing false at = refl

told_in-loss : (position : ℕ) (loss : Option ℕ) → told_in (loss_lines position loss) ≡ []
told_in-loss position None = refl
told_in-loss position (Some floor) = refl

pub none_told : (log : Log) (s : Selection) (at : ℕ) → transitions log s at at ≡ []
none_told log s at = no_transitions (selects s) log s.resource at at (omega arith)

pub told_in-pieces : (log : Log) (s : Selection) (bookmarks : Bool) (from : ℕ) (pieces : List BodyPiece) → ArePieces log bookmarks from pieces → told_in (piece_lines log s from pieces) ≡ transitions log s from (reached_by from pieces)
told_in-pieces log s bookmarks from [] are = sym (none_told log s from)
told_in-pieces log s bookmarks from (Upto to ∷ more) are =
    filter_map-append told_by (map Told (transitions log s from to)) (piece_lines log s to more)
    ∙ ap (λ all. all ++ told_in (piece_lines log s to more)) (told_in-map (transitions log s from to))
    ∙ ap (λ rest. transitions log s from to ++ rest) (told_in-pieces log s bookmarks to more are.2)
    ∙ transitions_are_joined (selects s) log s.resource from to (reached_by to more) are.0 (position-rises log bookmarks to more are.2)
told_in-pieces log s bookmarks from (Mark ∷ more) are = told_in-pieces log s bookmarks from more are.2

told_in-opening : (ask : WatchAsk) (body : Body) → told_in (opening_lines ask body.at body.rows) ≡ map initial body.rows
told_in-opening ask body =
    filter_map-append told_by (initial_lines body.rows) (if ask.closing then Closing body.at ∷ [] else [])
    ∙ ap (λ rest. told_in (initial_lines body.rows) ++ rest) (told_in-closing ask.closing body.at)
    ∙ append-nil (told_in (initial_lines body.rows))
    ∙ told_in-rows body.rows

pub streams_are_told : BodiesTellTheStream
streams_are_told log log_floor low ask body is =
    let pieces : List Line = piece_lines log ask.selection body.at body.pieces in
    filter_map-append told_by (opening_lines ask body.at body.rows ++ pieces) (loss_lines (position_of body) body.loss)
    ∙ ap (λ rest. told_in (opening_lines ask body.at body.rows ++ pieces) ++ rest) (told_in-loss (position_of body) body.loss)
    ∙ append-nil (told_in (opening_lines ask body.at body.rows ++ pieces))
    ∙ filter_map-append told_by (opening_lines ask body.at body.rows) pieces
    ∙ ap (λ first. first ++ told_in pieces) (told_in-opening ask body)
    ∙ ap (λ rest. map initial body.rows ++ rest) (told_in-pieces log ask.selection ask.bookmarks body.at body.pieces is.pieces)

-- ---- a log that grows

loss-stays : (log : Log) (more : List RevisionData) (log_floor later_floor low : ℕ) (resource : Resource) (position : ℕ) (loss : Option ℕ) → log_floor ≤ later_floor → IfSome loss (λ floor. IsEvicted log log_floor low resource position floor) → IfSome loss (λ floor. IsEvicted (grown log more) later_floor low resource position floor)
loss-stays log more log_floor later_floor low resource position None rises lost = tt
loss-stays log more log_floor later_floor low resource position (Some floor) rises lost = evictions_stay log more log_floor later_floor low resource position floor rises lost

opening-stays : (log : Log) (more : List RevisionData) (s : Selection) (start : Start) (at : ℕ) (rows : List RowData) → IsOpening log s start at rows → IsOpening (grown log more) s start at rows
opening-stays log more s (FromState meaning) at rows is =
    (listings_are_kept (selects s) log more s.resource at rows is.1 is.0, omega (arith, is.1, end-grows log more))
opening-stays log more s (FromHere meaning) at rows is = (is.0, omega (arith, is.1, end-grows log more))
opening-stays log more s (FromRevision revision) at rows is = is

pieces-stay : (log : Log) (more : List RevisionData) (bookmarks : Bool) (from : ℕ) (pieces : List BodyPiece) → ArePieces log bookmarks from pieces → ArePieces (grown log more) bookmarks from pieces
pieces-stay log more bookmarks from [] are = tt
pieces-stay log more bookmarks from (Upto to ∷ rest) are = (are.0, omega (arith, are.1, end-grows log more), pieces-stay log more bookmarks to rest are.2)
pieces-stay log more bookmarks from (Mark ∷ rest) are = (are.0, omega (arith, are.1, end-grows log more), pieces-stay log more bookmarks from rest are.2)

pub piece_lines-grown : (log : Log) (more : List RevisionData) (s : Selection) (bookmarks : Bool) (from : ℕ) (pieces : List BodyPiece) → ArePieces log bookmarks from pieces → piece_lines (grown log more) s from pieces ≡ piece_lines log s from pieces
piece_lines-grown log more s bookmarks from [] are = refl
piece_lines-grown log more s bookmarks from (Upto to ∷ rest) are =
    ap (λ all. map Told all ++ piece_lines (grown log more) s to rest) (transitions_are_kept (selects s) log more s.resource from to (omega (arith, are.1)))
    ∙ ap (λ lines. map Told (transitions log s from to) ++ lines) (piece_lines-grown log more s bookmarks to rest are.2)
piece_lines-grown log more s bookmarks from (Mark ∷ rest) are = ap (λ lines. Bookmark from ∷ lines) (piece_lines-grown log more s bookmarks from rest are.2)

pub bodies_are_kept : BodiesStay
bodies_are_kept log more log_floor later_floor low ask body rises is = (
  record {
    opening = opening-stays log more ask.selection ask.start body.at body.rows is.opening;
    pieces = pieces-stay log more ask.bookmarks body.at body.pieces is.pieces;
    lost = loss-stays log more log_floor later_floor low ask.selection.resource (position_of body) body.loss rises is.lost;
  },
  ap (λ lines. opening_lines ask body.at body.rows ++ lines ++ loss_lines (position_of body) body.loss) (piece_lines-grown log more ask.selection ask.bookmarks body.at body.pieces is.pieces),
)

-- ---- a body that goes on

pub position-append : (from : ℕ) (pieces more : List BodyPiece) → reached_by from (pieces ++ more) ≡ reached_by (reached_by from pieces) more
position-append from [] more = refl
position-append from (Upto to ∷ rest) more = position-append to rest more
position-append from (Mark ∷ rest) more = position-append from rest more

pieces-append : (log : Log) (bookmarks : Bool) (from : ℕ) (pieces more : List BodyPiece) → ArePieces log bookmarks from pieces → ArePieces log bookmarks (reached_by from pieces) more → ArePieces log bookmarks from (pieces ++ more)
pieces-append log bookmarks from [] more are then_are = then_are
pieces-append log bookmarks from (Upto to ∷ rest) more are then_are = (are.0, are.1, pieces-append log bookmarks to rest more are.2 then_are)
pieces-append log bookmarks from (Mark ∷ rest) more are then_are = (are.0, are.1, pieces-append log bookmarks from rest more are.2 then_are)

piece_lines-append : (log : Log) (s : Selection) (from : ℕ) (pieces more : List BodyPiece) → piece_lines log s from (pieces ++ more) ≡ piece_lines log s from pieces ++ piece_lines log s (reached_by from pieces) more
piece_lines-append log s from [] more = refl
piece_lines-append log s from (Upto to ∷ rest) more =
    ap (λ lines. map Told (transitions log s from to) ++ lines) (piece_lines-append log s to rest more)
    ∙ sym (append_assoc (map Told (transitions log s from to)) (piece_lines log s to rest) (piece_lines log s (reached_by to rest) more))
piece_lines-append log s from (Mark ∷ rest) more = ap (λ lines. Bookmark from ∷ lines) (piece_lines-append log s from rest more)

no_loss : (position : ℕ) (loss : Option ℕ) → loss ≡ None → loss_lines position loss ≡ []
no_loss position loss none = ap (loss_lines position) none

none_is_lost : (loss : Option ℕ) (P : ℕ → Type 0) → loss ≡ None → IfSome loss P
none_is_lost None P none = tt
none_is_lost (Some floor) P none = absurd cc

pub bodies_go_on : BodiesGoOn
bodies_go_on log log_floor low ask body piece none is next =
    let before : List Line = piece_lines log ask.selection body.at body.pieces in
    let after : List Line = piece_lines log ask.selection (position_of body) (piece ∷ []) in (
      record {
        opening = is.opening;
        pieces = pieces-append log ask.bookmarks body.at body.pieces (piece ∷ []) is.pieces next;
        lost = none_is_lost body.loss (λ floor. IsEvicted log log_floor low ask.selection.resource (position_of (with_piece body piece)) floor) none;
      },
      ap (λ last. opening_lines ask body.at body.rows ++ piece_lines log ask.selection body.at (body.pieces ++ piece ∷ []) ++ last) (no_loss (position_of (with_piece body piece)) body.loss none)
          ∙ append-nil (opening_lines ask body.at body.rows ++ piece_lines log ask.selection body.at (body.pieces ++ piece ∷ []))
          ∙ ap (λ lines. opening_lines ask body.at body.rows ++ lines) (piece_lines-append log ask.selection body.at body.pieces (piece ∷ []))
          ∙ sym (append_assoc (opening_lines ask body.at body.rows) before after)
          ∙ ap (λ first. first ++ after) (sym (append-nil (opening_lines ask body.at body.rows ++ before)))
          ∙ ap (λ last. opening_lines ask body.at body.rows ++ before ++ last ++ after) (sym (no_loss (position_of body) body.loss none)),
    )

-- ---- how a body begins and ends

pub bodies_begin : BodiesBegin
bodies_begin log log_floor low ask at rows is = (
  record { opening = is; pieces = tt; lost = tt },
  append-nil (opening_lines ask at rows ++ []) ∙ append-nil (opening_lines ask at rows),
)

pub bodies_end : BodiesEnd
bodies_end log log_floor low ask body floor none is lost =
    let told : List Line = opening_lines ask body.at body.rows ++ piece_lines log ask.selection body.at body.pieces in (
      record { opening = is.opening; pieces = is.pieces; lost = lost },
      ap (λ first. first ++ Lost (position_of body) floor ∷ []) (sym (ap (λ last. told ++ last) (no_loss (position_of body) body.loss none) ∙ append-nil told)),
    )
