-- A piece that is made for a lane, and handed to it.
use Rattle.std.proofs.Common.{◌≡◌, ◌⊎◌, inl, inr, ℕ, Bool, true, false, List, [], ◌∷◌, ◌++◌, append-nil, refl, sym, ap, ◌∙◌, subst}
use Rattle.rev_log.specs.Logs.{Log}
use Rattle.select_all.specs.declared.selection.Selection.{Selection}
use Rattle.select_all.specs.Streams.{TransitionData, transitions}
use Rattle.watch_lane.specs.Batches.{PieceData, Begins}
use Rattle.cache_world.specs.Lanes.{LaneData, BatchData, unsent, lane_after, queue_after}
use Rattle.cache_hub.specs.OpenLanes.{OpenLaneData, batch_from, told_lane, left_behind}
use Rattle.cache_hub.specs.Due.{IsPiece}

-- the piece of these lines that is made for a lane
abbrev pub piece_for : LaneData → ℕ → List TransitionData → PieceData
piece_for lane end lines = record { from = lane.mark; to = end; selection = lane.selection; lines = lines }

pub piece_begins : (lane : LaneData) (end : ℕ) (lines : List TransitionData) (piece : PieceData) → piece ≡ piece_for lane end lines → Begins piece lane.selection lane.mark
piece_begins lane end lines piece made = subst (λ (p : PieceData). Begins p lane.selection lane.mark) (sym made) (refl, refl)

-- a batch of these parts
abbrev batch_with : Selection → ℕ → ℕ → List TransitionData → BatchData
batch_with s from to sent = record { selection = s; from = from; to = to; sent = sent }

module _ (log : Log) (end : ℕ) where
  pub piece_made : (lane : LaneData) (lines : List TransitionData) (piece : PieceData) → piece ≡ piece_for lane end lines →
      lines ≡ unsent log end lane → (lines ≡ [] → ⊥) → IsPiece log end piece
  piece_made lane lines piece made came some = subst (IsPiece log end) (sym made) (record { upto = refl; lines_are = came; some = some })

  -- a piece with which a lane goes on is all that the lane wasn't sent
  pub came_is : (lane : LaneData) (piece : PieceData) → IsPiece log end piece → Begins piece lane.selection lane.mark → unsent log end lane ≡ piece.lines
  came_is lane piece is begins = sym (is.lines_are ∙ ap (λ s. transitions log s piece.from end) begins.1 ∙ ap (λ m. transitions log lane.selection m end) begins.0)

  -- a lane to which a batch up to the end went
  abbrev with_batch : OpenLaneData → BatchData → OpenLaneData
  with_batch o batch = record o { lane = record o.lane { mark = end }; sent = o.sent ++ batch ∷ [] }

  went : (o : OpenLaneData) (piece : PieceData) (came : List TransitionData) → o.lane.behind ≡ false → unsent log end o.lane ≡ came → (came ≡ [] → ⊥) →
      piece.to ≡ end → piece.lines ≡ came → Begins piece o.lane.selection o.lane.mark → with_batch o (batch_from piece) ≡ told_lane log end false o
  went o piece [] ahead same some upto lines begins = absurd (some refl)
  went o piece (t ∷ more) ahead same some upto lines begins =
      ap (λ s. with_batch o (batch_with s piece.from piece.to piece.lines)) begins.1
      ∙ ap (λ m. with_batch o (batch_with o.lane.selection m piece.to piece.lines)) begins.0
      ∙ ap (λ e. with_batch o (batch_with o.lane.selection o.lane.mark e piece.lines)) upto
      ∙ ap (λ ls. with_batch o (batch_with o.lane.selection o.lane.mark end ls)) lines
      ∙ sym (ap (λ b. record o { lane = lane_after o.lane end b (unsent log end o.lane) false; sent = o.sent ++ queue_after o.lane end b (unsent log end o.lane) false }) ahead
      ∙ ap (λ xs. record o { lane = lane_after o.lane end false xs false; sent = o.sent ++ queue_after o.lane end false xs false }) same)

  -- a lane for which something came, and that gets nothing, falls behind
  pub fell : (o : OpenLaneData) (came : List TransitionData) → o.lane.behind ≡ false → unsent log end o.lane ≡ came → (came ≡ [] → ⊥) → left_behind o ≡ told_lane log end true o
  fell o [] ahead same some = absurd (some refl)
  fell o (t ∷ more) ahead same some =
      sym (ap (λ b. record o { lane = lane_after o.lane end b (unsent log end o.lane) true; sent = o.sent ++ queue_after o.lane end b (unsent log end o.lane) true }) ahead
      ∙ ap (λ xs. record o { lane = lane_after o.lane end false xs true; sent = o.sent ++ queue_after o.lane end false xs true }) same
      ∙ ap (λ xs. record o { lane = record o.lane { behind = true }; sent = xs }) (append-nil o.sent))

  -- a lane to which a piece is handed with which it goes on gets it as a batch, or is behind
  pub handed : (o later : OpenLaneData) (piece : PieceData) (batch : BatchData) → o.lane.behind ≡ false → IsPiece log end piece → Begins piece o.lane.selection o.lane.mark → batch ≡ batch_from piece →
      (later ≡ record o { lane = record o.lane { mark = end }; sent = o.sent ++ batch ∷ [] }) ⊎ (later ≡ left_behind o) → (falls : Bool) × (later ≡ told_lane log end falls o)
  handed o later piece batch ahead is begins same (inl pushed) =
      (false, pushed ∙ ap (with_batch o) same ∙ went o piece piece.lines ahead (came_is o.lane piece is begins) is.some is.upto refl begins)
  handed o later piece batch ahead is begins same (inr back) =
      (true, back ∙ fell o piece.lines ahead (came_is o.lane piece is begins) is.some)
