-- Pieces of streams, and batches: a piece with a pass of the log, which is handed over without the cache's lock.
use Rattle.std.specs.Prelude.{◌≡◌, ◌≢◌, ℕ, ◌≤◌, List, []}
use Rattle.kube_meta.specs.Rows.{RowData}
use Rattle.rev_front.specs.Passes.{Pass, end_from}
use Rattle.rev_log.specs.Changes.{RevisionData}
use Rattle.select_all.specs.declared.selection.Selection.{Selection}
use Rattle.select_all.specs.Streams.{TransitionData, transitions}
use Rattle.up_api.specs.Sections.{log_of}

-- a piece of the stream of a selection: its lines in the revisions above one number and up to another
pub record PieceData : Type 0 where
  pub from : ℕ
  pub to : ℕ
  pub selection : Selection
  pub lines : List TransitionData

-- a piece with a pass of the log
pub record BatchData : Type 0 where
  pub from : ℕ
  pub to : ℕ
  pub selection : Selection
  pub lines : List TransitionData
  pub note : Pass RevisionData

-- the batch of a piece and a pass
abbrev pub noted : PieceData → Pass RevisionData → BatchData
noted piece note = record { from = piece.from; to = piece.to; selection = piece.selection; lines = piece.lines; note = note }

-- a watch of this selection that was told all up to a revision goes on with the piece
abbrev pub Begins : PieceData → Selection → ℕ → Type 0
Begins piece s at = (piece.from ≡ at) × (piece.selection ≡ s)

-- The lines are the transitions of the selection above `from` and up to `to`, in the log that the note has
-- seen up to there; and there is at least one.
pub record IsBatch (base : List RowData) (batch : BatchData) : Type 0 where
  pub within : batch.to ≤ end_from batch.note.first batch.note.seen
  pub lines_are : batch.lines ≡ transitions (log_of base batch.note) batch.selection batch.from batch.to
  pub some : batch.lines ≢ []
