use Rattle.std.proofs.Common.{true, sym, ap, ◌∙◌}
use Rattle.up_api.specs.Sections.{log_of}
use Rattle.watch_lane.specs.Batches.{PieceData}
use Rattle.cache_hub.proofs.PieceLemmas.{fell, piece_begins, piece_made}
use Rattle.cache_hub.proofs.open_lane.OpenLane.send.Goals as goal

pub hand-requires-clause-piece : goal.hand-requires-clause-piece
hand-requires-clause-piece g c =
    piece_made (log_of g.N.LogFacts.base c.args.told.now) c.args.end c.args.self.now.lane c.args.lines.items c.in-Ok.piece.value c.in-Ok.ensures c.requires.lines c.requires.some

pub hand-requires-clause-begins : goal.hand-requires-clause-begins
hand-requires-clause-begins g c = piece_begins c.args.self.now.lane c.args.end c.args.lines.items c.in-Ok.piece.value c.in-Ok.ensures

pub returns-in-Ok-clause-piece : goal.returns-in-Ok-clause-piece
returns-in-Ok-clause-piece g c = (
  piece_made (log_of g.N.LogFacts.base c.args.told.now) c.args.end c.args.self.now.lane c.args.lines.items c.in-Ok.piece.value c.in-Ok.ensures c.requires.lines c.requires.some,
  ap (λ (p : PieceData). p.selection) c.in-Ok.ensures,
)

pub returns-in-Err-clause-sent : goal.returns-in-Err-clause-sent
returns-in-Err-clause-sent g c =
    (true, c.fall_behind.ensures ∙ fell (log_of g.N.LogFacts.base c.args.told.now) c.args.end c.args.self.now c.args.lines.items c.requires.in_step (sym c.requires.lines) c.requires.some)
