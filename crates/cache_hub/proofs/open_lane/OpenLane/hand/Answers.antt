use Rattle.std.proofs.Common.{true, arith, sym, ap, ◌∙◌}
use Rattle.select_all.specs.Streams.{transitions}
use Rattle.up_api.specs.Sections.{log_of}
use Rattle.cache_hub.specs.OpenLanes.{batch_of}
use Rattle.cache_hub.proofs.PieceLemmas.{came_is, fell, handed}
use Rattle.cache_hub.proofs.open_lane.OpenLane.hand.Goals as goal

pub batch_for-requires-clause-within : goal.batch_for-requires-clause-within
batch_for-requires-clause-within g c = omega (arith, c.requires.within, c.requires.piece.upto)

pub batch_for-requires-clause-lines_are : goal.batch_for-requires-clause-lines_are
batch_for-requires-clause-lines_are g c =
    c.requires.piece.lines_are ∙ ap (transitions (log_of g.N.LogFacts.base c.args.told.now) c.args.piece.now.value.selection c.args.piece.now.value.from) (sym c.requires.piece.upto)

pub batch_for-requires-clause-some : goal.batch_for-requires-clause-some
batch_for-requires-clause-some g c = c.requires.piece.some

pub returns-in-Ok-clause-sent : goal.returns-in-Ok-clause-sent
returns-in-Ok-clause-sent g c =
    handed (log_of g.N.LogFacts.base c.args.told.now) c.args.end c.args.self.now c.push.new.self c.args.piece.now.value (batch_of c.in-Ok.batch)
    c.requires.in_step c.requires.piece c.requires.begins c.in-Ok.ensures.batch c.push.ensures

pub returns-in-Err-clause-sent : goal.returns-in-Err-clause-sent
returns-in-Err-clause-sent g c = (
  true,
  c.fall_behind.ensures ∙ fell (log_of g.N.LogFacts.base c.args.told.now) c.args.end c.args.self.now c.args.piece.now.value.lines
      c.requires.in_step (came_is (log_of g.N.LogFacts.base c.args.told.now) c.args.end c.args.self.now.lane c.args.piece.now.value c.requires.piece c.requires.begins) c.requires.piece.some,
)
