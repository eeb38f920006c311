-- The line that was read is heard by the mirror's log.
use Rattle.std.proofs.Common.{ℕ, List, ◌++◌, Ok, sym, ap, subst}
use Rattle.line_stream.specs.Answers.{AnswersLine}
use Rattle.line_stream.specs.Readers.{HoldsLine}
use Rattle.line_stream.specs.declared.lines.Step.{Step}
use Rattle.mirror_link.specs.Lines.{HearsText}
use Rattle.mirror_link.specs.Views.{MirrorData}
use Rattle.mirror_link.proofs.CallLemmas.{hears_line, hears_none, line_moved, quiet_text}
use Rattle.mirror_link.proofs.mirror.Mirror.hear.Goals as goal

pub returns-in-Ok-Line-clause-hears : goal.returns-in-Ok-Line-clause-hears
returns-in-Ok-Line-clause-hears g c =
    let m = c.self.inside in
    let read = c.in-Ok-Line.ensures.reads in
    let line = subst (λ (step : Step). AnswersLine m.reader (m.reader.at.kept ++ read.0) c.next_line.new.self (g.S.Source.left c.next_line.new.source) (Ok step)) c.in-Ok-Line.field-0-is read.2 in
    let heard = subst (λ (text : List ℕ). HearsText m.log text c.take_line.result c.take_line.new.log) c.line.ensures c.take_line.ensures.hears in (
      read.0,
      read.1,
      hears_line m.label m.field m.log m.reader.at m.answer c.args.self.now c.self.view_is c.self.invariant c.lines_read_back.ensures
          c.take_line.new.log c.next_line.new.self.at read.0 c.next_line.new.self.line line c.take_line.result heard (g.S.Source.left c.next_line.new.source),
    )

pub returns-in-Ok-Line-clause-idle : goal.returns-in-Ok-Line-clause-idle
returns-in-Ok-Line-clause-idle g c = λ holds. c.in-Ok-Line.ensures.idle (subst HoldsLine (ap (λ (m : MirrorData). m.reading) (sym c.self.view_is)) holds)

pub returns-in-Ok-Line-clause-moved : goal.returns-in-Ok-Line-clause-moved
returns-in-Ok-Line-clause-moved g c =
    let m = c.self.inside in
    let read = c.in-Ok-Line.ensures.reads in
    let line = subst (λ (step : Step). AnswersLine m.reader (m.reader.at.kept ++ read.0) c.next_line.new.self (g.S.Source.left c.next_line.new.source) (Ok step)) c.in-Ok-Line.field-0-is read.2 in
    let heard = subst (λ (text : List ℕ). HearsText m.log text c.take_line.result c.take_line.new.log) c.line.ensures c.take_line.ensures.hears in
    line_moved m.label m.field m.log m.reader.at m.answer c.args.self.now c.self.view_is c.self.invariant c.lines_read_back.ensures
    c.take_line.new.log c.next_line.new.self.at read.0 c.next_line.new.self.line line c.take_line.result heard

pub returns-in-Ok-Line-clause-counted : goal.returns-in-Ok-Line-clause-counted
returns-in-Ok-Line-clause-counted g c =
    quiet_text c.self.inside.log c.take_line.new.log c.line.result.now c.take_line.result (g.S.Source.faults c.args.source.now) (g.S.Source.faults c.next_line.new.source) c.take_line.ensures.hears c.in-Ok-Line.ensures.counted

pub returns-in-Err-clause-hears : goal.returns-in-Err-clause-hears
returns-in-Err-clause-hears g c =
    let m = c.self.inside in
    let read = c.in-Err.ensures.reads in (
      read.0,
      read.1,
      hears_none m.label m.field m.log m.reader.at m.answer c.args.self.now c.self.view_is c.self.invariant c.next_line.new.self.at read.0 read.2.0
          (g.S.Source.left c.next_line.new.source) c.in-Err.fault c.from.result c.from.ensures read.2.1,
    )
