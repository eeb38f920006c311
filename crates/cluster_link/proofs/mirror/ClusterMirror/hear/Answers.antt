-- The line that was read is heard by the mirror's log.
use Rattle.std.proofs.Common.{ℕ, List, ◌++◌, Ok, sym, ap, subst}
use Rattle.line_stream.specs.Answers.{AnswersLine}
use Rattle.line_stream.specs.Readers.{HoldsLine}
use Rattle.line_stream.specs.declared.lines.Step.{Step}
use Rattle.cluster_link.specs.Mirroring.{ClusterData}
use Rattle.cluster_link.specs.Telling.{HearsTextOf}
use Rattle.cluster_link.proofs.AnswerLemmas.{quiet_text}
use Rattle.cluster_link.proofs.HearLemmas.{hears_cluster, hears_line_of, hears_none, line_onward, view_of}
use Rattle.cluster_link.proofs.mirror.ClusterMirror.hear.Goals as goal

pub returns-in-Ok-Line-clause-hears : goal.returns-in-Ok-Line-clause-hears
returns-in-Ok-Line-clause-hears g c =
    let m = c.self.inside in
    let read = c.in-Ok-Line.ensures.reads in
    let left = g.S.Source.left c.next_line.new.source in
    let line = subst (λ (step : Step). AnswersLine m.reader (m.reader.at.kept ++ read.0) c.next_line.new.self left (Ok step)) c.in-Ok-Line.field-0-is read.2 in
    let heard = subst (λ (text : List ℕ). HearsTextOf m.log text c.hear_text.result c.hear_text.new.log) c.line.ensures c.hear_text.ensures.hears in (
      read.0,
      read.1,
      hears_cluster c.args.self.now (view_of c.hear_text.new.log c.next_line.new.self.at m.answer) read.0 left c.hear_text.result
          (hears_line_of m.log m.reader.at m.answer c.args.self.now c.self.view_is c.self.invariant c.texts_tell_one_line.ensures
          c.hear_text.new.log c.next_line.new.self.at read.0 c.next_line.new.self.line line c.hear_text.result heard),
    )

pub returns-in-Ok-Line-clause-idle : goal.returns-in-Ok-Line-clause-idle
returns-in-Ok-Line-clause-idle g c = λ holds. c.in-Ok-Line.ensures.idle (subst HoldsLine (ap (λ (m : ClusterData). m.reading) (sym c.self.view_is)) holds)

pub returns-in-Ok-Line-clause-onward : goal.returns-in-Ok-Line-clause-onward
returns-in-Ok-Line-clause-onward g c =
    let m = c.self.inside in
    let read = c.in-Ok-Line.ensures.reads in
    let left = g.S.Source.left c.next_line.new.source in
    let line = subst (λ (step : Step). AnswersLine m.reader (m.reader.at.kept ++ read.0) c.next_line.new.self left (Ok step)) c.in-Ok-Line.field-0-is read.2 in
    let heard = subst (λ (text : List ℕ). HearsTextOf m.log text c.hear_text.result c.hear_text.new.log) c.line.ensures c.hear_text.ensures.hears in
    line_onward m.log m.reader.at m.answer c.args.self.now c.self.view_is c.self.invariant c.texts_tell_one_line.ensures
    c.hear_text.new.log c.next_line.new.self.at read.0 c.next_line.new.self.line line c.hear_text.result heard

pub returns-in-Ok-Line-clause-counted : goal.returns-in-Ok-Line-clause-counted
returns-in-Ok-Line-clause-counted g c =
    quiet_text c.self.inside.log c.hear_text.new.log c.line.result.now c.hear_text.result (g.S.Source.faults c.args.source.now) (g.S.Source.faults c.next_line.new.source) c.hear_text.ensures.hears c.in-Ok-Line.ensures.counted

pub returns-in-Err-clause-hears : goal.returns-in-Err-clause-hears
returns-in-Err-clause-hears g c =
    let m = c.self.inside in
    let read = c.in-Err.ensures.reads in (
      read.0,
      read.1,
      hears_none m.log m.reader.at m.answer c.args.self.now c.self.view_is c.self.invariant c.next_line.new.self.at read.0 read.2.0
          (g.S.Source.left c.next_line.new.source) c.in-Err.fault c.reply_refusal.result c.reply_refusal.ensures read.2.1,
    )
