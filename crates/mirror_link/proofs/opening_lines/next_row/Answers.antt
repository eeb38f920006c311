-- The line that was read is taken.
use Rattle.std.proofs.Common.{ℕ, List, ◌++◌, Ok, subst}
use Rattle.kube_meta.specs.declared.resources.Resource.TheVariants.{Pods}
use Rattle.line_stream.specs.Answers.{AnswersLine}
use Rattle.line_stream.specs.declared.lines.Step.{Step}
use Rattle.watch_lines.specs.Lines.{ReadsPeerLine}
use Rattle.mirror_link.proofs.AnswerLemmas.{adds_quietly}
use Rattle.mirror_link.proofs.StepLemmas.{stepped}
use Rattle.mirror_link.proofs.opening_lines.next_row.Goals as goal

pub returns-in-Ok-clause-reads : goal.returns-in-Ok-clause-reads
returns-in-Ok-clause-reads g c =
    let read = c.in-Ok-Line.ensures.reads in
    let line = subst (λ (step : Step). AnswersLine c.args.reader.now (c.args.reader.now.at.kept ++ read.0) c.next_line.new.self (g.S.Source.left c.next_line.new.source) (Ok step)) c.in-Ok-Line.field-0-is read.2 in (
      read.0,
      read.1,
      stepped c.args.selection.now c.args.rows.now.items c.args.reader.now.at (c.args.reader.now.at.kept ++ read.0) (g.S.Source.left c.next_line.new.source)
          c.next_line.new.self.line c.next_line.new.self.at c.in-Ok.line c.take_line.result c.take_line.new.rows.items line
          (subst (λ (text : List ℕ). ReadsPeerLine Pods text c.in-Ok.line) c.line.ensures c.in-Ok.ensures) c.take_line.ensures,
    )

pub returns-in-Ok-clause-counted : goal.returns-in-Ok-clause-counted
returns-in-Ok-clause-counted g c =
    adds_quietly c.args.selection.now c.args.rows.now.items c.in-Ok.line c.take_line.result c.take_line.new.rows.items (g.S.Source.faults c.args.source.now) (g.S.Source.faults c.next_line.new.source)
    c.take_line.ensures c.in-Ok-Line.ensures.counted
