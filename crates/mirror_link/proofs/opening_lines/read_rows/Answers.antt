-- Behind the head each line adds a row, and takes some of the data that may be taken, or is the last.
use Rattle.std.proofs.Common.{ℕ, ◌++◌, Option, Ok, ◌∙◌, subst}
use Rattle.mirror_link.specs.Reading.{Steps}
use Rattle.mirror_link.proofs.StepLemmas.{begun, headless, taken_on, room_falls, rows_go_on, rows_end, rows_stop}
use Rattle.mirror_link.proofs.opening_lines.read_rows.Goals as goal

pub returns-in-Err-clause-reads : goal.returns-in-Err-clause-reads
returns-in-Err-clause-reads g c =
    let read = c.in-Err.ensures.reads in
    (read.0, read.1, headless c.args.selection.now c.args.reader.now c.read_head.new.self read.0 (g.S.Source.left c.read_head.new.source) c.in-Err.fault c.from.result c.requires.fresh.0 c.from.ensures read.2)

pub loop-base-init : goal.loop-base-init
loop-base-init g c =
    let read = c.in-Ok.ensures.reads in (
      (read.0, read.1, begun c.args.selection.now c.args.reader.now c.read_head.new.self read.0 (g.S.Source.left c.read_head.new.source) c.args.rows.now.items c.in-Ok.field-0 c.requires.fresh.0 c.requires.fresh.1 c.requires.fresh.2 c.requires.empty read.2),
      c.in-Ok.ensures.counted,
    )

pub loop-base-smaller : goal.loop-base-smaller
loop-base-smaller g c =
    let inv = c.loop-base.invariant in
    let read = c.in-Ok-None.ensures.reads in
    room_falls c.args.selection.now inv.0.0 read.0 (g.S.Source.left c.next_row.new.source) c.loop-base.rows.items c.next_row.new.rows.items c.loop-base.reader.at c.next_row.new.reader.at inv.0.2
    (subst (λ (step : Option ℕ). Steps c.args.selection.now c.loop-base.rows.items c.loop-base.reader.at (c.loop-base.reader.at.kept ++ read.0) (g.S.Source.left c.next_row.new.source) (Ok step) c.next_row.new.rows.items c.next_row.new.reader.at) c.in-Ok-None.field-0-is read.2)

pub loop-base-preserved : goal.loop-base-preserved
loop-base-preserved g c =
    let inv = c.loop-base.invariant in
    let read = c.in-Ok-None.ensures.reads in (
      (
        inv.0.0 ++ read.0,
        taken_on inv.0.0 read.0 (g.S.Source.left c.args.source.now) (g.S.Source.left c.loop-base.source) (g.S.Source.left c.next_row.new.source) inv.0.1 read.1,
        rows_go_on c.args.selection.now inv.0.0 read.0 (g.S.Source.left c.next_row.new.source) c.loop-base.rows.items c.loop-base.reader.at inv.0.2 c.next_row.new.rows.items c.next_row.new.reader.at
            (subst (λ (step : Option ℕ). Steps c.args.selection.now c.loop-base.rows.items c.loop-base.reader.at (c.loop-base.reader.at.kept ++ read.0) (g.S.Source.left c.next_row.new.source) (Ok step) c.next_row.new.rows.items c.next_row.new.reader.at) c.in-Ok-None.field-0-is read.2),
      ),
      c.in-Ok-None.ensures.counted ∙ inv.1,
    )

pub returns-in-Ok-Some-clause-reads : goal.returns-in-Ok-Some-clause-reads
returns-in-Ok-Some-clause-reads g c =
    let inv = c.loop-base.invariant in
    let read = c.in-Ok-Some.ensures.reads in (
      inv.0.0 ++ read.0,
      taken_on inv.0.0 read.0 (g.S.Source.left c.args.source.now) (g.S.Source.left c.loop-base.source) (g.S.Source.left c.next_row.new.source) inv.0.1 read.1,
      rows_end c.args.selection.now inv.0.0 read.0 (g.S.Source.left c.next_row.new.source) c.loop-base.rows.items c.loop-base.reader.at inv.0.2 c.in-Ok-Some.base c.next_row.new.rows.items c.next_row.new.reader.at
          (subst (λ (step : Option ℕ). Steps c.args.selection.now c.loop-base.rows.items c.loop-base.reader.at (c.loop-base.reader.at.kept ++ read.0) (g.S.Source.left c.next_row.new.source) (Ok step) c.next_row.new.rows.items c.next_row.new.reader.at) c.in-Ok-Some.field-0-is read.2),
    )

pub returns-in-Err-next_row-clause-reads : goal.returns-in-Err-next_row-clause-reads
returns-in-Err-next_row-clause-reads g c =
    let inv = c.loop-base.invariant in
    let read = c.in-Err-next_row.ensures.reads in (
      inv.0.0 ++ read.0,
      taken_on inv.0.0 read.0 (g.S.Source.left c.args.source.now) (g.S.Source.left c.loop-base.source) (g.S.Source.left c.next_row.new.source) inv.0.1 read.1,
      rows_stop c.args.selection.now inv.0.0 read.0 (g.S.Source.left c.next_row.new.source) c.loop-base.rows.items c.loop-base.reader.at inv.0.2 c.in-Err-next_row.why c.next_row.new.rows.items c.next_row.new.reader.at read.2,
    )
