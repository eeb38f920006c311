use Rattle.std.proofs.Common.{length, sym, ap, ◌∙◌}
use Rattle.watch_record.specs.Lines.{lines_in, parts_of}
use Rattle.watch_record.specs.Records as records
use Rattle.watch_record.proofs.CaseLemmas.{floor-fault, asking-fault, read-case}
use Rattle.watch_record.proofs.reading.read_behind.Goals as goal

pub returns-then-not-has_floor-clause-refused : goal.returns-then-not-has_floor-clause-refused
returns-then-not-has_floor-clause-refused c = λ other. floor-fault c.args.header.now c.in_ok-log.log.items (lines_in c.in_ok-log.body.now) (parts_of (lines_in c.args.rest.now))
    c.in_ok-log.ensures.read (ap (λ l. records.has_floor c.args.header.now (length l)) (sym c.as_slice.ensures.value) ∙ sym c.has_floor.ensures ∙ c.if-not-has_floor.true)

pub returns-in_default-clause-refused : goal.returns-in_default-clause-refused
returns-in_default-clause-refused c = λ other. asking-fault c.args.header.now c.in_ok-log.log.items (lines_in c.in_ok-log.body.now) (parts_of (lines_in c.args.rest.now))
    c.in_ok-log.ensures.read (ap (λ l. records.has_floor c.args.header.now (length l)) (sym c.as_slice.ensures.value) ∙ sym c.has_floor.ensures ∙ c.if-not-has_floor.false)
    (rw c.in_default.is at c.in_ok-ask.ensures)

pub returns-clause-read : goal.returns-clause-read
returns-clause-read c = let asked = rw c.in-Some.is at c.in_ok-ask.ensures in read-case c.args.header.now c.in_ok-log.log.items c.in-Some.ask c.in_ok-lines.lines.items (lines_in c.in_ok-log.body.now) c.record_of.result
    (parts_of (lines_in c.args.rest.now)) c.in_ok-log.ensures.read
    (ap (λ l. records.has_floor c.args.header.now (length l)) (sym c.as_slice.ensures.value) ∙ sym c.has_floor.ensures ∙ c.if-not-has_floor.false)
    asked.0 asked.1 c.in_ok-lines.ensures (record {
      first_is = c.record_of.ensures.first;
      floor_is = c.record_of.ensures.floor;
      window_is = c.record_of.ensures.window;
      log_is = c.record_of.ensures.log;
      ask_is = c.record_of.ensures.ask;
      lines_are = c.record_of.ensures.lines;
    })
