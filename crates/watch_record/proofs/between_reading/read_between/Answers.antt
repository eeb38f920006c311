use Rattle.std.proofs.Common.{◌≡◌, Some, true, sym, ap, ◌∙◌, arith, length, ◌<◌}
use Rattle.watch_record.specs.Lines.{first_line, is_feed}
use Rattle.watch_record.specs.Between.{watched_of, texts_at}
use Rattle.watch_record.proofs.LaterLemmas.{no-body}
use Rattle.watch_record.proofs.between_reading.read_between.Goals as goal

pub returns-clause-refused : goal.returns-clause-refused
returns-clause-refused c = λ no_memory.
    let bytes = c.args.bytes.now in
    let watched : watched_of (first_line bytes) ≡ Some c.in-Some.header = ap watched_of (sym c.line_of.ensures.line) ∙ sym c.in_ok-header.ensures ∙ c.in-Some.is in
    let few : length c.in_ok-texts.texts.items < 2 = let h = c.in_default-as_slice.len_below in let v = ap length c.as_slice.ensures.value in omega (arith, h, v) in
    no-body bytes c.in-Some.header c.in_ok-texts.texts.items watched c.if-bytes-gt-MOST_BYTES.false (c.in_ok-texts.ensures ∙ ap (texts_at true) c.line_of.ensures.rest) few
