use Rattle.std.proofs.Common.{ap, sym, ◌∙◌}
use Rattle.std.specs.Prelude.{Some}
use Rattle.std.specs.Option.{option_map}
use Rattle.httparse.specs.Spans.{header_bytes}
use Rattle.http_read.specs.Heads.{is_named}
use Rattle.http_read.proofs.ScanLemmas.{find-step, find-here}
use Rattle.http_read.proofs.fields.value_of.Goals as goal

pub returns-then-is_named : goal.returns-then-is_named
returns-then-is_named c =
    ap Some c.of.ensures
    ∙ sym (ap (option_map (λ field. field.1)) (find-here (header_bytes c.args.bytes.now) (is_named c.args.name.now) c.args.fields.now c.loop-field.field-index _
    c.loop-field-test.true c.loop-field.invariant (sym c.if-is_named.ensures)))

pub loop-field-preserved : goal.loop-field-preserved
loop-field-preserved c =
    find-step (header_bytes c.args.bytes.now) (is_named c.args.name.now) c.args.fields.now c.loop-field.field-index _
    c.loop-field-test.true c.loop-field.invariant (sym c.if-is_named.ensures)
