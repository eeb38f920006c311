use Rattle.std.proofs.Common.{sym}
use Rattle.httparse.specs.Spans.{header_bytes}
use Rattle.line_stream.proofs.FramingLemmas.{said-once, unsaid-on}
use Rattle.line_stream.proofs.framing.is_unsaid.Goals as goal

pub returns-then-is_named : goal.returns-then-is_named
returns-then-is_named c =
    sym (said-once (header_bytes c.args.bytes.now) c.args.name.now c.args.fields.now c.loop-field.field-index _
    c.loop-field-test.true c.loop-field.invariant (sym c.if-is_named.ensures))

pub loop-field-preserved : goal.loop-field-preserved
loop-field-preserved c =
    unsaid-on (header_bytes c.args.bytes.now) c.args.name.now c.args.fields.now c.loop-field.field-index _
    c.loop-field-test.true c.loop-field.invariant (sym c.if-is_named.ensures)
