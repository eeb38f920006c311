use Rattle.std.proofs.Common.{sym}
use Rattle.httparse.specs.Spans.{header_bytes}
use Rattle.line_stream.proofs.HeadLemmas.{only-twice}
use Rattle.line_stream.proofs.head.only_value.Goals as goal

pub returns-then-is_some : goal.returns-then-is_some
returns-then-is_some c =
    sym (only-twice (header_bytes c.args.bytes.now) c.args.name.now c.args.fields.now c.loop-field.field-index _ (λ value. value.now) c.loop-field.found
    c.loop-field-test.true c.loop-field.invariant (sym c.if-is_some.ensures) (sym c.if-is_named.ensures))
