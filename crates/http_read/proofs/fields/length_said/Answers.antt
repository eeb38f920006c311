use Rattle.std.proofs.Common.{sym, codes}
use Rattle.httparse.specs.Spans.{header_bytes}
use Rattle.http_read.proofs.HeadLemmas.{said-twice}
use Rattle.http_read.proofs.fields.length_said.Goals as goal

pub returns-then-is_some : goal.returns-then-is_some
returns-then-is_some c =
    sym (said-twice (header_bytes c.args.bytes.now) c.args.method.now (codes "content-length") c.args.fields.now c.loop-field.field-index _ (λ value. value.now) c.loop-field.found
    c.loop-field-test.true c.loop-field.invariant (sym c.if-is_some.ensures) (sym c.if-is_named.ensures))
