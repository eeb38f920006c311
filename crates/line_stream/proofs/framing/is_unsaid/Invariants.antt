use Rattle.std.proofs.Common.{◌≡◌, [], map, take}
use Rattle.httparse.specs.Spans.{header_bytes}
use Rattle.http_read.specs.Heads.{values_of}
use Rattle.line_stream.proofs.framing.is_unsaid.Given as goal

-- no values so far
abbrev pub invariant-loop-field : goal.invariant-loop-field
invariant-loop-field l = values_of l.name (map (header_bytes l.bytes) (take l.field-index l.fields)) ≡ []
