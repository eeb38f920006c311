use Rattle.std.proofs.Common.{◌≡◌, map, take}
use Rattle.std.specs.Prelude.{find, None}
use Rattle.httparse.specs.Spans.{header_bytes}
use Rattle.http_read.specs.Heads.{is_named}
use Rattle.http_read.proofs.fields.value_of.Given as goal

-- no field so far has the name
abbrev pub invariant-loop-field : goal.invariant-loop-field
invariant-loop-field l = find (is_named l.name) (map (header_bytes l.bytes) (take l.field-index l.fields)) ≡ None
