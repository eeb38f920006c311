use Rattle.std.proofs.Common.{◌≡◌, map, take}
use Rattle.std.specs.List.{list_any}
use Rattle.httparse.specs.Spans.{header_bytes}
use Rattle.http_read.specs.Sites.{tells_other}
use Rattle.http_read.proofs.sites.some_tells_other.Given as goal

-- whether a field so far tells another site
abbrev pub invariant-loop-field : goal.invariant-loop-field
invariant-loop-field l = l.other ≡ list_any (tells_other l.host) (map (header_bytes l.bytes) (take l.field-index l.fields))
