use Rattle.std.proofs.Common.{◌≡◌, map, take}
use Rattle.std.specs.List.{list_any}
use Rattle.httparse.specs.Spans.{header_bytes}
use Rattle.http_read.specs.Sites.{asks_elsewhere}
use Rattle.http_read.proofs.sites.some_asks_elsewhere.Given as goal

-- whether a field so far says that the server was asked by the name of another site
abbrev pub invariant-loop-field : goal.invariant-loop-field
invariant-loop-field l = l.elsewhere ≡ list_any asks_elsewhere (map (header_bytes l.bytes) (take l.field-index l.fields))
