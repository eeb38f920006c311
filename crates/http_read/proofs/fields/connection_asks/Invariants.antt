use Rattle.std.proofs.Common.{◌≡◌, map, take, codes}
use Rattle.httparse.specs.Spans.{header_bytes}
use Rattle.http_read.specs.Heads.{connection_has}
use Rattle.http_read.proofs.fields.connection_asks.Given as goal

-- what the fields so far ask for
abbrev pub invariant-loop-field : goal.invariant-loop-field
invariant-loop-field l = record {
  upgrade : l.upgrade ≡ connection_has (codes "upgrade") (map (header_bytes l.bytes) (take l.field-index l.fields));
  close : l.close ≡ connection_has (codes "close") (map (header_bytes l.bytes) (take l.field-index l.fields));
}
