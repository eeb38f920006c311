use Rattle.std.proofs.Common.{map, ap, ◌∙◌, codes, option_and_then}
use Rattle.std.specs.Option.{option_map}
use Rattle.httparse.specs.Spans.{header_bytes}
use Rattle.http_read.specs.Heads.{values_of, length_value}
use Rattle.line_stream.specs.declared.framing.Framing.TheVariants.{Counted}
use Rattle.line_stream.proofs.FramingLemmas.{said-chunks, said-otherwise, said-length}
use Rattle.line_stream.proofs.framing.framing_of.Goals as goal

pub returns-then-says_chunked : goal.returns-then-says_chunked
returns-then-says_chunked c =
    let fields = map (header_bytes c.args.bytes.now) c.args.fields.now in
    said-chunks (values_of (codes "transfer-encoding") fields) (values_of (codes "content-length") fields) c.if-says_chunked.ensures

pub returns-then-not-is_unsaid : goal.returns-then-not-is_unsaid
returns-then-not-is_unsaid c =
    let fields = map (header_bytes c.args.bytes.now) c.args.fields.now in
    said-otherwise (values_of (codes "transfer-encoding") fields) (values_of (codes "content-length") fields) c.if-says_chunked.ensures c.if-not-is_unsaid.ensures

pub returns-in-Some : goal.returns-in-Some
returns-in-Some c =
    let fields = map (header_bytes c.args.bytes.now) c.args.fields.now in
    c.counted.ensures ∙ ap (λ o. option_map Counted (option_and_then length_value o)) c.in-Some.ensures
    ∙ said-length (values_of (codes "transfer-encoding") fields) (values_of (codes "content-length") fields) c.if-says_chunked.ensures c.if-not-is_unsaid.ensures

pub returns-in-None : goal.returns-in-None
returns-in-None c =
    let fields = map (header_bytes c.args.bytes.now) c.args.fields.now in
    ap (λ o. option_map Counted (option_and_then length_value o)) c.in-None.ensures
    ∙ said-length (values_of (codes "transfer-encoding") fields) (values_of (codes "content-length") fields) c.if-says_chunked.ensures c.if-not-is_unsaid.ensures
