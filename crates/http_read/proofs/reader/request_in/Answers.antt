use Rattle.std.proofs.Common.{subst, sym, ap, ◌∙◌, IsUtf8}
use Rattle.httparse.specs.Spans.{span_bytes}
use Rattle.http_read.proofs.HeadLemmas.{token-text}
use Rattle.http_read.proofs.reader.request_in.Goals as goal

pub make_request-requires-clause-text : goal.make_request-requires-clause-text
make_request-requires-clause-text c =
    subst IsUtf8 (sym (c.of.ensures ∙ ap (λ b. span_bytes b c.args.found.method) c.front_of-front.ensures ∙ c.requires.at.method))
    (token-text c.requires.head.method c.requires.at.reads.0.method)
