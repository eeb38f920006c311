use Rattle.std.proofs.Common.{ap, sym, subst, ◌≡◌, ◌≤◌, ◌∙◌, ◌++◌, [], take, length, length-take, min, arith}
use Rattle.http_read.specs.Steps.{FillsBody}
use Rattle.http_read.proofs.BodyLemmas.{fills, all_or_whole}
use Rattle.http_read.proofs.IdleLemmas.{fills-nothing}
use Rattle.http_read.proofs.reader.read_body.Goals as goal

pub returns-clause-reads : goal.returns-clause-reads
returns-clause-reads g c =
    let came = c.read_rest.ensures.reads in
    let kept = c.args.kept.now in
    let n = c.min-n.result in
    let front = c.extend_from_slice.new.self.items in
    let body = c.read_rest.new.body.items in
    let left = g.S.Source.left c.read_rest.new.source in
    let f = g.S.Source.faults c.args.source.now in
    let f' = g.S.Source.faults c.read_rest.new.source in
    let least : n ≡ min (length kept) c.args.whole = c.min-n.ensures ∙ ap (λ l. min (length l) c.args.whole) c.bytes.ensures in
    let copied : front ≡ take n kept =
    c.in-Ok.ensures.items ∙ ap (λ l. l ++ take n c.bytes-2.result.now) c.requires.empty ∙ ap (take n) c.bytes-2.ensures in
    let within : n ≤ length kept = omega (arith, least) in (
      came.0,
      came.1,
      subst (λ k. FillsBody c.args.whole (kept ++ came.0) body k left f f' c.read_rest.result) (sym (c.rest_before.ensures ∙ c.consume.ensures))
          (fills kept came.0 body n c.args.whole (all_or_whole kept n c.args.whole least) within left f f' c.read_rest.result
          (subst (λ l. FillsBody c.args.whole (l ++ came.0) body [] left f f' c.read_rest.result) copied came.2)),
      λ enough. fills-nothing front came.0 body c.args.whole left f f' c.read_rest.result (omega (arith, ap length copied, length-take n kept, least, enough)) came.2,
    )
