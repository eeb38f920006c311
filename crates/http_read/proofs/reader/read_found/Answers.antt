use Rattle.std.proofs.Common.{ap, sym, subst, refl, ◌≡◌, ◌∙◌, ◌++◌, [], drop, length, append-nil, arith}
use Rattle.std.specs.Prelude.{Ok, Err}
use Rattle.edge_io.proofs.ToldLemmas.{prepended-nil}
use Rattle.httparse.specs.Spans.{IsRequestAt}
use Rattle.http_read.specs.Requests.{front}
use Rattle.http_read.specs.Steps.{FillsBody}
use Rattle.http_read.proofs.BodyLemmas.{has-head, head-within, refuses-body, breaks-off, reads-one}
use Rattle.http_read.proofs.IdleLemmas.{body-stands, head-here}
use Rattle.http_read.proofs.reader.read_found.Goals as goal

pub returns-in-Err-clause-reads : goal.returns-in-Err-clause-reads
returns-in-Err-clause-reads g c =
    let kept = c.args.kept.now in
    let f = c.requires in
    let at = subst (λ s. IsRequestAt (front c.bytes.result.now) s c.args.found f.head) (sym c.as_slice.ensures.value) (subst (λ b. IsRequestAt (front b) c.args.spans.now.items c.args.found f.head) (sym c.bytes.ensures) f.at) in
    let faults = g.S.Source.faults c.args.source.now in (
      [],
      sym (prepended-nil _),
      refuses-body (kept ++ []) f.head (drop c.args.found.len kept ++ []) c.in-Err.why kept (g.S.Source.left c.args.source.now) faults faults
          (has-head kept [] c.args.spans.now.items c.args.found f) (sym (c.in-Err.ensures f.head at)),
      λ finished. refl,
    )

pub consume-requires : goal.consume-requires
consume-requires g c = head-within c.args.kept.now _ c.args.found c.requires

pub returns-in-Ok-read_body-clause-reads : goal.returns-in-Ok-read_body-clause-reads
returns-in-Ok-read_body-clause-reads g c =
    let kept = c.args.kept.now in
    let f = c.requires in
    let at = subst (λ s. IsRequestAt (front c.bytes.result.now) s c.args.found f.head) (sym c.as_slice.ensures.value) (subst (λ b. IsRequestAt (front b) c.args.spans.now.items c.args.found f.head) (sym c.bytes.ensures) f.at) in
    let at-2 = subst (λ s. IsRequestAt (front c.bytes-2.result.now) s c.args.found f.head) (sym c.as_slice-2.ensures.value) (subst (λ b. IsRequestAt (front b) c.args.spans.now.items c.args.found f.head) (sym c.bytes-2.ensures) f.at) in
    let came = c.in-Ok-read_body.ensures.reads in
    let body : c.from_vec.result ≡ c.read_body.new.body.items = c.from_vec.ensures in
    let long : c.in-Ok.length ≡ length c.from_vec.result = sym came.2.1 ∙ ap length (sym body) in (
      came.0,
      came.1,
      reads-one (kept ++ came.0) f.head (drop c.args.found.len kept ++ came.0) c.from_vec.result c.read_body.new.kept c.in-Ok-request_in.req
          (has-head kept came.0 c.args.spans.now.items c.args.found f)
          (ap (λ l. l ++ came.0) (sym c.consume.ensures) ∙ came.2.0 ∙ ap (λ l. l ++ c.read_body.new.kept) (sym body))
          (sym (c.in-Ok.ensures f.head at) ∙ ap Ok long)
          (c.in-Ok-request_in.ensures f.head at-2),
      λ finished.
          let stands = body-stands kept f.head (drop c.args.found.len kept) c.in-Ok.length (head-here kept c.args.spans.now.items c.args.found f) (sym (c.in-Ok.ensures f.head at)) finished in
          came.3 (omega (arith, stands, ap length c.consume.ensures)),
    )

pub returns-in-Err-read_body-clause-reads : goal.returns-in-Err-read_body-clause-reads
returns-in-Err-read_body-clause-reads g c =
    let kept = c.args.kept.now in
    let f = c.requires in
    let at = subst (λ s. IsRequestAt (front c.bytes.result.now) s c.args.found f.head) (sym c.as_slice.ensures.value) (subst (λ b. IsRequestAt (front b) c.args.spans.now.items c.args.found f.head) (sym c.bytes.ensures) f.at) in
    let came = c.in-Err-read_body.ensures.reads in
    let left = g.S.Source.left c.read_body.new.source in
    let old_faults = g.S.Source.faults c.args.source.now in
    let new_faults = g.S.Source.faults c.read_body.new.source in
    let body = c.read_body.new.body.items in (
      came.0,
      came.1,
      breaks-off (kept ++ came.0) f.head c.in-Ok.length (drop c.args.found.len kept ++ came.0) body c.read_body.new.kept left old_faults new_faults c.in-Err-read_body.why
          (has-head kept came.0 c.args.spans.now.items c.args.found f)
          (sym (c.in-Ok.ensures f.head at))
          (subst (λ l. FillsBody c.in-Ok.length (l ++ came.0) body c.read_body.new.kept left old_faults new_faults (Err c.in-Err-read_body.why)) c.consume.ensures came.2),
      λ finished.
          let stands = body-stands kept f.head (drop c.args.found.len kept) c.in-Ok.length (head-here kept c.args.spans.now.items c.args.found f) (sym (c.in-Ok.ensures f.head at)) finished in
          came.3 (omega (arith, stands, ap length c.consume.ensures)),
    )

pub returns-in-Ok-read_body-clause-idle : goal.returns-in-Ok-read_body-clause-idle
returns-in-Ok-read_body-clause-idle g c = λ finished.
    let kept = c.args.kept.now in
    let f = c.requires in
    let at = subst (λ s. IsRequestAt (front c.bytes.result.now) s c.args.found f.head) (sym c.as_slice.ensures.value) (subst (λ b. IsRequestAt (front b) c.args.spans.now.items c.args.found f.head) (sym c.bytes.ensures) f.at) in
    let stands = body-stands kept f.head (drop c.args.found.len kept) c.in-Ok.length (head-here kept c.args.spans.now.items c.args.found f) (sym (c.in-Ok.ensures f.head at)) finished in
    c.in-Ok-read_body.ensures.idle (omega (arith, stands, ap length c.consume.ensures))

pub returns-in-Err-read_body-clause-idle : goal.returns-in-Err-read_body-clause-idle
returns-in-Err-read_body-clause-idle g c = λ finished.
    let kept = c.args.kept.now in
    let f = c.requires in
    let at = subst (λ s. IsRequestAt (front c.bytes.result.now) s c.args.found f.head) (sym c.as_slice.ensures.value) (subst (λ b. IsRequestAt (front b) c.args.spans.now.items c.args.found f.head) (sym c.bytes.ensures) f.at) in
    let stands = body-stands kept f.head (drop c.args.found.len kept) c.in-Ok.length (head-here kept c.args.spans.now.items c.args.found f) (sym (c.in-Ok.ensures f.head at)) finished in
    c.in-Err-read_body.ensures.idle (omega (arith, stands, ap length c.consume.ensures))

pub returns-in-Err-request_in-clause-reads : goal.returns-in-Err-request_in-clause-reads
returns-in-Err-request_in-clause-reads g c =
    ([], sym (prepended-nil _), sym (append-nil c.args.kept.now), λ finished. refl)

pub returns-in-Err-with_capacity-clause-reads : goal.returns-in-Err-with_capacity-clause-reads
returns-in-Err-with_capacity-clause-reads g c =
    ([], sym (prepended-nil _), sym (append-nil c.args.kept.now), λ finished. refl)
