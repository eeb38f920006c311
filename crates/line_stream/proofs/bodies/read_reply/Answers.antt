use Rattle.std.proofs.Common.{◌++◌, ap, subst, ◌∙◌, inl}
use Rattle.edge_io.specs.Told.{prepended}
use Rattle.edge_io.proofs.ToldLemmas.{prepended-prepended}
use Rattle.line_stream.specs.Framings.{RefusesFramed}
use Rattle.line_stream.proofs.BodyLemmas.{reply-read, reply-stops}
use Rattle.line_stream.proofs.bodies.read_reply.Goals as goal

pub returns-in-Err-clause-reads : goal.returns-in-Err-clause-reads
returns-in-Err-clause-reads g c =
    let came = c.in-Err.ensures.reads in (
      came.0,
      came.1,
      inl (came.2, subst (λ b. RefusesFramed b (g.S.Source.left c.read_framing.new.source) c.in-Err.why) came.2 came.3),
    )

pub returns-in-Ok-read_rest-clause-reads : goal.returns-in-Ok-read_rest-clause-reads
returns-in-Ok-read_rest-clause-reads g c =
    let head = c.in-Ok.ensures.reads in
    let rest = c.in-Ok-read_rest.ensures.reads in (
      head.0 ++ rest.0,
      head.1 ∙ ap (prepended head.0) rest.1 ∙ prepended-prepended head.0 rest.0 _,
      reply-read c.args.limit c.in-Ok.found.0 c.args.kept.now head.0 rest.0 c.read_framing.new.kept c.consume.new.self c.read_rest.new.content.items c.read_rest.new.kept
          (g.S.Source.left c.read_rest.new.source) c.in-Ok.found.1 head.2 c.consume.ensures head.3.1 c.in-Ok-read_rest.field-0 rest.2,
    )

pub returns-in-Err-read_rest-clause-reads : goal.returns-in-Err-read_rest-clause-reads
returns-in-Err-read_rest-clause-reads g c =
    let head = c.in-Ok.ensures.reads in
    let rest = c.in-Err-read_rest.ensures.reads in (
      head.0 ++ rest.0,
      head.1 ∙ ap (prepended head.0) rest.1 ∙ prepended-prepended head.0 rest.0 _,
      reply-stops c.args.limit c.in-Ok.found.0 c.args.kept.now head.0 rest.0 c.read_framing.new.kept c.consume.new.self c.read_rest.new.content.items c.read_rest.new.kept
          (g.S.Source.left c.read_rest.new.source) c.in-Ok.found.1 head.2 c.consume.ensures head.3.1 c.in-Err-read_rest.why rest.2,
    )
