use Rattle.std.proofs.Common.{◌++◌, refl, ap, subst}
use Rattle.std.specs.Result.{result_map_both}
use Rattle.line_stream.specs.Bodies.{ReadsBody}
use Rattle.line_stream.proofs.HeadLemmas.{kept-with}
use Rattle.line_stream.proofs.lines.LineReader.read_body.Goals as goal

pub returns-clause-reads : goal.returns-clause-reads
returns-clause-reads g c =
    let came = c.read_reply.ensures.reads in
    let left = g.S.Source.left c.read_reply.new.source in (
      came.0,
      came.1,
      (
        subst (λ k. ReadsBody c.args.limit (k ++ came.0) c.read_reply.new.kept left (result_map_both (λ text. text.items) (λ why. why) c.read_reply.result)) (ap (λ v. v.at.kept) c.self.view_is) came.2,
        kept-with _ c.args.self.now _ c.read_reply.new.kept c.self.view_is refl,
      ),
    )
