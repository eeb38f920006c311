use Rattle.std.proofs.Common.{◌≡◌, ◌++◌, sym, ap, subst, ◌∙◌}
use Rattle.line_stream.specs.Heads.{RefusesResponse, BeginsChunks}
use Rattle.line_stream.proofs.HeadLemmas.{kept-with, body-with}
use Rattle.line_stream.proofs.lines.LineReader.read_head.Goals as goal

pub returns-in-Err-clause-reads : goal.returns-in-Err-clause-reads
returns-in-Err-clause-reads g c =
    let came = c.in-Err.ensures.reads in
    let kept : c.read_start.new.kept ≡ c.args.self.now.at.kept ++ came.0 = came.2 ∙ ap (λ v. v.at.kept ++ came.0) c.self.view_is in (
      came.0,
      came.1,
      (
        subst (λ b. RefusesResponse b (g.S.Source.left c.read_start.new.source) c.in-Err.why) kept came.3,
        kept-with _ c.args.self.now _ (c.args.self.now.at.kept ++ came.0) c.self.view_is kept,
      ),
    )

pub returns-clause-reads : goal.returns-clause-reads
returns-clause-reads g c =
    let came = c.in-Ok.ensures.reads in
    let kept : c.read_start.new.kept ≡ c.args.self.now.at.kept ++ came.0 = came.2 ∙ ap (λ v. v.at.kept ++ came.0) c.self.view_is in (
      came.0,
      came.1,
      (
        c.consume.new.self,
        subst (λ b. BeginsChunks b c.consume.new.self) kept (subst (BeginsChunks c.read_start.new.kept) (sym c.consume.ensures) came.3.1),
        body-with _ c.args.self.now _ _ c.self.view_is c.clear.ensures.items,
      ),
    )
