use Rattle.std.proofs.Common.{[], ◌++◌, length, refl, sym, ap, subst, ◌∙◌, arith}
use Rattle.edge_io.specs.Told.{prepended}
use Rattle.edge_io.proofs.ToldLemmas.{prepended-nil, prepended-prepended}
use Rattle.line_stream.specs.BodySteps.{StopsCounted}
use Rattle.line_stream.proofs.BodyLemmas.{split-first, split-more, split-on, split-same}
use Rattle.line_stream.proofs.bodies.read_counted.Goals as goal

pub move_upto-requires : goal.move_upto-requires
move_upto-requires g c = omega (arith, ap length c.requires)

pub loop-kept-init : goal.loop-kept-init
loop-kept-init g c =
    let m = c.in_ok-move_upto.ensures.moves in record {
      taken = ([], sym (prepended-nil _), split-first _ _ _ _ _ c.requires m);
      within = m.within;
      all = m.all;
      quiet = refl;
    }

pub loop-kept-preserved : goal.loop-kept-preserved
loop-kept-preserved g c =
    let before = c.loop-kept.invariant in
    let came = c.in_ok-fill_kept.ensures in
    let m = c.in-Ok.ensures.moves in record {
      taken = (
        before.taken.0 ++ came.0,
        before.taken.1 ∙ ap (prepended before.taken.0) came.3 ∙ prepended-prepended before.taken.0 came.0 _,
        split-on _ _ _ _ _ _ (split-more c.args.kept.now before.taken.0 came.0 _ _ _ before.taken.2 came.2) m,
      );
      within = m.within;
      all = m.all;
      quiet = came.4 ∙ before.quiet;
    }

pub returns-in-Err-clause-reads : goal.returns-in-Err-clause-reads
returns-in-Err-clause-reads g c =
    let before = c.loop-kept.invariant in
    let came = c.in_ok-fill_kept.ensures in
    let same = c.in-Err.ensures.same in (
      before.taken.0 ++ came.0,
      before.taken.1 ∙ ap (prepended before.taken.0) came.3 ∙ prepended-prepended before.taken.0 came.0 _,
      (
        split-same _ _ _ _ _ (split-more c.args.kept.now before.taken.0 came.0 _ _ _ before.taken.2 came.2) same.1 same.2,
        subst (StopsCounted c.args.size c.move_upto-in-loop-kept.new.content.items c.move_upto-in-loop-kept.new.kept (g.S.Source.left c.fill_kept.new.source)) (sym same.0) tt,
      ),
    )
