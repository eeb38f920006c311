use Rattle.std.proofs.Common.{ap, sym, subst, refl, ◌∙◌, ◌++◌, [], length, length-append, append_assoc, append-nil, arith}
use Rattle.edge_io.specs.Counts.{Rose}
use Rattle.edge_io.specs.Told.{prepended}
use Rattle.edge_io.proofs.ToldLemmas.{prepended-nil, prepended-prepended}
use Rattle.http_read.proofs.reader.read_rest.Goals as goal

pub loop-source-init : goal.loop-source-init
loop-source-init g c = record {
  within = c.requires.within;
  reserved = c.requires.reserved;
  taken = ([], sym (append-nil _), sym (prepended-nil _));
  idle = λ whole. refl;
  quiet = refl;
}

pub returns-in-Ok-eq0-clause-reads : goal.returns-in-Ok-eq0-clause-reads
returns-in-Ok-eq0-clause-reads g c =
    let came = c.loop-source.invariant.taken in
    let more = c.in-Ok-eq0.ensures.more in (
      came.0 ++ more.taken,
      came.2 ∙ ap (prepended came.0) more.left ∙ prepended-prepended came.0 more.taken _,
      (
        omega (arith, c.loop-source-test.true, ap length came.1, length-append c.args.body.now.items came.0, length-append came.0 more.taken, length-append c.args.body.now.items (came.0 ++ more.taken), more.count),
        more.over c.in-Ok-eq0.field-0-test,
      ),
    )

pub loop-source-preserved : goal.loop-source-preserved
loop-source-preserved g c =
    let came = c.loop-source.invariant.taken in
    let more = c.in-Ok.ensures.more in record {
      within = c.in-Ok.ensures.within;
      reserved = c.in-Ok.ensures.reserved;
      taken = (
        came.0 ++ more.taken,
        more.body ∙ ap (λ l. l ++ more.taken) came.1 ∙ append_assoc _ came.0 more.taken,
        came.2 ∙ ap (prepended came.0) more.left ∙ prepended-prepended came.0 more.taken _,
      );
      idle = λ whole. absurd (omega (arith, c.loop-source-test.true, whole, ap length came.1, length-append c.args.body.now.items came.0));
      quiet = c.in-Ok.ensures.quiet ∙ c.loop-source.invariant.quiet;
    }

pub returns-in-Err-clause-reads : goal.returns-in-Err-clause-reads
returns-in-Err-clause-reads g c =
    let came = c.loop-source.invariant.taken in (
      came.0,
      came.2 ∙ ap (prepended came.0) (sym c.in-Err.ensures.kept.1),
      (
        subst (λ f. Rose f (g.S.Source.faults c.read_more.new.source)) c.loop-source.invariant.quiet c.in-Err.ensures.counted,
        omega (arith, c.loop-source-test.true, ap length came.1, length-append c.args.body.now.items came.0),
      ),
    )

pub returns-clause-reads : goal.returns-clause-reads
returns-clause-reads g c =
    let came = c.loop-source.invariant.taken in (
      came.0,
      came.2,
      (sym came.1 ∙ sym (append-nil _), omega (arith, c.loop-source-test.false, c.loop-source.invariant.within)),
    )
