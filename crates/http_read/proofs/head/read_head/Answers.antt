use Rattle.std.proofs.Common.{subst, ap, ◌∙◌, ◌++◌, append_assoc, inr}
use Rattle.edge_io.specs.Told.{prepended}
use Rattle.edge_io.proofs.ToldLemmas.{prepended-prepended}
use Rattle.http_read.specs.Requests.{RefusesHead}
use Rattle.http_read.proofs.HeadLemmas.{refuses-head, ends-in-head}
use Rattle.http_read.proofs.IdleLemmas.{other-case, unfinished-before}
use Rattle.http_read.proofs.head.read_head.Goals as goal

pub returns-in-Err-clause-reads : goal.returns-in-Err-clause-reads
returns-in-Err-clause-reads g c =
    let so_far = c.loop-found.invariant.taken in
    (so_far.0, so_far.1, so_far.2, refuses-head c.loop-found.kept c.look.new.spans (g.S.Source.left c.loop-found.source) (g.S.Source.faults c.args.source.now) (g.S.Source.faults c.loop-found.source) c.in-Err.why (subst (λ b. RefusesHead b c.in-Err.why) c.bytes.ensures c.in-Err.ensures))

pub returns-in-Ok-eq0-2-clause-reads : goal.returns-in-Ok-eq0-2-clause-reads
returns-in-Ok-eq0-2-clause-reads g c =
    let so_far = c.loop-found.invariant.taken in
    let came = c.in-Ok-eq0.ensures.taken in (
      so_far.0 ++ came.0,
      so_far.1 ∙ ap (prepended so_far.0) came.3 ∙ prepended-prepended so_far.0 came.0 _,
      came.2 ∙ ap (λ l. l ++ came.0) so_far.2 ∙ append_assoc _ so_far.0 came.0,
      (
        ends-in-head c.bytes.result.now c.loop-found.kept c.fill.new.self came.0 c.in-Ok-eq0.field-0 c.bytes.ensures
            (rw c.in-Ok-None.field-0-is at c.in-Ok-None.ensures) came.1 c.in-Ok-eq0.field-0-test came.2 c.if-is_empty.ensures,
        came.4 c.in-Ok-eq0.field-0-test,
      ),
    )

pub returns-in-Ok-Some-clause-idle : goal.returns-in-Ok-Some-clause-idle
returns-in-Ok-Some-clause-idle g c = other-case c.loop-found.invariant.idle

pub returns-in-Ok-eq0-2-clause-idle : goal.returns-in-Ok-eq0-2-clause-idle
returns-in-Ok-eq0-2-clause-idle g c = λ finished.
    absurd (finished (unfinished-before c.bytes.result.now c.loop-found.kept c.args.kept.now c.bytes.ensures
    (rw c.in-Ok-None.field-0-is at c.in-Ok-None.ensures) c.loop-found.invariant.idle))

pub returns-in-Err-Fault-clause-idle : goal.returns-in-Err-Fault-clause-idle
returns-in-Err-Fault-clause-idle g c = λ finished.
    absurd (finished (unfinished-before c.bytes.result.now c.loop-found.kept c.args.kept.now c.bytes.ensures
    (rw c.in-Ok-None.field-0-is at c.in-Ok-None.ensures) c.loop-found.invariant.idle))

pub returns-in-Err-Memory-clause-idle : goal.returns-in-Err-Memory-clause-idle
returns-in-Err-Memory-clause-idle g c = λ finished.
    absurd (finished (unfinished-before c.bytes.result.now c.loop-found.kept c.args.kept.now c.bytes.ensures
    (rw c.in-Ok-None.field-0-is at c.in-Ok-None.ensures) c.loop-found.invariant.idle))

pub loop-found-preserved : goal.loop-found-preserved
loop-found-preserved g c =
    let so_far = c.loop-found.invariant.taken in
    let came = c.in-Ok.ensures.taken in record {
      spans = c.look.auto.spans ∙ c.loop-found.invariant.spans;
      taken = (
        so_far.0 ++ came.0,
        so_far.1 ∙ ap (prepended so_far.0) came.3 ∙ prepended-prepended so_far.0 came.0 _,
        came.2 ∙ ap (λ l. l ++ came.0) so_far.2 ∙ append_assoc _ so_far.0 came.0,
      );
      idle = inr (unfinished-before c.bytes.result.now c.loop-found.kept c.args.kept.now c.bytes.ensures
          (rw c.in-Ok-None.field-0-is at c.in-Ok-None.ensures) c.loop-found.invariant.idle);
      quiet = c.in-Ok.ensures.quiet ∙ c.loop-found.invariant.quiet;
    }
