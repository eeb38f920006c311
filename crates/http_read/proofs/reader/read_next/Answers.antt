use Rattle.std.proofs.Common.{ap, subst, ◌∙◌, ◌++◌, append_assoc}
use Rattle.std.specs.Prelude.{Err}
use Rattle.edge_io.specs.Told.{prepended}
use Rattle.edge_io.proofs.ToldLemmas.{prepended-prepended}
use Rattle.http_read.specs.Answers.{ReadsNext}
use Rattle.http_read.proofs.BodyLemmas.{no-head}
use Rattle.http_read.proofs.IdleLemmas.{none-taken}
use Rattle.http_read.specs.Requests.{IsUnfinished}
use Rattle.http_read.proofs.reader.read_next.Goals as goal

pub returns-in-Ok-Some-clause-reads : goal.returns-in-Ok-Some-clause-reads
returns-in-Ok-Some-clause-reads g c =
    let first = c.in-Ok-Some.ensures.reads in
    let more = c.read_found.ensures.reads in
    let left = g.S.Source.left c.read_found.new.source in
    let old_faults = g.S.Source.faults c.args.source.now in
    let new_faults = g.S.Source.faults c.read_found.new.source in (
      first.0 ++ more.0,
      first.1 ∙ ap (prepended first.0) more.1 ∙ prepended-prepended first.0 more.0 _,
      subst (λ b. ReadsNext b c.read_found.result c.read_found.new.kept left old_faults new_faults)
          (ap (λ l. l ++ more.0) first.2 ∙ append_assoc c.args.kept.now first.0 more.0)
          (subst (λ f. ReadsNext (c.read_head.new.kept ++ more.0) c.read_found.result c.read_found.new.kept left f new_faults) c.in-Ok-Some.ensures.quiet more.2),
      λ finished.
          let same = (c.in-Ok-Some.ensures.idle finished).0 in
          ap (λ l. l ++ more.0) (none-taken c.args.kept.now c.read_head.new.kept first.0 first.2 same)
          ∙ more.3 (λ u. finished (subst IsUnfinished same u)),
    )

pub returns-in-Err-clause-reads : goal.returns-in-Err-clause-reads
returns-in-Err-clause-reads g c =
    let came = c.in-Err.ensures.reads in
    let left = g.S.Source.left c.read_head.new.source in
    let old_faults = g.S.Source.faults c.args.source.now in
    let new_faults = g.S.Source.faults c.read_head.new.source in (
      came.0,
      came.1,
      subst (λ b. ReadsNext b (Err c.in-Err.why) c.read_head.new.kept left old_faults new_faults) came.2
          (no-head c.read_head.new.kept c.read_head.new.spans left old_faults new_faults c.in-Err.why came.3),
      λ finished. none-taken c.args.kept.now c.read_head.new.kept came.0 came.2 (c.in-Err.ensures.idle finished).0,
    )

pub returns-in-Ok-Some-clause-idle : goal.returns-in-Ok-Some-clause-idle
returns-in-Ok-Some-clause-idle g c = λ finished.
    let same = c.in-Ok-Some.ensures.idle finished in
    c.read_found.ensures.idle (λ u. finished (subst IsUnfinished same.0 u)) ∙ same.1
