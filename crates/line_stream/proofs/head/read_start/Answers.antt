use Rattle.std.proofs.Common.{subst}
use Rattle.line_stream.specs.HeadSteps.{FindsBody}
use Rattle.line_stream.proofs.HeadLemmas.{finds-body, refuses-head}
use Rattle.line_stream.proofs.head.read_start.Goals as goal

pub returns-in-Err-clause-reads : goal.returns-in-Err-clause-reads
returns-in-Err-clause-reads g c =
    let came = c.in-Err.ensures.reads in
    (came.0, came.1, came.2, refuses-head c.find_head.new.kept (g.S.Source.left c.find_head.new.source) c.in-Err.why came.3)

pub returns-clause-reads : goal.returns-clause-reads
returns-clause-reads g c =
    let came = c.in-Ok.ensures.reads in
    let left = g.S.Source.left c.find_head.new.source in
    (came.0, came.1, came.2, subst (λ b. FindsBody b left c.body_start.result) c.bytes.ensures (finds-body c.bytes.result.now left c.body_start.result c.body_start.ensures))
