use Rattle.std.proofs.Common.{subst}
use Rattle.line_stream.specs.HeadSteps.{FindsFramed}
use Rattle.line_stream.proofs.FramingLemmas.{finds-framed, refuses-framed}
use Rattle.line_stream.proofs.head.read_framing.Goals as goal

pub returns-in-Err-clause-reads : goal.returns-in-Err-clause-reads
returns-in-Err-clause-reads g c =
    let came = c.in-Err.ensures.reads in
    (came.0, came.1, came.2, refuses-framed c.find_head.new.kept (g.S.Source.left c.find_head.new.source) c.in-Err.why came.3)

pub returns-clause-reads : goal.returns-clause-reads
returns-clause-reads g c =
    let came = c.in-Ok.ensures.reads in
    let left = g.S.Source.left c.find_head.new.source in
    (came.0, came.1, came.2, subst (λ b. FindsFramed b left c.body_framing.result) c.bytes.ensures (finds-framed c.bytes.result.now left c.body_framing.result c.body_framing.ensures))
