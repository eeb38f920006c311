use Rattle.std.proofs.Common.{subst, sym}
use Rattle.line_stream.specs.Heads.{IsNoHead, LacksHead}
use Rattle.line_stream.proofs.head.find_head.Goals as goal

pub returns-in-Err-clause-reads : goal.returns-in-Err-clause-reads
returns-in-Err-clause-reads g c =
    let so_far = c.loop-found.invariant.taken in
    let none = c.in-Err.ensures in
    (so_far.0, so_far.1, so_far.2, subst (LacksHead c.loop-found.kept (g.S.Source.left c.loop-found.source)) (sym none.0) (subst IsNoHead c.bytes.ensures none.1))
