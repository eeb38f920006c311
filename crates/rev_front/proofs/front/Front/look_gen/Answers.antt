use Rattle.std.proofs.Common.{ap}
use Rattle.rev_front.proofs.Moves.{read_gen_allowed}
use Rattle.rev_front.proofs.Handles.{seated}
use Rattle.rev_front.proofs.front.Front.look_gen.Goals as goal

pub load-requires : goal.load-requires
load-requires g c =
    let ok = seated _ _ _ _ _ _ c.self.invariant.0 (ap (λ t. t.shared.table_id) c.deref.ensures) in
    (ok.0, ok.2, read_gen_allowed g.E.Entry.fits _ _ _ _ c.self.invariant.1.role)
