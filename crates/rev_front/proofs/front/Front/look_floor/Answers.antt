use Rattle.std.proofs.Common.{ap}
use Rattle.rev_front.proofs.Moves.{read_floor_allowed}
use Rattle.rev_front.proofs.Handles.{seated}
use Rattle.rev_front.proofs.front.Front.look_floor.Goals as goal

pub load-self-inside-requires : goal.load-self-inside-requires
load-self-inside-requires g c =
    let ok = seated _ _ _ _ _ _ c.self.invariant.0 (ap (λ t. t.shared.table_id) c.deref.ensures) in
    (ok.0, ok.3, read_floor_allowed g.E.Entry.fits _ _ _ _ c.self.invariant.1.role)
