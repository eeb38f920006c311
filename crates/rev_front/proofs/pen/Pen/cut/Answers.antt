use Rattle.std.proofs.Common.{ap, arith}
use Rattle.rev_front.proofs.Moves.{set_gen_allowed}
use Rattle.rev_front.proofs.Handles.{seated}
use Rattle.rev_front.proofs.pen.Pen.cut.Goals as goal

pub store-requires : goal.store-requires
store-requires g c =
    let ok = seated _ _ _ _ _ _ c.self.invariant.0 (ap (λ t. t.shared.table_id) c.deref.ensures) in
    let w = c.self.invariant.1 in
    let is = w.gen_is in
    let room = c.requires in
    let view = ap (λ p. p.gen) c.self.view_is in
    (ok.0, ok.2, set_gen_allowed g.E.Entry.fits _ _ _ _ _ w.first_seat (omega arith) (omega arith))
