use Rattle.std.proofs.Common.{ap}
use Rattle.rev_front.proofs.Moves.{split_pen_allowed}
use Rattle.rev_front.proofs.Handles.{seated}
use Rattle.rev_front.proofs.pen.Pen.tell.Goals as goal

pub split_seat-seat-requires : goal.split_seat-seat-requires
split_seat-seat-requires g c =
    let ok = seated _ _ _ _ _ _ c.self.invariant.0 (ap (λ t. t.shared.table_id) c.deref.ensures) in
    (ok.0, ok.1, split_pen_allowed g.E.Entry.fits _ _ _ c.self.invariant.1.first_seat)
