use Rattle.std.proofs.Common.{ap, ◌∙◌}
use Rattle.rev_front.proofs.Moves.{learn_allowed, recall_pen_allowed}
use Rattle.rev_front.proofs.Handles.{seated, together}
use Rattle.rev_front.proofs.pen.Pen.hear.Goals as goal

pub join_seat-requires : goal.join_seat-requires
join_seat-requires g c =
    let at = ap (λ t. t.shared.table_id) c.deref.ensures in
    let ok = seated _ _ _ _ _ _ c.self.invariant.0 at in (
      ok.0,
      together _ _ _ _ _ _ _ _ c.self.invariant.0 c.news.invariant.0 at,
      c.news.invariant.0.bare,
      ok.1,
      learn_allowed g.E.Entry.fits _ _ _ _ _ c.self.invariant.1.first_seat c.news.invariant.1.role,
    )

pub load-requires : goal.load-requires
load-requires g c =
    let ok = seated _ _ _ _ _ _ c.self.invariant.0 (ap (λ t. t.shared.table_id) c.deref.ensures) in
    let e = c.join_seat.ensures in
    (e.0 ∙ ok.0, ok.1, recall_pen_allowed g.E.Entry.fits _ _ _ _ (e.1 ∙ c.self.invariant.1.first_seat))
