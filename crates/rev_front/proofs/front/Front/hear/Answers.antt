use Rattle.std.proofs.Common.{ap, ◌∙◌}
use Rattle.rev_front.proofs.Moves.{meet_allowed, recall_pass_allowed}
use Rattle.rev_front.proofs.Handles.{seated, together}
use Rattle.rev_front.proofs.front.Front.hear.Goals as goal

pub join_seat-requires : goal.join_seat-requires
join_seat-requires g c =
    let at = ap (λ t. t.shared.table_id) c.deref.ensures in
    let ok = seated _ _ _ _ _ _ c.self.invariant.0 at in (
      ok.0,
      together _ _ _ _ _ _ _ _ c.self.invariant.0 c.news.invariant.0 at,
      c.news.invariant.0.bare,
      ok.1,
      meet_allowed g.E.Entry.fits _ _ _ _ _ c.self.invariant.1.role c.news.invariant.1.role,
    )

pub load-self-inside-requires : goal.load-self-inside-requires
load-self-inside-requires g c =
    let ok = seated _ _ _ _ _ _ c.self.invariant.0 (ap (λ t. t.shared.table_id) c.deref.ensures) in
    let e = c.join_seat.ensures in
    (e.0 ∙ ok.0, ok.1, recall_pass_allowed g.E.Entry.fits _ _ _ _ (ap (λ m. m.0.role) e.2 ∙ c.self.invariant.1.role))
