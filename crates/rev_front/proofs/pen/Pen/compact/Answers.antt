use Rattle.std.proofs.Common.{◌≡◌, ap, sym, ◌∙◌, arith}
use Rattle.rev_front.specs.Passes.{revision}
use Rattle.rev_front.proofs.Moves.{set_floor_allowed}
use Rattle.rev_front.proofs.Handles.{seated}
use Rattle.rev_front.proofs.pen.Pen.compact.Goals as goal

pub store-requires : goal.store-requires
store-requires g c =
    let ok = seated _ _ _ _ _ _ c.self.invariant.0 (ap (λ t. t.shared.table_id) c.deref.ensures) in
    let w = c.self.invariant.1 in
    let reached : revision c.args.self.now ≡ c.self.inside.seat.me.0.shown = sym (ap revision c.self.view_is) ∙ sym w.leads.shown in
    let floor = ap (λ p. p.floor) c.self.view_is in
    let above = c.requires.above in
    let within = c.requires.reached in
    (ok.0, ok.3, set_floor_allowed g.E.Entry.fits _ _ _ _ _ w.first_seat (omega arith) (omega arith))
