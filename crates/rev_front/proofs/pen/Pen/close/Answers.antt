use Rattle.std.proofs.Common.{ap, ◌∙◌, subst, ◌∷◌, []}
use Rattle.rev_front.specs.Rule.{Stands, whole_of}
use Rattle.rev_front.proofs.Handles.{closes}
use Rattle.rev_front.proofs.pen.Pen.close.Goals as goal

pub returns-in-Ok : goal.returns-in-Ok
returns-in-Ok g c =
    let f = c.close_with-closed.ensures.values.2 in
    let key = ap (λ t. t.shared.key) c.in-Ok.ensures.ok ∙ c.self.invariant.0.key_is in
    let same = ap (λ k. whole_of k c.self.inside.seat.me.0) key ∙ c.self.view_is in
    subst (λ w. Stands g.E.Entry.fits w (c.word.result ∷ c.word-in-Ok.result ∷ c.word-in-Ok-2.result ∷ [])) same
    (closes g.E.Entry.fits _ _ _ _ _ _ _ c.self.invariant.1.first_seat f.0 f.1.0 f.1.1 f.2 c.word.ensures c.word-in-Ok.ensures c.word-in-Ok-2.ensures)
