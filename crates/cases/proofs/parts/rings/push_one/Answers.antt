use Rattle.std.proofs.Common.{◌≡◌, [], ◌∷◌, ◌++◌, List, sym, ap, ◌∙◌, subst, arith}
use Rattle.event_ring.specs.Events.{EventRows}
use Rattle.event_ring.specs.Rings.{IsNext}
use Rattle.event_ring.proofs.PlaceLemmas.{next_one}
use Rattle.cases.proofs.parts.rings.push_one.Goals as goal

pub push_revision-requires : goal.push_revision-requires
push_revision-requires c =
    let event = c.in_ok-new.field-0 in
    let items : c.push.new.self.items ≡ event ∷ [] = c.in_ok-push.ensures.items ∙ ap (λ (xs : List EventRows). xs ++ event ∷ []) c.new-events.ensures.items in
    let rev : event.rev ≡ c.args.rev = ap (λ (e : EventRows). e.rev) c.in_ok-new.ensures.event in
    subst (IsNext c.args.ring.now) (sym items) (next_one c.args.ring.now event c.last.result c.last.ensures.floor c.last.ensures.top (omega (arith, rev)))
