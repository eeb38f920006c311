-- One change is in order.
use Rattle.std.proofs.Common.{◌≡◌, [], ◌∷◌, ◌++◌, ap, ◌∙◌, subst}
use Rattle.rev_log.specs.Changes.{HasItsKey}
use Rattle.rev_log.proofs.ChangeLemmas.{IsRevision-single}
use Rattle.rev_log.proofs.changes.Revision.single.Goals as goal

pub invariant_of-result : goal.invariant_of-result
invariant_of-result c =
    let items : c.push.new.self.items ≡ c.args.change ∷ [] = c.in_ok-push.ensures.items ∙ ap (λ xs. xs ++ c.args.change ∷ []) c.in_ok-changes.ensures.items in
    let number : c.change.inside.rev ≡ c.args.change.rev = ap (λ change. change.rev) c.change.view_is in
    rw (items, number) (IsRevision-single c.args.change (subst HasItsKey c.change.view_is c.change.invariant))
