use Rattle.std.proofs.Common.{Option, List, ℕ, IfSome, subst}
use Rattle.std.specs.BTreeSet.{BTreeSet}
use Rattle.label_select.specs.Values.{HasAll}
use Rattle.label_select.proofs.SetLaws.{in_is_listed}
use Rattle.label_select.proofs.requirements.Values.contain.Goals as goal

pub returns-in-Some : goal.returns-in-Some
returns-in-Some c =
    let texts : List (List ℕ) = c.self.inside.texts.items in
    let has : HasAll texts c.in-Some.ordered = subst (λ (o : Option (BTreeSet (List ℕ))). IfSome o (HasAll texts)) c.in-Some.is c.self.invariant in
    rw (← c.self.view_is, c.contains.ensures) (in_is_listed texts c.in-Some.ordered c.args.value.now has)
