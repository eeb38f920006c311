use Rattle.std.proofs.Common.{◌≡◌, length, refl, arith}
use Rattle.std.proofs.lemmas.List.{same_lists}
use Rattle.field_select.proofs.selector.are_same.Goals as goal

pub returns : goal.returns
returns c =
    let xs = c.args.terms.now in
    let ys = c.args.others.now in
    let lengths : length xs ≡ length ys = omega arith in
    (λ _. same_lists xs ys lengths (λ k d lt. c.loop-i.invariant k d (omega arith)), λ _. refl)
