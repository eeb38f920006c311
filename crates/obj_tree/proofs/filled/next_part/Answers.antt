use Rattle.std.proofs.Common.{◌≡◌, [], length, map, arith}
use Rattle.std.proofs.lemmas.List.{length-map}
use Rattle.obj_tree.specs.Pages.{values_of}
use Rattle.obj_tree.proofs.FillLemmas.{filled-append, one_more}
use Rattle.obj_tree.proofs.filled.next_part.Goals as goal

pub returns-clause-filled : goal.returns-clause-filled
returns-clause-filled c =
    let full = values_of c.args.full.items in
    let long : length full ≡ 48 = omega (arith, length-map c.args.full.items (λ p. p.value), c.requires.full) in
    rw c.in_ok-add.ensures (filled-append (map (λ part. values_of part.items) c.args.parts.now.items) full c.requires.filled long)

pub returns-clause-rows : goal.returns-clause-rows
returns-clause-rows c =
    let none : c.in_ok-next.next.items ≡ [] = c.in_ok-next.ensures.items in
    rw (none, c.in_ok-add.ensures) (one_more (map (λ part. values_of part.items) c.args.parts.now.items) (values_of c.args.full.items))
