use Rattle.std.proofs.Common.{ap, ◌∙◌, arith}
use Rattle.std.proofs.lemmas.List.{length-map}
use Rattle.obj_tree.specs.Pages.{values_of}
use Rattle.obj_tree.proofs.pages.put_marked.Goals as goal

pub follow-requires-clause-inside : goal.follow-requires-clause-inside
follow-requires-clause-inside c = omega (arith, c.requires.inside, c.len-count.ensures)

pub follow-requires-clause-old : goal.follow-requires-clause-old
follow-requires-clause-old c =
    (values_of c.args.pages.now.items, omega (arith, length-map c.args.pages.now.items (λ p. p.value), c.len-count.ensures), c.requires.marks, λ more. (_, ap values_of c.deref.ensures.value ∙ c.in_ok-put_row.ensures.ok))
