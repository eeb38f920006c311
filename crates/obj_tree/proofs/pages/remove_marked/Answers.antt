use Rattle.std.proofs.Common.{length, ap, ◌∙◌, arith}
use Rattle.std.proofs.lemmas.List.{length-map}
use Rattle.obj_tree.specs.Pages.{values_of}
use Rattle.obj_tree.proofs.pages.remove_marked.Goals as goal

pub follow-requires-clause-inside : goal.follow-requires-clause-inside
follow-requires-clause-inside c = omega (arith, c.requires.inside, c.len-count.ensures)

pub follow-requires-clause-old : goal.follow-requires-clause-old
follow-requires-clause-old c =
    (values_of c.args.pages.now.items, omega (arith, length-map c.args.pages.now.items (λ p. p.value), c.len-count.ensures), c.requires.marks, λ more. let by = c.in_ok-remove_row.ensures.near (omega (arith, more, c.len-count.ensures, ap length c.deref.ensures.value)) in (by.0, ap values_of c.deref.ensures.value ∙ by.1))
