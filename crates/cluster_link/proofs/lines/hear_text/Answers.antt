use Rattle.std.proofs.Common.{inl, inr, refl, subst}
use Rattle.select_all.specs.declared.selection.Selection.{Selection}
use Rattle.watch_lines.specs.Values.{ReadsByValue}
use Rattle.cluster_link.proofs.LineLemmas.{in_bounds}
use Rattle.cluster_link.proofs.lines.hear_text.Goals as goal

pub hear_told-requires : goal.hear_told-requires
hear_told-requires g c = in_bounds c.selection.result.now.resource c.what_is_told_is_kept.ensures c.args.text.now c.in-Ok.found c.in-Ok.ensures

pub returns-in-Err-clause-hears : goal.returns-in-Err-clause-hears
returns-in-Err-clause-hears g c = inl (refl, refl)

pub returns-in-Ok-hear_told-clause-hears : goal.returns-in-Ok-hear_told-clause-hears
returns-in-Ok-hear_told-clause-hears g c = (c.in-Ok.found, subst (λ (s : Selection). ReadsByValue s.resource c.args.text.now c.in-Ok.found) c.selection.ensures c.in-Ok.ensures, c.in-Ok-hear_told.ensures.hears)

pub returns-in-Err-hear_told-clause-hears : goal.returns-in-Err-hear_told-clause-hears
returns-in-Err-hear_told-clause-hears g c = inr (c.in-Ok.found, subst (λ (s : Selection). ReadsByValue s.resource c.args.text.now c.in-Ok.found) c.selection.ensures c.in-Ok.ensures, c.in-Err-hear_told.ensures.hears)
