use Rattle.std.proofs.Common.{inl, inr, refl}
use Rattle.mirror_link.proofs.LineLemmas.{bounded}
use Rattle.mirror_link.proofs.lines.take_line.Goals as goal

pub hear_line-requires : goal.hear_line-requires
hear_line-requires g c = bounded c.args.text.now c.in-Ok.read c.in-Ok.ensures

pub returns-in-Err-clause-hears : goal.returns-in-Err-clause-hears
returns-in-Err-clause-hears g c = inl (refl, refl)

pub returns-in-Ok-hear_line-clause-hears : goal.returns-in-Ok-hear_line-clause-hears
returns-in-Ok-hear_line-clause-hears g c = (c.in-Ok.read, c.in-Ok.ensures, c.in-Ok-hear_line.ensures.hears)

pub returns-in-Err-hear_line-clause-hears : goal.returns-in-Err-hear_line-clause-hears
returns-in-Err-hear_line-clause-hears g c = inr (c.in-Ok.read, c.in-Ok.ensures, c.in-Err-hear_line.ensures.hears)
