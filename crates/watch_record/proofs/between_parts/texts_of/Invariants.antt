use Rattle.std.specs.Prelude.{map}
use Rattle.watch_record.proofs.PartLemmas.{Splits}
use Rattle.watch_record.proofs.between_parts.texts_of.Given as goal

abbrev pub invariant-loop-at : goal.invariant-loop-at
invariant-loop-at l = Splits l.bytes (map (λ text. text.now) l.texts.items) l.start l.at l.fresh
