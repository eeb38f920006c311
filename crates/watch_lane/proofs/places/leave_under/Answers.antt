use Rattle.std.proofs.Common.{arith}
use Rattle.std.proofs.lemmas.Map.Text.{text_keys}
use Rattle.watch_lane.proofs.Numbers.{is_eq-nat_cmp, only_was}
use Rattle.watch_lane.proofs.places.leave_under.Goals as goal

pub returns-then-is_empty : goal.returns-then-is_empty
returns-then-is_empty c = λ v i. grind (arith, text_keys, only_was c.in-Some.ids.now c.remove.new.self c.args.id i (c.is_empty.ensures.0 c.if-is_empty.true) (c.remove.ensures.updates.0 i))

pub returns-else-is_empty : goal.returns-else-is_empty
returns-else-is_empty c = λ v i. grind (arith, text_keys, is_eq-nat_cmp c.args.id i)
