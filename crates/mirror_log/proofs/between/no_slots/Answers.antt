use Rattle.std.proofs.Common.{[], sym, subst}
use Rattle.mirror_log.specs.Slots.{SlotsData, Hold}
use Rattle.mirror_log.proofs.SlotLemmas.{none_held}
use Rattle.mirror_log.proofs.between.no_slots.Goals as goal

pub returns : goal.returns
returns c = subst (λ (slots : SlotsData). Hold slots []) (sym c.new.ensures.empty) none_held
