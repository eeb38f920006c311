use Rattle.std.proofs.Common.{ap}
use Rattle.rev_log.specs.Changes.{ChangeData}
use Rattle.mirror_log.proofs.SlotLemmas.{put_again}
use Rattle.mirror_log.proofs.slots.put.Goals as goal

pub returns : goal.returns
returns c =
    put_again c.args.slots.now.entries c.taken-slot.new.slots.entries c.insert.new.self.entries c.args.change c.change.inside.rev c.taken-slot.result _ (ap (λ (x : ChangeData). x.rev) c.change.view_is)
    c.taken-slot.ensures.slot c.in_ok-add.ensures c.taken-slot.ensures.rest c.in_ok-insert.ensures.updates.0
