use Rattle.std.proofs.Common.{subst, sym}
use Rattle.cache_hub.proofs.WaitingLemmas.{IsNoting, noting_begins}
use Rattle.cache_hub.proofs.placed.note.Goals as goal

pub loop-id-init : goal.loop-id-init
loop-id-init g c =
    subst (IsNoting c.args.lanes.now.entries c.args.event.now c.args.waiting.now.entries c.args.waiting.now.entries) (sym c.deref-id-items.ensures.value)
    (noting_begins c.args.lanes.now.entries c.args.event.now c.args.waiting.now.entries c.in_ok-ids.ids.items c.in_ok-ids.ensures.rising (c.in_ok-ids.ensures.others c.args.lanes.now.entries c.requires))
