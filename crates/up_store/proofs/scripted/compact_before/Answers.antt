use Rattle.up_store.proofs.StoreLemmas.{learns-join}
use Rattle.up_store.proofs.scripted.compact_before.Goals as goal
use Rattle.up_store.proofs.scripted.compact_before.Goals.{then-listed-poll, else-listed-poll}

pub loop-listed-preserved : goal.loop-listed-preserved
loop-listed-preserved g c = elim c.if-listed-poll.branch [
  | then-listed-poll w ↦
      rw w.told-is (
        learns-join c.args.told.now c.loop-listed.told w.compact.new.told c.loop-listed.invariant.0 w.compact.ensures.learns,
        w.compact.ensures.tells.1,
      )
  | else-listed-poll w ↦ rw w.told-is c.loop-listed.invariant
]
