use Rattle.watch_record.proofs.ReadLemmas.{HasRead}
use Rattle.watch_record.proofs.revisions.read_changes.Given as goal

abbrev pub invariant-loop-item : goal.invariant-loop-item
invariant-loop-item l = HasRead l.rev l.items.items l.item-index l.changes.items l.initial.out.items l.out.items
