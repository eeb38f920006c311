use Rattle.mirror_log.specs.Slots.{AreMadeOf}
use Rattle.mirror_log.proofs.slots.revisions_of.Given as goal

-- the revisions of the slots so far
abbrev pub invariant-loop-rev : goal.invariant-loop-rev
invariant-loop-rev l = AreMadeOf l.yielded l.revisions.items
