use Rattle.std.proofs.Common.{length, ◌-◌, ◌∷◌}
use Rattle.watch_lane.proofs.MergeLemmas.{AreMergedTo}
use Rattle.watch_lane.proofs.merge.merged.Given as goal

abbrev pub invariant-loop-id : goal.invariant-loop-id
invariant-loop-id l = AreMergedTo l.ids l.more.keys l.all.items l.at l.id-iterator

abbrev pub invariant-loop-at : goal.invariant-loop-at
invariant-loop-at l = AreMergedTo l.ids l.more.keys l.all.items l.at (l.id ∷ l.id-iterator)

abbrev pub decreases-loop-at : goal.decreases-loop-at
decreases-loop-at l = length l.ids - l.at
