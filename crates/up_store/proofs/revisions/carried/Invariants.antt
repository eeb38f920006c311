use Rattle.std.proofs.Common.{◌≡◌, ◌-◌, ◌^◌, min, sum_by, take}
use Rattle.up_store.specs.Kept.{text_size}
use Rattle.up_store.proofs.revisions.carried.Given as goal

-- what the changes so far carry
abbrev pub invariant-loop-change : goal.invariant-loop-change
invariant-loop-change l = l.bytes ≡ min (sum_by (λ change. text_size change.new) (take l.change-index l.revision.changes)) (2 ^ 64 - 1)
