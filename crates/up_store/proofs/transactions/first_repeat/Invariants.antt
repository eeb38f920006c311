use Rattle.std.proofs.Common.{◌≡◌, ℕ, ◌<◌, false, map}
use Rattle.up_store.specs.Transactions.{target_of, stands_before}
use Rattle.up_store.proofs.transactions.first_repeat.Given as goal

-- no object so far stood before
abbrev pub invariant-loop-index : goal.invariant-loop-index
invariant-loop-index l = (earlier : ℕ) → earlier < l.index → stands_before (map target_of l.items) earlier ≡ false
