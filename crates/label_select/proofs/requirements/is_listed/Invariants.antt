use Rattle.std.proofs.Common.{◌≡◌, ◌<◌, ℕ, slice_index_or}
use Rattle.label_select.proofs.requirements.is_listed.Given as goal

abbrev pub invariant-loop-text : goal.invariant-loop-text
invariant-loop-text l = (k : ℕ) → k < l.text-index → slice_index_or l.texts k l.value ≡ l.value → ⊥
