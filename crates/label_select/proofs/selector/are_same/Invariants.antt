use Rattle.std.proofs.Common.{◌≡◌, ◌<◌, ℕ, slice_index_or}
use Rattle.label_select.specs.declared.requirements.Requirement.{Requirement}
use Rattle.label_select.proofs.selector.are_same.Given as goal

abbrev pub invariant-loop-i : goal.invariant-loop-i
invariant-loop-i l =
    (k : ℕ) (d : Requirement) → k < l.i → slice_index_or l.requirements k d ≡ slice_index_or l.others k d
