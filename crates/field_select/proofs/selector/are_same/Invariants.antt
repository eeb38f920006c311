use Rattle.std.proofs.Common.{◌≡◌, ◌<◌, ℕ, slice_index_or}
use Rattle.field_select.specs.declared.terms.Term.{Term}
use Rattle.field_select.proofs.selector.are_same.Given as goal

abbrev pub invariant-loop-i : goal.invariant-loop-i
invariant-loop-i l =
    (k : ℕ) (d : Term) → k < l.i → slice_index_or l.terms k d ≡ slice_index_or l.others k d
