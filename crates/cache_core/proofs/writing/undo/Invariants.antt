use Rattle.std.proofs.Common.{◌≡◌, ◌≤◌, ℕ, List, drop, length}
use Rattle.kube_meta.specs.Rows.{row_with}
use Rattle.cache_core.specs.Steps.{row_before}
use Rattle.cache_core.proofs.writing.undo.Given as goal

abbrev pub invariant-loop-left : goal.invariant-loop-left
invariant-loop-left l = record {
  inside : l.left ≤ length l.span;
  undone : (key : List ℕ) → row_with l.tree key ≡ row_before (drop l.left l.span) key (row_with l.initial.tree key);
}

abbrev pub decreases-loop-left : goal.decreases-loop-left
decreases-loop-left l = l.left
