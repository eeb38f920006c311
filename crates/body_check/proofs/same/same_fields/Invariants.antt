use Rattle.std.proofs.Common.{◌≡◌, ℕ, ◌<◌, length}
use Rattle.std.specs.List.{slice_get}
use Rattle.body_check.proofs.same.same_fields.Given as goal

-- as many, and the same so far
abbrev pub invariant-loop-i : goal.invariant-loop-i
invariant-loop-i l = record {
  long : length l.a ≡ length l.b;
  same : (k : ℕ) → k < l.i → slice_get l.a k ≡ slice_get l.b k;
}
