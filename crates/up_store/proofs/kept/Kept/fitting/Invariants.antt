use Rattle.std.proofs.Common.{◌≡◌, drop, max, min, sum_by}
use Rattle.up_store.specs.Kept.{carried, fitting}
use Rattle.up_store.proofs.kept.Kept.fitting.Given as goal

-- those so far don't fit with what follows them, which carries what is left
abbrev pub invariant-loop-i : goal.invariant-loop-i
invariant-loop-i l =
    l.self.bytes ≡ sum_by carried l.self.revisions.items →
    (l.left ≡ sum_by carried (drop l.i l.self.revisions.items))
    × (fitting l.bytes l.self.revisions.items ≡ max (min 1 l.i) (fitting l.bytes (drop l.i l.self.revisions.items)))
