use Rattle.std.proofs.Common.{◌≡◌, ◌++◌, map}
use Rattle.obj_tree.specs.Pages.{values_of}
use Rattle.obj_tree.proofs.filled.prefixed.Given as goal

-- the pages, and what is left, are all parts
abbrev pub invariant-loop-part : goal.invariant-loop-part
invariant-loop-part l = l.pages.items ++ map (λ part. values_of part.items) l.part-iterator.rest.items ≡ map (λ part. values_of part.items) l.fn.parts.items
