use Rattle.std.proofs.Common.{◌≡◌, ◌++◌, map}
use Rattle.obj_tree.specs.Pages.{values_of}
use Rattle.obj_tree.proofs.filled.paged.Given as goal

-- the pages, and what is left, are all parts
abbrev pub invariant-loop-page : goal.invariant-loop-page
invariant-loop-page l = values_of l.pages.items ++ l.page-iterator.rest.items ≡ map (λ part. values_of part.items) l.fn.parts.items
