use Rattle.std.proofs.Common.{ℕ, List, IsTrue}
use Rattle.kube_meta.specs.Words.{fields_word, has_bits}
use Rattle.field_select.specs.Meaning.{Selects}
use Rattle.field_select.proofs.selector.mask_of.Given as goal

-- the words of selected fields have the bits so far
abbrev pub invariant-loop-term : goal.invariant-loop-term
invariant-loop-term l = (fields : List (List ℕ)) (key : List ℕ) → Selects l.terms fields key → IsTrue (has_bits (fields_word fields) l.mask)
