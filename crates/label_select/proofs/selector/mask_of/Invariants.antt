use Rattle.std.proofs.Common.{IsTrue}
use Rattle.kube_meta.specs.Labels.{Pairs}
use Rattle.kube_meta.specs.Words.{labels_word, has_bits}
use Rattle.label_select.specs.Meaning.{Selects}
use Rattle.label_select.proofs.selector.mask_of.Given as goal

-- the words of selected labels have the bits so far
abbrev pub invariant-loop-requirement : goal.invariant-loop-requirement
invariant-loop-requirement l = (labels : Pairs) → Selects l.requirements labels → IsTrue (has_bits (labels_word labels) l.mask)
