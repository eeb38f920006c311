use Rattle.std.proofs.Common.{List, IsTrue, subst, ◌∙◌}
use Rattle.kube_meta.specs.Labels.{Pairs}
use Rattle.kube_meta.specs.Words.{labels_word, has_bits}
use Rattle.label_select.specs.Meaning.{Selects}
use Rattle.label_select.specs.declared.requirements.Requirement.{Requirement}
use Rattle.label_select.proofs.selector.LabelSel.mask.Goals as goal

pub returns : goal.returns
returns c =
    subst (λ (rs : List Requirement). (labels : Pairs) → Selects rs labels → IsTrue (has_bits (labels_word labels) c.mask_of.result)) (c.deref.ensures.value ∙ c.self.view_is) c.mask_of.ensures
