use Rattle.std.proofs.Common.{ℕ, List, IsTrue, subst, ◌∙◌}
use Rattle.kube_meta.specs.Words.{fields_word, has_bits}
use Rattle.field_select.specs.Meaning.{Selects}
use Rattle.field_select.specs.declared.terms.Term.{Term}
use Rattle.field_select.proofs.selector.FieldSel.mask.Goals as goal

pub returns : goal.returns
returns c =
    subst (λ (ts : List Term). (fields : List (List ℕ)) (key : List ℕ) → Selects ts fields key → IsTrue (has_bits (fields_word fields) c.mask_of.result)) (c.deref.ensures.value ∙ c.self.view_is) c.mask_of.ensures
