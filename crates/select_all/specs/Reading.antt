-- What the texts of the two selectors are read as, the label selector first.
use Rattle.std.specs.Prelude.{◌≡◌, ℕ, List, Option, Result, Ok, Err}
use Rattle.kube_meta.specs.declared.resources.Resource.{Resource}
use Rattle.label_select.specs.declared.refusal.LabelNo.{LabelNo}
use Rattle.label_select.specs.declared.refusal.LabelNo.TheVariants.{Memory as NoMemoryForLabels}
use Rattle.label_select.specs.declared.requirements.Requirement.{Requirement}
use Rattle.label_select.specs.Grammar.{IsSelector as IsLabelSelector}
use Rattle.label_select.specs.Reading.{selector_of as label_selector_of}
use Rattle.field_select.specs.declared.refusal.FieldNo.{FieldNo}
use Rattle.field_select.specs.declared.refusal.FieldNo.TheVariants.{Memory as NoMemoryForFields}
use Rattle.field_select.specs.declared.terms.Term.{Term}
use Rattle.field_select.specs.Grammar.{IsSelector as IsFieldSelector}
use Rattle.field_select.specs.Reading.{selector_of as field_selector_of}
use Rattle.select_all.specs.declared.selection.Selection.{Selection}
use Rattle.select_all.specs.declared.selection.SelNo.{SelNo}
use Rattle.select_all.specs.declared.selection.SelNo.TheVariants.{Label, Field, Memory}

-- The texts stand for this selection, by the grammars of the two selectors.
pub record IsRead (resource : Resource) (ns : Option (List ℕ)) (label field : List ℕ) (s : Selection) : Type 0 where
  pub resource_is : s.resource ≡ resource
  pub ns_is : s.ns ≡ ns
  pub labels : IsLabelSelector label s.labels
  pub fields : IsFieldSelector resource field s.fields

-- how a reader's refusal is told
abbrev pub label_refusal : LabelNo → SelNo
label_refusal NoMemoryForLabels = Memory
label_refusal fault = Label fault

-- how a refusal of the field selector is told: by its fault, or as want of memory, which is of no selector
abbrev pub field_refusal : FieldNo → SelNo
field_refusal NoMemoryForFields = Memory
field_refusal fault = Field fault

-- the selection of what both texts are read as; or the refusal of the label text; or, where that is read, of the field text
abbrev pub both_read : Resource → Option (List ℕ) → Result (List Requirement) LabelNo → Result (List Term) FieldNo → Result Selection SelNo
both_read resource ns (Err fault) fields = Err (label_refusal fault)
both_read resource ns (Ok labels) (Err fault) = Err (field_refusal fault)
both_read resource ns (Ok labels) (Ok fields) = Ok (record { resource = resource; ns = ns; labels = labels; fields = fields })

-- the selection that a list or a watch asks for by the texts of its selectors, in one namespace or in all; or why that
-- is refused
abbrev pub selection_of : Resource → Option (List ℕ) → List ℕ → List ℕ → Result Selection SelNo
selection_of resource ns label field = both_read resource ns (label_selector_of label) (field_selector_of resource field)

-- What was read is what reading gives; what was refused is what reading refuses, unless memory ran out.
abbrev pub ReadsSelection : Result Selection SelNo → Result Selection SelNo → Type 0
ReadsSelection (Ok s) read = read ≡ Ok s
ReadsSelection (Err Memory) read = Unit {0}
ReadsSelection (Err fault) read = read ≡ Err fault
