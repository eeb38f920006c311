-- What two texts of the grammars are read as, and what is selected.
use Rattle.std.proofs.Common.{◌≡◌, ℕ, Bool, true, false, List, [], ◌∷◌, Option, Some, None, Result, Ok, Err, Decides, refl, sym, ap, ◌∙◌, inl, inr}
use Rattle.std.specs.Prelude.{◌&&◌}
use Rattle.std.specs.List.{AllByRecursion}
use Rattle.std.proofs.lemmas.Bool.{cases_Bool, and_parts, and_from, eqb-true}
use Rattle.std.proofs.lemmas.List.Elements.{recursion_from_All}
use Rattle.kube_meta.proofs.KeyLemmas.{is_in-Decides}
use Rattle.kube_meta.specs.declared.resources.Resource.{Resource}
use Rattle.label_select.specs.Reading.{Fails as LabelFails}
use Rattle.label_select.proofs.MeaningLaws.{selects-Decides as labels-Decides}
use Rattle.label_select.specs.declared.requirements.Requirement.{Requirement}
use Rattle.label_select.specs.declared.refusal.LabelNo.{LabelNo}
use Rattle.label_select.specs.declared.refusal.LabelNo.TheVariants.{Syntax, BadKey, BadValue, EmptySet, TooLong, Memory}
use Rattle.field_select.specs.Meaning.{Holds, value_of, is_listed, asks_for, wanted}
use Rattle.field_select.proofs.MeaningLaws.{selects-Decides as fields-Decides}
use Rattle.field_select.specs.declared.terms.Field.{Field}
use Rattle.field_select.specs.declared.terms.Field.TheVariants.{Name, Namespace, Listed}
use Rattle.field_select.specs.declared.refusal.FieldNo.{FieldNo}
use Rattle.field_select.specs.declared.terms.Term.{Term}
use Rattle.select_all.specs.declared.selection.Selection.{Selection}
use Rattle.select_all.specs.declared.selection.SelNo.{SelNo}
use Rattle.select_all.specs.Selecting.{IsWithin, is_within}
use Rattle.select_all.specs.ListingLaws.{SelectionsDecide, WantedIsNeeded}
use Rattle.select_all.specs.Reading.{IsRead, ReadsSelection, label_refusal}

-- where the label text is in the grammar, its reader refuses it for want of memory alone
pub label_only : (fault : LabelNo) (requirements : List Requirement) (s : Selection) → LabelFails fault (Ok requirements) → ReadsSelection (Err (label_refusal fault)) (Ok s)
label_only Memory requirements s e = tt
label_only (Syntax at) requirements s e = absurd cc
label_only (BadKey at) requirements s e = absurd cc
label_only (BadValue at) requirements s e = absurd cc
label_only (EmptySet at) requirements s e = absurd cc
label_only TooLong requirements s e = absurd cc

requirements_are : (a b : List Requirement) → ◌≡◌ {A = Result (List Requirement) LabelNo} (Ok a) (Ok b) → a ≡ b
requirements_are a b e = cc

terms_are : (a b : List Term) → ◌≡◌ {A = Result (List Term) FieldNo} (Ok a) (Ok b) → a ≡ b
terms_are a b e = cc

-- two texts are read as one selection
pub both_only : (resource : Resource) (ns : Option (List ℕ)) (label field : List ℕ) (labels : List Requirement) (fields : List Term) (s : Selection) → IsRead resource ns label field s
    → ◌≡◌ {A = Result (List Requirement) LabelNo} (Ok s.labels) (Ok labels) → ◌≡◌ {A = Result (List Term) FieldNo} (Ok s.fields) (Ok fields)
    → ◌≡◌ {A = Result Selection SelNo} (Ok s) (Ok (record { resource = resource; ns = ns; labels = labels; fields = fields }))
both_only resource ns label field labels fields s is e f =
    let same_labels : s.labels ≡ labels = requirements_are s.labels labels e in
    let same_fields : s.fields ≡ fields = terms_are s.fields fields f in
    λ i. Ok (record { resource = is.resource_is i; ns = is.ns_is i; labels = same_labels i; fields = same_fields i })

-- ---- what is selected

within-Decides : (ns : Option (List ℕ)) (key : List ℕ) → Decides (is_within ns key) (IsWithin ns key)
within-Decides None key = (λ _. tt, λ _. refl)
within-Decides (Some ns) key = is_in-Decides ns key

pub selects_decides : SelectionsDecide
selects_decides s obj =
    let ns = within-Decides s.ns obj.key in
    let labels = labels-Decides obj.labels s.labels in
    let fields = fields-Decides obj.fields obj.key s.fields in (
      λ passes.
          let first = and_parts _ _ passes in
          let second = and_parts _ _ first.1 in
          record { namespace = ns.0 first.0; labels = labels.0 second.0; fields = fields.0 second.1 },
      λ chosen. and_from _ _ (ns.1 chosen.namespace) (and_from _ _ (labels.1 chosen.labels) (fields.1 chosen.fields)),
    )

-- a term that asks for a listed field holds where that has its value
asked : (fields : List (List ℕ)) (key : List ℕ) (place : ℕ) (field : Field) (equal : Bool) (value : List ℕ) → (equal && is_listed place field) ≡ true
    → Holds fields key (record { field = field; equal = equal; value = value }) → value_of fields key (Listed place) ≡ value
asked fields key place Name true value asks holds = absurd cc
asked fields key place Namespace true value asks holds = absurd cc
asked fields key place (Listed k) true value asks holds = ap (λ i. value_of fields key (Listed i)) (sym (eqb-true k place asks)) ∙ holds
asked fields key place field false value asks holds = absurd cc

had : (fields : List (List ℕ)) (key : List ℕ) (place : ℕ) (terms : List Term) (value : List ℕ) → AllByRecursion (Holds fields key) terms → wanted terms place ≡ Some value → value_of fields key (Listed place) ≡ value
had fields key place [] value all is = absurd cc
had fields key place (t ∷ terms) value all is = elim (cases_Bool (asks_for place t)) [
  | inl asks ↦
      let value_is : t.value ≡ value = some_is t.value value (sym (rw asks refl) ∙ is) in
      asked fields key place t.field t.equal t.value asks all.0 ∙ value_is
  | inr other ↦ had fields key place terms value all.1 (sym (rw other refl) ∙ is)
]
  where
    some_is : (a b : List ℕ) → ◌≡◌ {A = Option (List ℕ)} (Some a) (Some b) → a ≡ b
    some_is a b e = cc

pub wanted_is_had : WantedIsNeeded
wanted_is_had s obj place value chosen is = had obj.fields obj.key place s.fields value (recursion_from_All (Holds obj.fields obj.key) s.fields chosen.fields) is
