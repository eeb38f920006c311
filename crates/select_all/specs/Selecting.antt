-- Which objects a selection holds, and what a change of one object is to it.
use Rattle.std.specs.Prelude.{ℕ, Bool, true, false, ◌&&◌, List, Option, Some, None}
use Rattle.kube_meta.specs.declared.objects.Obj.{Obj}
use Rattle.kube_meta.specs.Keys.{IsIn, is_in}
use Rattle.label_select.specs.Meaning.{Selects as LabelsSelect, selects as labels_select}
use Rattle.field_select.specs.Meaning.{Selects as FieldsSelect, selects as fields_select}
use Rattle.select_all.specs.declared.selection.Selection.{Selection}
use Rattle.select_all.specs.declared.selection.Kind.{Kind}
use Rattle.select_all.specs.declared.selection.Kind.TheVariants.{Added, Modified, Deleted}

-- the key is in the namespace, where one is asked for
abbrev pub IsWithin : Option (List ℕ) → List ℕ → Type 0
IsWithin None key = Unit {0}
IsWithin (Some ns) key = IsIn ns key

-- The object is selected: it is in the namespace asked for, all label requirements hold, and all field terms do.
pub record Selects (s : Selection) (obj : Obj) : Type 0 where
  pub namespace : IsWithin s.ns obj.key
  pub labels : LabelsSelect s.labels obj.labels
  pub fields : FieldsSelect s.fields obj.fields obj.key

-- the same, computed
abbrev pub is_within : Option (List ℕ) → List ℕ → Bool
is_within None key = true
is_within (Some ns) key = is_in ns key

-- whether the object is selected: it is in the namespace asked for, and both selectors select it
abbrev pub selects : Selection → Obj → Bool
selects s obj = is_within s.ns obj.key && (labels_select s.labels obj.labels && fields_select s.fields obj.fields obj.key)

-- an object that isn't there passes no test
abbrev pub holds_by : (Obj → Bool) → Option Obj → Bool
holds_by test None = false
holds_by test (Some obj) = test obj

-- and so isn't selected
abbrev pub holds : Selection → Option Obj → Bool
holds s obj = holds_by (selects s) obj

-- What a change is to a watch, by whether the object before it and the one after it are selected.
abbrev pub kind_of_change : Bool → Bool → Option Kind
kind_of_change false false = None
kind_of_change false true = Some Added
kind_of_change true true = Some Modified
kind_of_change true false = Some Deleted

-- of a deletion what was there before is told, and of the other kinds what is there now
abbrev pub told_of : {A : Type 0} → Kind → A → A → A
told_of Added before now = now
told_of Modified before now = now
told_of Deleted before now = before
