-- An index of lanes, which finds those that a change of an object may concern.
use Rattle.std.specs.Prelude.{◌≡◌, ◌==◌, ℕ, Bool, true, false, ◌||◌, List, [], Option, Some, None, bytes_eq, slice_get, unwrap_or, if◌then◌else◌}
use Rattle.std.specs.List.{list_any}
use Rattle.std.specs.Map.{lookup}
use Rattle.std.specs.Ordering.{is_eq, nat_cmp}
use Rattle.kube_meta.specs.declared.objects.Obj.{Obj}
use Rattle.kube_meta.specs.Keys.{is_in, name_of}
use Rattle.field_select.specs.Meaning.{wanted, wanted_name}
use Rattle.select_all.specs.declared.selection.Selection.{Selection}

-- the place of the field among the listed fields, and each lane's number with its selection
pub record IndexData : Type 0 where
  pub field : ℕ
  pub lanes : List (ℕ × Selection)

-- the selection of a lane, if the index has it
abbrev pub lane_at : List (ℕ × Selection) → ℕ → Option Selection
lane_at lanes id = lookup (λ other. is_eq (nat_cmp id other)) lanes

-- from old to new one lane was set, or was taken out by None; each other one stays
pub record Sets (old new : IndexData) (id : ℕ) (s : Option Selection) : Type 0 where
  pub field : new.field ≡ old.field
  pub lanes : (other : ℕ) → lane_at new.lanes other ≡ (if id == other then s else lane_at old.lanes other)

-- the first of three texts that is there
abbrev pub first_of : Option (List ℕ) → Option (List ℕ) → Option (List ℕ) → Option (List ℕ)
first_of (Some name) value ns = Some name
first_of None (Some value) ns = Some value
first_of None None ns = ns

-- the place of a selection: the name that it asks for, or else its value of the field, or else its namespace
abbrev pub place_of : ℕ → Selection → Option (List ℕ)
place_of field s = first_of (wanted_name s.fields) (wanted s.fields field) s.ns

-- the value that an object has in a listed field; that of an absent one is empty
abbrev pub value_in : ℕ → Obj → List ℕ
value_in field obj = unwrap_or (slice_get obj.fields field) []

-- whether an object is at a place: by its name, its value or its namespace
abbrev pub is_at : ℕ → Obj → List ℕ → Bool
is_at field obj place = bytes_eq place (name_of obj.key) || (bytes_eq place (value_in field obj) || is_in place obj.key)

-- whether there are both an object and a place, and it is there
abbrev pub is_found : ℕ → Option Obj → Option (List ℕ) → Bool
is_found field None place = false
is_found field (Some obj) None = false
is_found field (Some obj) (Some place) = is_at field obj place

-- a place is near a change where the object before it or the one after it is there; and each change is near those
-- that have none
abbrev pub is_near : ℕ → Option Obj → Option Obj → Option (List ℕ) → Bool
is_near field old new None = true
is_near field old new (Some place) = is_found field old (Some place) || is_found field new (Some place)

-- whether the index has a lane, and the place of its selection is near
abbrev pub is_touched : ℕ → Option Obj → Option Obj → Option Selection → Bool
is_touched field old new None = false
is_touched field old new (Some s) = is_near field old new (place_of field s)

-- whether a number is in a list
abbrev pub is_listed : List ℕ → ℕ → Bool
is_listed ids id = list_any (λ other. is_eq (nat_cmp id other)) ids
