-- What a field selector says of an object.
use Rattle.std.specs.Prelude.{◌≡◌, ◌≢◌, ◌==◌, ◌&&◌, ℕ, Bool, true, false, List, [], ◌∷◌, slice_get, unwrap_or, Option, Some, None, All, bytes_eq, not, if◌then◌else◌}
use Rattle.std.specs.List.{list_all}
use Rattle.kube_meta.specs.Keys.{namespace_of, name_of}
use Rattle.field_select.specs.declared.terms.Field.{Field}
use Rattle.field_select.specs.declared.terms.Field.TheVariants.{Name, Namespace, Listed}
use Rattle.field_select.specs.declared.terms.Term.{Term}

-- the value of a field of an object with these listed fields and this key; that of an absent one is empty
abbrev pub value_of : List (List ℕ) → List ℕ → Field → List ℕ
value_of fields key Name = name_of key
value_of fields key Namespace = namespace_of key
value_of fields key (Listed i) = unwrap_or (slice_get fields i) []

-- `=` and `==` hold where the value is the given one, and `!=` where it isn't
abbrev pub Compares : Bool → List ℕ → List ℕ → Type 0
Compares true value given = value ≡ given
Compares false value given = value ≢ given

-- a term holds of an object with these listed fields and this key: its field has the value, or with `!=` another one
abbrev pub Holds : List (List ℕ) → List ℕ → Term → Type 0
Holds fields key term = Compares term.equal (value_of fields key term.field) term.value

-- All terms hold; so the empty selector always does.
abbrev pub Selects : List Term → List (List ℕ) → List ℕ → Type 0
Selects terms fields key = All (Holds fields key) terms

-- the same, computed
abbrev pub compares : Bool → List ℕ → List ℕ → Bool
compares true value given = bytes_eq value given
compares false value given = not (bytes_eq value given)

-- whether a term holds of an object with these listed fields and this key
abbrev pub holds : List (List ℕ) → List ℕ → Term → Bool
holds fields key term = compares term.equal (value_of fields key term.field) term.value

-- whether all terms hold of such an object; so the empty selector selects each one
abbrev pub selects : List Term → List (List ℕ) → List ℕ → Bool
selects terms fields key = list_all (holds fields key) terms

-- whether the field is the listed one at place i
abbrev pub is_listed : ℕ → Field → Bool
is_listed i Name = false
is_listed i Namespace = false
is_listed i (Listed k) = k == i

-- whether the term has `=` or `==` and is on that field
abbrev pub asks_for : ℕ → Term → Bool
asks_for i term = term.equal && is_listed i term.field

-- the value of the first term that is so
abbrev pub wanted : List Term → ℕ → Option (List ℕ)
wanted [] i = None
wanted (t ∷ ts) i = if asks_for i t then Some t.value else wanted ts i

-- whether the field is the object's name
abbrev pub is_name : Field → Bool
is_name Name = true
is_name Namespace = false
is_name (Listed k) = false

-- whether the term has `=` or `==` and is on the name
abbrev pub asks_name : Term → Bool
asks_name term = term.equal && is_name term.field

-- the name that the first such term asks for
abbrev pub wanted_name : List Term → Option (List ℕ)
wanted_name [] = None
wanted_name (t ∷ ts) = if asks_name t then Some t.value else wanted_name ts
