-- Values of labels.
use Rattle.std.specs.Prelude.{◌≡◌, ℕ, Bool, false, List, Option, Some, None, Contains, bytes_eq}
use Rattle.std.specs.BTreeSet.{BTreeSet, contains}
use Rattle.std.specs.Cmp.Lexicographic.{slice_cmp}
use Rattle.std.specs.List.{list_any}
use Rattle.std.specs.Ordering.{nat_cmp}

-- the label has one of the values
abbrev pub HasOneOf : Option (List ℕ) → List (List ℕ) → Type 0
HasOneOf None values = ⊥
HasOneOf (Some value) values = Contains values value

-- the same, computed
abbrev pub has_one_of : Option (List ℕ) → List (List ℕ) → Bool
has_one_of None values = false
has_one_of (Some value) values = list_any (bytes_eq value) values

-- whether a set of texts in order has a text
abbrev pub is_in : BTreeSet (List ℕ) → List ℕ → Bool
is_in ordered text = contains (slice_cmp nat_cmp) ordered text

-- it has the texts of a list, and no other
abbrev pub HasAll : List (List ℕ) → BTreeSet (List ℕ) → Type 0
HasAll texts ordered = (text : List ℕ) → is_in ordered text ≡ list_any (bytes_eq text) texts
