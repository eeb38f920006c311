-- Labels as a finite map of texts: the list of its pairs of a name and a value, strictly sorted by the names' bytes.
use Rattle.std.specs.Prelude.{◌≡◌, ◌≢◌, ℕ, ◌<◌, ◌≤◌, List, length, slice_index_or, Option, Some, []}
use Rattle.std.specs.Map.{lookup}
use Rattle.std.specs.Str.{bytes_eq}
use Rattle.std.specs.Cmp.Lexicographic.{slice_cmp}
use Rattle.std.specs.Ordering.{nat_cmp}
use Rattle.std.specs.declared.cmp.Ordering.TheVariants.{Less}

-- a name, then its value
abbrev pub Pairs : Type 0
Pairs = List (List ℕ × List ℕ)

-- the value of the label of this name, if there is one
abbrev pub value_at : Pairs → List ℕ → Option (List ℕ)
value_at labels name = lookup (bytes_eq name) labels

-- the name at place i
abbrev pub name_at : Pairs → ℕ → List ℕ
name_at labels i = let pair = slice_index_or labels i ([], []) in pair.0

-- the first text is before the second, byte by byte
abbrev pub IsBefore : List ℕ → List ℕ → Type 0
IsBefore a b = slice_cmp nat_cmp a b ≡ Less

-- the names rise, so no name comes twice
abbrev pub AreSorted : Pairs → Type 0
AreSorted labels = (i j : ℕ) → i < j → j < length labels → IsBefore (name_at labels i) (name_at labels j)

-- new has the value at this name, and at every other name what old has
pub record PutsOnly (old new : Pairs) (name value : List ℕ) : Type 0 where
  pub this_name : value_at new name ≡ Some value
  pub other_names : (other : List ℕ) → other ≢ name → value_at new other ≡ value_at old other

-- the pair at place i has the name
pub record IsAt (labels : Pairs) (name : List ℕ) (i : ℕ) : Type 0 where
  pub in_range : i < length labels
  pub has_name : name_at labels i ≡ name

-- the name would go at place i: smaller names before it, and greater names from it on
pub record IsGapFor (labels : Pairs) (name : List ℕ) (i : ℕ) : Type 0 where
  pub in_range : i ≤ length labels
  pub smaller_before : (j : ℕ) → j < i → IsBefore (name_at labels j) name
  pub greater_after : (j : ℕ) → i ≤ j → j < length labels → IsBefore name (name_at labels j)
