-- Where the pairs of a query stand in one text.
use Rattle.std.specs.Prelude.{ℕ, ◌-◌, ◌≤◌, List, take, drop, IsCharBoundary}
use Rattle.http_read.specs.declared.places.Place.{Place}

-- the name and the value that stand there
abbrev pub pair_at : List ℕ → Place → List ℕ × List ℕ
pair_at text place =
    (take (place.value - place.name) (drop place.name text), take (place.end - place.value) (drop place.value text))

-- the place lies within the text, and both parts begin and end between characters
pub record IsPlaceIn (text : List ℕ) (place : Place) : Type 0 where
  pub name_first : place.name ≤ place.value
  pub value_next : place.value ≤ place.end
  pub before : IsCharBoundary text place.name
  pub between : IsCharBoundary text place.value
  pub after : IsCharBoundary text place.end
