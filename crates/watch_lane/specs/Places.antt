-- Where the lanes of an index stand: under one text that their selection asks for, or under none.
use Rattle.std.specs.Prelude.{ℕ, Bool, true, false, List, Option, Some, None, bytes_eq}
use Rattle.std.specs.Ordering.{nat_cmp}
use Rattle.std.specs.BTreeSet.{BTreeSet, contains}
use Rattle.std.specs.HashMap.{get_by_text}
use Rattle.kube_meta.specs.declared.objects.Obj.{Obj}
use Rattle.select_all.specs.declared.selection.Selection.{Selection}
use Rattle.watch_lane.specs.declared.places.Places.{Places}
use Rattle.watch_lane.specs.Index.{is_found, place_of}

-- whether a set that may be there has the number
abbrev pub has_id : Option (BTreeSet ℕ) → ℕ → Bool
has_id None id = false
has_id (Some ids) id = contains nat_cmp ids id

-- whether two are the same text, or both none
abbrev pub same_text : Option (List ℕ) → Option (List ℕ) → Bool
same_text None None = true
same_text None (Some w) = false
same_text (Some v) None = false
same_text (Some v) (Some w) = bytes_eq v w

-- whether the lane stands there
abbrev pub stands : Places → Option (List ℕ) → ℕ → Bool
stands places None id = contains nat_cmp places.others id
stands places (Some text) id = has_id (get_by_text places.by_text text) id

-- whether a selection, if there is one, has this place
abbrev pub asks : ℕ → Option (List ℕ) → Option Selection → Bool
asks field place None = false
asks field place (Some s) = same_text (place_of field s) place

-- whether a lane that the index may have is found at an object that may be there
abbrev pub finds : ℕ → Option Obj → Option Selection → Bool
finds field obj None = false
finds field obj (Some s) = is_found field obj (place_of field s)
