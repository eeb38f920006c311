-- Which writes can be accepted together: 1 to 64 of distinct objects.
use Rattle.std.specs.Prelude.{◌≡◌, ℕ, ◌<◌, ◌≤◌, Bool, true, false, ◌&&◌, List, length, map, take}
use Rattle.std.specs.List.{list_any, slice_get}
use Rattle.std.specs.Option.{option_map_or}
use Rattle.std.specs.Str.{bytes_eq}
use Rattle.kube_meta.specs.declared.resources.Resource.{Resource}
use Rattle.kube_meta.specs.Resources.{same_resource}
use Rattle.up_store.specs.declared.writes.WriteAsk.{WriteAsk}
use Rattle.up_store.specs.declared.writes.WriteAsk.TheVariants.{Create, Replace, Remove}

-- which object is meant: its resource and its key
abbrev pub Target : Type 0
Target = Resource × List ℕ

-- the object that a write is of
abbrev pub target_of : WriteAsk → Target
target_of (Create resource obj) = (resource, obj.key)
target_of (Replace resource obj given) = (resource, obj.key)
target_of (Remove resource key) = (resource, key)

-- whether the two are one object: of the same resource, and with the same key
abbrev pub same_target : Target → Target → Bool
same_target a b = same_resource a.0 b.0 && bytes_eq a.1 b.1

-- whether the object at place i stands at an earlier place too
abbrev pub stands_before : List Target → ℕ → Bool
stands_before targets i = option_map_or (λ target. list_any (λ earlier. same_target earlier target) (take i targets)) (slice_get targets i) false

-- no object comes twice
abbrev pub AreDistinct : List Target → Type 0
AreDistinct targets = (i : ℕ) → i < length targets → stands_before targets i ≡ false

-- place i has the first object that stood before
pub record IsFirstRepeat (targets : List Target) (i : ℕ) : Type 0 where
  pub in_range : i < length targets
  pub repeated : stands_before targets i ≡ true
  pub first : (earlier : ℕ) → earlier < i → stands_before targets earlier ≡ false

-- what a transaction's writes are
pub record AreTransaction (items : List WriteAsk) : Type 0 where
  pub some_item : 1 ≤ length items
  pub few : length items ≤ 64
  pub distinct : AreDistinct (map target_of items)
