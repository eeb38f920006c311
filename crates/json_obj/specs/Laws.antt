-- What holds of objects and their texts.
use Rattle.std.specs.Prelude.{◌≡◌, ℕ, ◌^◌, ◌≤◌, List, Option, Some, None, false}
use Rattle.serde_json.specs.Data.{Data}
use Rattle.serde_json.specs.Find.{get, at}
use Rattle.serde_json.specs.Written.{has_float}
use Rattle.kube_meta.specs.Objects.{object_json}
use Rattle.kube_meta.specs.declared.objects.Obj.{Obj}
use Rattle.kube_meta.specs.declared.resources.Resource.{Resource}
use Rattle.json_obj.specs.Objects.{IsTextOf, IsObjectOf, Stores, refusal, shown_object, members_in, metadata_of, name_in, unless_zero}
use Rattle.json_obj.specs.Orderly.{IsOrderly}

-- what is stored for a value is one object
abbrev pub ObjectsAreOne : Type 0
ObjectsAreOne =
    (resource : Resource) (ns : List ℕ) (d : Data) (o other : Obj)
    → has_float d ≡ false → IsObjectOf resource ns d o → IsObjectOf resource ns d other → o ≡ other

-- a value that was read is orderly, and so is each part of it
pub record ValuesAreOrderly : Type 0 where
  pub whole : (bytes : List ℕ) (d : Data) → IsTextOf bytes d → IsOrderly d
  pub member : (name : List ℕ) (d found : Data) → IsOrderly d → get name d ≡ Some found → IsOrderly found
  pub item : (i : ℕ) (d found : Data) → IsOrderly d → at i d ≡ Some found → IsOrderly found

-- The text of an object at a revision, as a replacement's body at the object's own name: it is read, nothing refuses it, what is stored for it is the same object, and the revision that it gives is the one at which it is shown.
pub record ReadsBack (resource : Resource) (ns : List ℕ) (d : Data) (o : Obj) (revision : ℕ) : Type 0 where
  pub value : Data
  pub shown : value ≡ shown_object resource ns revision (members_in d) (members_in (metadata_of d))
  pub text : IsTextOf (object_json o revision) value
  pub allowed : refusal resource ns (Some (name_in (metadata_of d))) value ≡ None
  pub stored : Stores resource ns value (o, unless_zero revision)
  pub one : (other : Obj × Option ℕ) → Stores resource ns value other → other ≡ (o, unless_zero revision)

-- an object's text at a revision is read back as that object
abbrev pub ObjectsReadBack : Type 0
ObjectsReadBack =
    (resource : Resource) (ns : List ℕ) (path : Option (List ℕ)) (d : Data) (o : Obj) (revision : ℕ)
    → IsOrderly d → refusal resource ns path d ≡ None → IsObjectOf resource ns d o → revision ≤ 2 ^ 62
    → ReadsBack resource ns d o revision
