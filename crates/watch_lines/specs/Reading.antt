-- What is read on the way to a line.
use Rattle.std.specs.Prelude.{◌≡◌, ℕ, ◌^◌, ◌<◌, List, codes, Option, Some, None, is_some, option_and_then, IsUtf8}
use Rattle.serde_json.specs.Data.{Data}
use Rattle.serde_json.specs.Find.{get, as_str, as_number, as_u64}
use Rattle.kube_meta.specs.Names.{IsNamespace}
use Rattle.kube_meta.specs.Objects.{object_json}
use Rattle.kube_meta.specs.declared.objects.Obj.{Obj}
use Rattle.kube_meta.specs.declared.resources.Resource.{Resource}
use Rattle.json_obj.specs.Objects.{IsTextOf, value_refusal, members_refusal, metadata_of, Stores}
use Rattle.json_obj.specs.declared.replies.Refusal.{Refusal}
use Rattle.watch_lines.specs.Stored.{IsStored, IsToldAt}

-- the text is one JSON text of this value, which has no float and nests no deeper than objects may
pub record IsValueOf (text : List ℕ) (d : Data) : Type 0 where
  pub is : IsTextOf text d
  pub plain : value_refusal d ≡ None

-- ---- objects

-- the text at a name
abbrev pub text_in : List ℕ → Data → Option (List ℕ)
text_in name d = option_and_then as_str (get name d)

-- the same in the metadata
abbrev pub text_at : List ℕ → Data → Option (List ℕ)
text_at name d = text_in name (metadata_of d)

-- the value's metadata has this namespace, which may be one, and this name
pub record IsPlaced (d : Data) (ns name : List ℕ) : Type 0 where
  pub namespace : IsNamespace ns
  pub ns_is : text_at (codes "namespace") d ≡ Some ns
  pub name_is : text_at (codes "name") d ≡ Some name

-- nothing in the value's members refuses it at this place, and what is stored for it is this object, at this revision
pub record Keeps (resource : Resource) (ns name : List ℕ) (d : Data) (obj : Obj) (rev : ℕ) : Type 0 where
  pub allowed : members_refusal resource ns (Some name) d ≡ None
  pub stores : Stores resource ns d (obj, Some rev)

-- the object may be told at this revision, and no other, at no other revision, has this text
pub record IsOnly (resource : Resource) (text : List ℕ) (obj : Obj) (rev : ℕ) : Type 0 where
  pub stored : IsStored resource obj
  pub at : IsToldAt rev
  pub one : (other : Obj) (later : ℕ) → IsStored resource other → IsToldAt later → text ≡ object_json other later → (obj ≡ other) × (rev ≡ later)

-- ---- refusals

-- the natural number at a name
abbrev pub number_in : List ℕ → Data → Option ℕ
number_in name d = option_and_then as_u64 (option_and_then as_number (get name d))

-- the value has the refusal's members, whatever else it has
pub record IsRefusalOf (d : Data) (refusal : Refusal) : Type 0 where
  pub code : number_in (codes "code") d ≡ Some refusal.code
  pub fits : refusal.code < 2 ^ 16
  pub reason : text_in (codes "reason") d ≡ Some refusal.reason
  pub reason_utf8 : IsUtf8 refusal.reason
  pub message : text_in (codes "message") d ≡ Some refusal.message
  pub message_utf8 : IsUtf8 refusal.message
  pub details : is_some (get (codes "details") d) ≡ refusal.too_large
