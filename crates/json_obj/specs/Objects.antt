-- Objects: which JSON values are one, and how one is stored and shown (Kubernetes API concepts, "Resource versions" and "Objects in Kubernetes").
use Rattle.std.specs.Prelude.{◌≡◌, ℕ, zero, suc, ◌≤◌, List, [], ◌∷◌, ◌++◌, length, take, drop, Bool, true, false, not, ◌&&◌, ◌==◌, nat_lt, if◌then◌else◌, Option, Some, None, is_some, option_and_then, unwrap_or, codes, decimal, Result, Ok, Err, IsUtf8}
use Rattle.std.specs.Option.{option_map_or, option_or}
use Rattle.std.specs.Str.{bytes_eq}
use Rattle.serde_json.specs.Data.{Data, null, boolean, number, string, array, object, Members, no_members, member, put, depth}
use Rattle.serde_json.specs.Find.{get, as_str, as_object}
use Rattle.serde_json.specs.Read.{read}
use Rattle.serde_json.specs.Written.{has_float, members_have_float, compact_text}
use Rattle.kube_meta.specs.Names.{is_object_name, is_label_key, is_label_value}
use Rattle.kube_meta.specs.Keys.{joined}
use Rattle.kube_meta.specs.Labels.{value_at, AreSorted}
use Rattle.kube_meta.specs.Objects.{object_json, metadata_json}
use Rattle.kube_meta.specs.Resources.{api_version_of, kind_of}
use Rattle.kube_meta.specs.Revisions.{revision_of}
use Rattle.kube_meta.specs.declared.revisions.RevNo.{RevNo}
use Rattle.kube_meta.specs.declared.objects.Obj.{Obj}
use Rattle.kube_meta.specs.declared.resources.Resource.{Resource}
use Rattle.kube_meta.specs.declared.resources.Resource.TheVariants.{Pods, ConfigMaps, Deployments}
use Rattle.json_obj.specs.declared.refusals.ObjNo.{ObjNo}
use Rattle.json_obj.specs.declared.refusals.ObjNo.TheVariants.{Float, TooDeep, WrongKind, BadMeta}

-- ---- which values are objects

-- the member is absent, or is this text
abbrev pub is_absent_or : List ℕ → Option Data → Bool
is_absent_or text None = true
is_absent_or text (Some d) = option_map_or (bytes_eq text) (as_str d) false

-- a path's name is the object's; a path without a name leaves it open
abbrev pub is_path_name : Option (List ℕ) → List ℕ → Bool
is_path_name None name = true
is_path_name (Some path) name = bytes_eq path name

-- a text that names an object, and the path's name where the path has one
abbrev pub is_name : Option (List ℕ) → Option Data → Bool
is_name path d = option_map_or (λ name. is_object_name name && is_path_name path name) (option_and_then as_str d) false

-- each member is a label's name and its value
abbrev pub are_labels : Members → Bool
are_labels no_members = true
are_labels (member name value ms) = is_label_key name && (option_map_or is_label_value (as_str value) false && are_labels ms)

-- null is no labels
abbrev pub is_label_map : Data → Bool
is_label_map null = true
is_label_map (boolean b) = false
is_label_map (number n) = false
is_label_map (string s) = false
is_label_map (array ds) = false
is_label_map (object ms) = are_labels ms

-- labels may be absent
abbrev pub has_labels : Option Data → Bool
has_labels None = true
has_labels (Some d) = is_label_map d

-- 0 stands for no revision
abbrev pub unless_zero : ℕ → Option ℕ
unless_zero zero = None
unless_zero (suc n) = Some (suc n)

-- what a text says of the revision that a client saw; the outer `None` where it says nothing that is allowed
abbrev pub revision_in_text : List ℕ → Result ℕ RevNo → Option (Option ℕ)
revision_in_text text (Ok n) = Some (unless_zero n)
revision_in_text text (Err _) = if length text == 0 then Some None else None

-- the same of a member: absent, empty and `0` are no revision
abbrev pub revision_in : Option Data → Option (Option ℕ)
revision_in None = Some None
revision_in (Some d) = option_and_then (λ text. revision_in_text text (revision_of text)) (as_str d)

-- a create gives no revision; a replacement may
abbrev pub is_revision_for : Option (List ℕ) → Option (Option ℕ) → Bool
is_revision_for path None = false
is_revision_for path (Some None) = true
is_revision_for path (Some (Some n)) = is_some path

-- the object's metadata may be stored
abbrev pub is_metadata : List ℕ → Option (List ℕ) → Data → Bool
is_metadata ns path d =
    is_some (as_object d)
    && (is_name path (get (codes "name") d)
    && (is_absent_or ns (get (codes "namespace") d)
    && (has_labels (get (codes "labels") d)
    && is_revision_for path (revision_in (get (codes "resourceVersion") d)))))

-- the member `metadata`, or `null` where there is none
abbrev pub metadata_of : Data → Data
metadata_of d = unwrap_or (get (codes "metadata") d) null

-- an object whose version and kind, where it has them, are the resource's
abbrev pub is_of_kind : Resource → Data → Bool
is_of_kind resource d =
    is_some (as_object d)
    && (is_absent_or (api_version_of resource) (get (codes "apiVersion") d)
    && is_absent_or (kind_of resource) (get (codes "kind") d))

-- why the value isn't stored, of the two reasons that lie in its members
abbrev pub members_refusal : Resource → List ℕ → Option (List ℕ) → Data → Option ObjNo
members_refusal resource ns path d =
    if not (is_of_kind resource d) then Some WrongKind
    else (if not (is_metadata ns path (metadata_of d)) then Some BadMeta else None)

-- how deep arrays and objects may nest
abbrev pub max_nesting : ℕ
max_nesting = 64

-- why the value isn't stored, of the two reasons that lie anywhere in it: a number read as a float, then the nesting
abbrev pub value_refusal : Data → Option ObjNo
value_refusal d = if has_float d then Some Float else (if nat_lt max_nesting (depth d) then Some TooDeep else None)

-- why the value isn't stored: the first reason that holds
abbrev pub refusal : Resource → List ℕ → Option (List ℕ) → Data → Option ObjNo
refusal resource ns path d = option_or (value_refusal d) (members_refusal resource ns path d)

-- the bytes are one JSON text in UTF-8, of this value
abbrev pub IsTextOf : List ℕ → Data → Type 0
IsTextOf bytes d = IsUtf8 bytes × (read bytes ≡ Some d)

-- ---- what is stored and shown of one

-- the members of an object; of anything else none
abbrev pub members_in : Data → Members
members_in d = unwrap_or (as_object d) no_members

-- the metadata as it is shown at a revision: as it was read, in the namespace, with the revision's decimal text
abbrev pub shown_metadata : List ℕ → ℕ → Members → Data
shown_metadata ns revision ms =
    object (put (codes "namespace") (string ns) (put (codes "resourceVersion") (string (decimal revision)) ms))

-- the object as it is shown at a revision: its members as they were read, of the resource's version and kind, with its metadata as shown
abbrev pub shown_object : Resource → List ℕ → ℕ → Members → Members → Data
shown_object resource ns revision ms metadata =
    object (put (codes "apiVersion") (string (api_version_of resource))
    (put (codes "kind") (string (kind_of resource))
    (put (codes "metadata") (shown_metadata ns revision metadata) ms)))

-- What is written of an object's metadata on both sides of its revision: at every revision the two sides and the digits are its compact JSON.
pub record WritesMetadata (ns : List ℕ) (ms : Members) (front back front' back' : List ℕ) : Type 0 where
  pub opening : List ℕ
  pub closing : List ℕ
  pub in_front : front' ≡ front ++ opening
  pub in_back : back' ≡ back ++ closing
  pub text : members_have_float ms ≡ false → (revision : ℕ) → opening ++ decimal revision ++ closing ≡ compact_text (shown_metadata ns revision ms)

-- What is written of an object on both sides of its revision, and where its metadata begins and ends.
pub record WritesObject (resource : Resource) (ns : List ℕ) (ms meta : Members) (front back : List ℕ) (meta_from meta_to : ℕ) : Type 0 where
  pub from_in_front : meta_from ≤ length front
  pub to_in_back : meta_to ≤ length back
  pub text : members_have_float ms ≡ false → members_have_float meta ≡ false → (revision : ℕ)
      → front ++ decimal revision ++ back ≡ compact_text (shown_object resource ns revision ms meta)
  pub metadata : members_have_float meta ≡ false → (revision : ℕ)
      → drop meta_from front ++ decimal revision ++ take meta_to back ≡ compact_text (shown_metadata ns revision meta)

-- the text at a member, or no text where there is none
abbrev pub text_in : List ℕ → Data → List ℕ
text_in name d = unwrap_or (option_and_then as_str (get name d)) []

-- the same at a member of a member
abbrev pub text_at : List ℕ → List ℕ → Data → List ℕ
text_at outer inner d = option_map_or (text_in inner) (get outer d) []

-- the values of the listed fields, in the order of `Resource::listed_fields`
abbrev pub field_values : Resource → Data → List (List ℕ)
field_values Pods d = text_at (codes "spec") (codes "nodeName") d ∷ text_at (codes "status") (codes "phase") d ∷ []
field_values ConfigMaps d = []
field_values Deployments d = []

-- the name in the metadata
abbrev pub name_in : Data → List ℕ
name_in d = text_in (codes "name") d

-- the value of a label in the metadata
abbrev pub label_in : Data → List ℕ → Option (List ℕ)
label_in d name = option_and_then as_str (option_and_then (get name) (get (codes "labels") d))

-- the object that is stored for a value
pub record IsObjectOf (resource : Resource) (ns : List ℕ) (d : Data) (o : Obj) : Type 0 where
  pub key : o.key ≡ joined ns (name_in (metadata_of d))
  pub labels : (name : List ℕ) → value_at o.labels name ≡ label_in (metadata_of d) name
  pub sorted : AreSorted o.labels
  pub fields : o.fields ≡ field_values resource d
  -- its text is the compact JSON of the value as it is shown, at every revision
  pub text : has_float d ≡ false → (revision : ℕ) → object_json o revision ≡ compact_text (shown_object resource ns revision (members_in d) (members_in (metadata_of d)))
  -- and that of its metadata lies within it
  pub metadata : has_float d ≡ false → (revision : ℕ) → metadata_json o revision ≡ compact_text (shown_metadata ns revision (members_in (metadata_of d)))
  -- each side of the revision is UTF-8
  pub front_utf8 : IsUtf8 o.front
  pub back_utf8 : IsUtf8 o.back

-- the object, and the revision that a replacement asks for
pub record Stores (resource : Resource) (ns : List ℕ) (d : Data) (stored : Obj × Option ℕ) : Type 0 where
  pub object : IsObjectOf resource ns d stored.0
  pub given : Some stored.1 ≡ revision_in (get (codes "resourceVersion") (metadata_of d))
