-- The lines of a log: one for each revision.
use Rattle.std.specs.Prelude.{◌≡◌, ℕ, suc, ◌+◌, ◌^◌, Bool, true, false, ◌&&◌, ◌||◌, nat_le, List, [], ◌∷◌, ◌++◌, length, map, codes, decimal, Option, Some, None, is_some, is_none, option_map, option_and_then, bytes_eq, if◌then◌else◌}
use Rattle.std.specs.Option.{option_map_or}
use Rattle.std.specs.List.{concat, list_all}
use Rattle.std.specs.Cmp.Lexicographic.{slice_cmp}
use Rattle.std.specs.Ordering.{nat_cmp, ordering_then, is_lt}
use Rattle.std.specs.declared.cmp.Ordering.{Ordering}
use Rattle.serde_json.specs.Data.{Data, null, Items, no_items, item}
use Rattle.serde_json.specs.Find.{get, as_array, as_null}
use Rattle.serde_json.specs.Read.{read}
use Rattle.serde_json.specs.Written.{compact_text}
use Rattle.kube_meta.specs.Keys.{is_key, namespace_of, name_of}
use Rattle.kube_meta.specs.Objects.{object_json}
use Rattle.kube_meta.specs.Resources.{place_of, plural_of}
use Rattle.kube_meta.specs.declared.objects.Obj.{Obj}
use Rattle.kube_meta.specs.declared.resources.Resource.{Resource}
use Rattle.json_obj.specs.Objects.{refusal, IsObjectOf}
use Rattle.json_obj.specs.Replies.{items_text}
use Rattle.rev_log.specs.Changes.{ChangeData, RevisionData}
use Rattle.watch_record.specs.Headers.{text_member, resource_in}

-- ---- how they are written: compact, the members in the order of their names. No byte of a key needs an escape

-- what stands before a change's object
abbrev pub key_text : List ℕ → List ℕ
key_text key = concat (codes "{\"key\":\"" ∷ key ∷ codes "\",\"object\":" ∷ [])

-- how a change's line names its resource, at its end
abbrev pub resource_member : Resource → List ℕ
resource_member resource = concat (codes ",\"resource\":\"" ∷ plural_of resource ∷ codes "\"}" ∷ [])

-- a change within its line: the key, the object's text and the resource
abbrev pub change_text : List ℕ → List ℕ → Resource → List ℕ
change_text key object resource = key_text key ++ (object ++ resource_member resource)

-- what stands before the changes of a line
abbrev pub line_front : List ℕ
line_front = codes "{\"changes\":["

-- what stands after them: the revision's number
abbrev pub line_back : ℕ → List ℕ
line_back rev = concat (codes "],\"rev\":" ∷ decimal rev ∷ codes "}" ∷ [])

-- the line of a revision, from the texts of its changes and its number
abbrev pub recorded_line : List (List ℕ) → ℕ → List ℕ
recorded_line changes rev = line_front ++ (items_text changes ++ line_back rev)

-- the object as it is shown at the revision, and null where there is none
abbrev pub new_text : ℕ → Option Obj → List ℕ
new_text rev None = codes "null"
new_text rev (Some obj) = object_json obj rev

-- a change of a log, as it is written within the line of its revision
abbrev pub text_of_change : ChangeData → List ℕ
text_of_change change = change_text change.key (new_text change.rev change.new) change.resource

-- with its line feed
abbrev pub revision_line : RevisionData → List ℕ
revision_line revision = recorded_line (map text_of_change revision.changes) revision.rev ++ codes "\n"

-- ---- how they are read

-- a change as a line tells it
pub record Told : Type 0 where
  pub key : List ℕ
  pub object : Data
  pub resource : Resource

-- the object is null, or may be stored at the key
abbrev pub is_stored : Resource → List ℕ → Data → Bool
is_stored resource key d = is_some (as_null d) || is_none (refusal resource (namespace_of key) (Some (name_of key)) d)

-- what is told can be a change: its key is one, and its object is null or may be stored there
abbrev pub is_change : Told → Bool
is_change told = is_key told.key && is_stored told.resource told.key told.object

-- the change that is told, if it can be one
abbrev pub if_change : Told → Option Told
if_change told = if is_change told then Some told else None

-- the change that a value tells by its members `key`, `object` and `resource`, if it tells one
abbrev pub told_in : Data → Option Told
told_in d =
    option_and_then (λ key. option_and_then (λ object. option_and_then (λ resource. if_change (record { key = key; object = object; resource = resource }))
    (resource_in d)) (get (codes "object") d)) (text_member (codes "key") d)

-- all of them, where each tells a change
abbrev pub all_told : Items → Option (List Told)
all_told no_items = Some []
all_told (item d ds) = option_and_then (λ told. option_map (λ more. told ∷ more) (all_told ds)) (told_in d)

-- the values that are to tell a line's changes: those of its array `changes`, if it has one
abbrev pub changes_array : Data → Option Items
changes_array d = option_and_then as_array (get (codes "changes") d)

-- the changes that a line tells, if it tells any
abbrev pub told_changes : Data → Option (List Told)
told_changes d = option_and_then all_told (changes_array d)

-- a change as it is written within its line, the object as compact JSON
abbrev pub text_of_told : Told → List ℕ
text_of_told told = change_text told.key (compact_text told.object) told.resource

-- the order of changes: by resource, and then by key
abbrev pub told_cmp : Told → Told → Ordering
told_cmp a b = ordering_then (nat_cmp (place_of a.resource) (place_of b.resource)) (slice_cmp nat_cmp a.key b.key)

-- each change is before all that follow it, so no object is changed twice
abbrev pub are_rising : List Told → Bool
are_rising [] = true
are_rising (first ∷ told) = list_all (λ later. is_lt (told_cmp first later)) told && are_rising told

-- at most 64, in their order
abbrev pub are_in_order : List Told → Bool
are_in_order told = nat_le (length told) 64 && are_rising told

-- there is one, and the line is their text at the revision
abbrev pub is_text_of : ℕ → List ℕ → List Told → Bool
is_text_of rev line told = nat_le 1 (length told) && (nat_le rev (2 ^ 62) && bytes_eq (recorded_line (map text_of_told told) rev) line)

-- the line is the text of these changes, and they can be those of the revision: 1 to 64, in their order
abbrev pub is_line_of : ℕ → List ℕ → List Told → Bool
is_line_of rev line told = is_text_of rev line told && are_in_order told

-- the line tells the revision with this number
abbrev pub tells_revision : ℕ → List ℕ → Bool
tells_revision rev line = option_map_or (is_line_of rev line) (option_and_then told_changes (read line)) false

-- the place of the first line that doesn't tell the next revision
abbrev pub bad_place : ℕ → List (List ℕ) → Option ℕ
bad_place rev [] = None
bad_place rev (line ∷ lines) = if tells_revision rev line then option_map suc (bad_place (rev + 1) lines) else Some 0

-- ---- what is read of them

-- what a change leaves at its key: nothing where the value is null, and else the object that is stored for it
abbrev pub IsNewOf : Resource → List ℕ → Data → Option Obj → Type 0
IsNewOf resource key d None = d ≡ null
IsNewOf resource key d (Some obj) = IsObjectOf resource (namespace_of key) d obj

-- the change at the revision `rev` is the one that is told: its resource, its key and its new object
pub record IsChangeOf (rev : ℕ) (told : Told) (change : ChangeData) : Type 0 where
  pub rev_is : change.rev ≡ rev
  pub resource_is : change.resource ≡ told.resource
  pub key_is : change.key ≡ told.key
  pub new : IsNewOf told.resource told.key told.object change.new

-- the changes at the revision are those that are told, in the same order
abbrev pub AreChangesOf : ℕ → List Told → List ChangeData → Type 0
AreChangesOf rev [] [] = Unit {0}
AreChangesOf rev [] (change ∷ changes) = ⊥
AreChangesOf rev (told ∷ more) [] = ⊥
AreChangesOf rev (told ∷ more) (change ∷ changes) = IsChangeOf rev told change × AreChangesOf rev more changes

-- the revision that a line tells
pub record IsRecordedRevision (rev : ℕ) (line : List ℕ) (revision : RevisionData) : Type 0 where
  pub told : List Told
  pub read_is : option_and_then told_changes (read line) ≡ Some told
  pub rev_is : revision.rev ≡ rev
  pub changes : AreChangesOf rev told revision.changes

-- those that lines tell, the first of them with this number
abbrev pub AreRevisionsOf : ℕ → List (List ℕ) → List RevisionData → Type 0
AreRevisionsOf rev [] [] = Unit {0}
AreRevisionsOf rev [] (revision ∷ revisions) = ⊥
AreRevisionsOf rev (line ∷ lines) [] = ⊥
AreRevisionsOf rev (line ∷ lines) (revision ∷ revisions) = IsRecordedRevision rev line revision × AreRevisionsOf (rev + 1) lines revisions
