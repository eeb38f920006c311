-- Why a text is no line and no page, in words for people; nothing is decided by it.
use Rattle.std.specs.Prelude.{◌≡◌, ◌⊎◌, ℕ, List, Bool, true, false, ◌&&◌, not, nat_lt, codes, None, is_some, unwrap_or, if◌then◌else◌}
use Rattle.std.specs.Option.{option_map_or}
use Rattle.serde_json.specs.Data.{Data, object, Items, no_items, item, depth}
use Rattle.serde_json.specs.Find.{get}
use Rattle.serde_json.specs.Written.{has_float}
use Rattle.kube_meta.specs.Names.{is_namespace}
use Rattle.kube_meta.specs.declared.resources.Resource.{Resource}
use Rattle.json_obj.specs.Objects.{IsTextOf, max_nesting, metadata_of, revision_in, is_of_kind}
use Rattle.watch_lines.specs.Pages.{items_of}
use Rattle.watch_lines.specs.Reading.{text_at}
use Rattle.watch_lines.specs.declared.trouble.Trouble.{Trouble}
use Rattle.watch_lines.specs.declared.trouble.Trouble.TheVariants.{NotJson, TooDeep, Float, NoPlace, Kind, Revision, Other}
use Rattle.watch_lines.specs.declared.trouble.BadText.{BadText}

-- the metadata has a namespace that may be one, and a name
abbrev pub has_place : Data → Bool
has_place d = option_map_or is_namespace (text_at (codes "namespace") d) false && is_some (text_at (codes "name") d)

-- and a revision
abbrev pub has_revision : Data → Bool
has_revision d = is_some (unwrap_or (revision_in (get (codes "resourceVersion") (metadata_of d))) None)

-- what is wrong first with the value of an object
abbrev pub object_trouble : Resource → Data → Trouble
object_trouble resource d =
    if has_float d then Float else
    (if nat_lt max_nesting (depth d) then TooDeep else
    (if not (has_place d) then NoPlace else
    (if not (is_of_kind resource d) then Kind else
    (if not (has_revision d) then Revision else Other))))

-- with its namespace and its name, as far as it has them
abbrev pub bad_object : Resource → Data → BadText
bad_object resource d = record { trouble = object_trouble resource d; ns = text_at (codes "namespace") d; name = text_at (codes "name") d }

-- a trouble with no object
abbrev pub bad_text : Trouble → BadText
bad_text trouble = record { trouble = trouble; ns = None; name = None }

abbrev pub is_unnamed : Trouble → Bool
is_unnamed NotJson = false
is_unnamed TooDeep = false
is_unnamed Float = false
is_unnamed NoPlace = false
is_unnamed Kind = false
is_unnamed Revision = false
is_unnamed Other = true

-- the first item with which something that has a name here is wrong
abbrev pub bad_item : Resource → Items → BadText
bad_item resource no_items = bad_text Other
bad_item resource (item d ds) = if is_unnamed (object_trouble resource d) then bad_item resource ds else bad_object resource d

-- of a line it is the object; of a page, the items
abbrev pub bad_value : Resource → Data → BadText
bad_value resource d = option_map_or (bad_object resource) (get (codes "object") d) (option_map_or (bad_item resource) (items_of d) (bad_text Other))

-- what is told of a text
abbrev pub TellsTrouble : Resource → List ℕ → BadText → Type 0
TellsTrouble resource text bad =
    ((bad ≡ bad_text NotJson) × ((d : Data) → ¬ (IsTextOf text d))) ⊎ ((d : Data) × IsTextOf text d × (bad ≡ bad_value resource d))
