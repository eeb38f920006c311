-- What is shown of an object, and the lines of a watch, in each of the two forms: whole objects, and metadata alone.
use Rattle.std.specs.Prelude.{ℕ, List, Bool}
use Rattle.kube_meta.specs.Objects.{object_json, metadata_json}
use Rattle.kube_meta.specs.Resources.{api_version_of, kind_of, list_kind_of}
use Rattle.kube_meta.specs.declared.objects.Obj.{Obj}
use Rattle.kube_meta.specs.declared.resources.Resource.{Resource}
use Rattle.json_obj.specs.Replies.{event_text, bookmark_text, expired_text}
use Rattle.json_obj.specs.declared.pieces.EventType.{EventType}
use Rattle.json_obj.specs.declared.pieces.EventType.TheVariants.{Bookmark, Error}
use Rattle.meta_view.specs.Partial.{version, kind, list_kind, partial_json}
use Rattle.meta_view.specs.declared.form.Form.{Form}
use Rattle.meta_view.specs.declared.form.Form.TheVariants.{Whole, Metadata}

-- an object at a revision
abbrev pub shown : Form → Obj → ℕ → List ℕ
shown Whole o revision = object_json o revision
shown Metadata o revision = partial_json (metadata_json o revision)

-- `apiVersion` of what is shown of the resource
abbrev pub version_in : Form → Resource → List ℕ
version_in Whole resource = api_version_of resource
version_in Metadata resource = version

-- `kind` of an object
abbrev pub kind_in : Form → Resource → List ℕ
kind_in Whole resource = kind_of resource
kind_in Metadata resource = kind

-- `kind` of a list
abbrev pub list_kind_in : Form → Resource → List ℕ
list_kind_in Whole resource = list_kind_of resource
list_kind_in Metadata resource = list_kind

-- ---- the lines of a watch, each without the line feed that ends it

-- the line of an object that was added, modified or deleted: it shows the object, at the revision of that change
abbrev pub object_line : Form → EventType → Obj → ℕ → List ℕ
object_line form type o revision = event_text type (shown form o revision)

-- the line of a bookmark (KEP-956): all was told up to the revision; the closing one ends the initial events (KEP-3157)
abbrev pub bookmark_line : Form → Resource → ℕ → Bool → List ℕ
bookmark_line form resource revision closing = event_text Bookmark (bookmark_text (version_in form resource) (kind_in form resource) revision closing)

-- a watch that is lost: its error is a Status in both forms
abbrev pub expired_line : ℕ → ℕ → List ℕ
expired_line asked floor = event_text Error (expired_text asked floor)
