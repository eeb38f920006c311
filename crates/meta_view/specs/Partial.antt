-- Objects with their metadata alone.
use Rattle.std.specs.Prelude.{◌≡◌, ℕ, List, ◌++◌, codes, false}
use Rattle.serde_json.specs.Data.{Data, string, object, no_members, member}
use Rattle.serde_json.specs.Written.{has_float, compact_text}
use Rattle.kube_meta.specs.Objects.{metadata_json}
use Rattle.kube_meta.specs.declared.objects.Obj.{Obj}
use Rattle.kube_meta.specs.declared.resources.Resource.{Resource}
use Rattle.json_obj.specs.Objects.{IsObjectOf, shown_metadata, members_in, metadata_of}

-- `apiVersion` of what is shown by its metadata alone (Kubernetes API concepts, "Metadata-only fetches")
abbrev pub version : List ℕ
version = codes "meta.k8s.io/v1"

-- `kind` of an object that is shown by its metadata alone
abbrev pub kind : List ℕ
kind = codes "PartialObjectMetadata"

-- `kind` of a list of objects that are
abbrev pub list_kind : List ℕ
list_kind = codes "PartialObjectMetadataList"

-- an object that has this metadata alone
abbrev pub partial_json : List ℕ → List ℕ
partial_json metadata = codes "{\"apiVersion\":\"meta.k8s.io/v1\",\"kind\":\"PartialObjectMetadata\",\"metadata\":" ++ metadata ++ codes "}"

-- the same as a value
abbrev pub partial_object : Data → Data
partial_object metadata =
    object (member (codes "apiVersion") (string version) (member (codes "kind") (string kind) (member (codes "metadata") metadata no_members)))

-- of an object that was read, metadata alone is its metadata as the whole object shows it
abbrev pub ShowsMetadataAlone : Type 0
ShowsMetadataAlone =
    (resource : Resource) (ns : List ℕ) (d : Data) (o : Obj) (revision : ℕ) → IsObjectOf resource ns d o → has_float d ≡ false
    → partial_json (metadata_json o revision) ≡ compact_text (partial_object (shown_metadata ns revision (members_in (metadata_of d))))
