-- The text of an object with its metadata alone.
use Rattle.std.proofs.Common.{◌≡◌, ℕ, List, [], ◌++◌, refl, append_assoc, append-nil}
use Rattle.std.specs.Prelude.{codes}
use Rattle.json.specs.Print.{escape_byte}
use Rattle.serde_json.specs.Data.{Data}
use Rattle.serde_json.specs.Written.{compact_text}
use Rattle.meta_view.specs.Partial.{partial_json, partial_object}

-- it is the compact JSON of the value that has this metadata alone
pub partial_text : (metadata : List ℕ) (d : Data) → metadata ≡ compact_text d → partial_json metadata ≡ compact_text (partial_object d)
unfolding escape_byte
partial_text metadata d e = rw e refl

-- the pieces of an object, whole and with its metadata alone
pub whole_text : (front digits back : List ℕ) → front ++ (digits ++ (back ++ [])) ≡ front ++ digits ++ back
whole_text front digits back = simp (append_assoc, append-nil)

pub metadata_text : (front digits back : List ℕ)
    → codes "{\"apiVersion\":\"meta.k8s.io/v1\",\"kind\":\"PartialObjectMetadata\",\"metadata\":" ++ (front ++ (digits ++ (back ++ codes "}"))) ≡ partial_json (front ++ digits ++ back)
metadata_text front digits back = simp append_assoc
