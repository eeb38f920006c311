-- What follows from a value's being refused, or not.
use Rattle.std.proofs.Common.{◌≡◌, ℕ, List, Option, Some, None, Bool, true, false, ◌&&◌, refl}
use Rattle.std.specs.Prelude.{is_some, unwrap_or, codes, not, if◌then◌else◌}
use Rattle.serde_json.specs.Data.{Data, null, boolean, number, string, array, object}
use Rattle.serde_json.specs.Find.{get, as_object}
use Rattle.serde_json.specs.Written.{has_float, members_have_float}
use Rattle.kube_meta.specs.declared.resources.Resource.{Resource}
use Rattle.json_obj.specs.declared.refusals.ObjNo.TheVariants.{NotJson, WrongKind, BadMeta}
use Rattle.json_obj.specs.Objects.{is_absent_or, is_name, has_labels, is_of_kind, is_metadata, is_revision_for, revision_in, members_refusal, members_in, metadata_of}
use Rattle.json_obj.proofs.Found.{plain-get}

-- neither reason that lies in the members is that the text is no JSON
no_text : (kind meta : Bool) → (if not kind then Some WrongKind else (if not meta then Some BadMeta else None)) ≡ Some NotJson → ⊥
no_text false meta e = cc
no_text true false e = cc
no_text true true e = cc

pub members_refusal-not_json : (resource : Resource) (ns : List ℕ) (path : Option (List ℕ)) (d : Data) → members_refusal resource ns path d ≡ Some NotJson → ⊥
members_refusal-not_json resource ns path d e = no_text (is_of_kind resource d) (is_metadata ns path (metadata_of d)) e

second : (a b : Bool) → (a && b) ≡ true → b ≡ true
second true b e = e
second false b e = cc

-- the revision of metadata that may be stored
pub is_metadata-revision : (ns : List ℕ) (path : Option (List ℕ)) (d : Data) → is_metadata ns path d ≡ true
    → is_revision_for path (revision_in (get (codes "resourceVersion") d)) ≡ true
is_metadata-revision ns path d e =
    second (has_labels (get (codes "labels") d)) _
    (second (is_absent_or ns (get (codes "namespace") d)) _
    (second (is_name path (get (codes "name") d)) _
    (second (is_some (as_object d)) _ e)))

pub allowed : (path : Option (List ℕ)) (given : Option (Option ℕ)) → is_revision_for path given ≡ true → Some (unwrap_or given None) ≡ given
allowed path None e = cc
allowed path (Some given) e = refl

pub plain-members_in : (d : Data) → has_float d ≡ false → members_have_float (members_in d) ≡ false
plain-members_in null plain = refl
plain-members_in (boolean b) plain = refl
plain-members_in (number n) plain = refl
plain-members_in (string s) plain = refl
plain-members_in (array ds) plain = refl
plain-members_in (object ms) plain = plain

plain-default : (found : Option Data) → ((m : Data) → found ≡ Some m → has_float m ≡ false) → has_float (unwrap_or found null) ≡ false
plain-default None each = refl
plain-default (Some m) each = each m refl

pub plain-metadata_of : (d : Data) → has_float d ≡ false → has_float (metadata_of d) ≡ false
plain-metadata_of d plain = plain-default (get (codes "metadata") d) (λ m e. plain-get (codes "metadata") d m e plain)

both_allowed : (kind meta : Bool) → (if not kind then Some WrongKind else (if not meta then Some BadMeta else None)) ≡ None → (kind ≡ true) × (meta ≡ true)
both_allowed false meta e = absurd cc
both_allowed true false e = absurd cc
both_allowed true true e = (refl, refl)

-- what nothing in the members refuses is of the kind, and its metadata may be stored
pub members_allowed : (resource : Resource) (ns : List ℕ) (path : Option (List ℕ)) (d : Data) → members_refusal resource ns path d ≡ None
    → (is_of_kind resource d ≡ true) × (is_metadata ns path (metadata_of d) ≡ true)
members_allowed resource ns path d e = both_allowed (is_of_kind resource d) (is_metadata ns path (metadata_of d)) e
