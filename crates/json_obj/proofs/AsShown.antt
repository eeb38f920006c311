-- The object of a value is also that of the value as it is shown, and nothing refuses that.
use Rattle.std.proofs.Common.{◌≡◌, ℕ, suc, ◌≤◌, List, [], Bool, true, false, ◌&&◌, Option, Some, None, Ordering, Less, Equal, Greater, option_and_then, decimal, refl, sym, ap, ◌∙◌, subst, arith, Ok}
use Rattle.std.specs.Prelude.{codes, is_some, unwrap_or, not, nat_lt, if◌then◌else◌}
use Rattle.std.specs.Option.{option_map_or, option_or}
use Rattle.std.specs.Ordering.{match_ordering}
use Rattle.std.specs.Str.{bytes_eq}
use Rattle.std.proofs.lemmas.Bool.{and_parts, and_from, le-ltb, ltb-false}
use Rattle.std.proofs.lemmas.Slice.Eq.{bytes_eq-Decides}
use Rattle.serde_json.specs.Data.{Data, null, boolean, number, string, array, object, Members, no_members, member, put, depth, members_depth}
use Rattle.serde_json.specs.Find.{get, get_member, as_str, as_object}
use Rattle.serde_json.specs.Written.{has_float, compact_text}
use Rattle.kube_meta.specs.Names.{is_object_name}
use Rattle.kube_meta.specs.Keys.{joined}
use Rattle.kube_meta.specs.Resources.{api_version_of, kind_of}
use Rattle.kube_meta.specs.Revisions.{revision_of}
use Rattle.kube_meta.specs.declared.objects.Obj.{Obj}
use Rattle.kube_meta.specs.declared.resources.Resource.{Resource}
use Rattle.kube_meta.specs.declared.resources.Resource.TheVariants.{Pods, ConfigMaps, Deployments}
use Rattle.json_obj.specs.declared.refusals.ObjNo.{ObjNo}
use Rattle.json_obj.specs.declared.refusals.ObjNo.TheVariants.{Float, TooDeep, WrongKind, BadMeta}
use Rattle.json_obj.specs.Objects.{is_absent_or, is_path_name, is_name, has_labels, is_of_kind, is_metadata, is_revision_for, revision_in, revision_in_text, unless_zero, refusal, max_nesting, members_in, metadata_of, shown_metadata, shown_object, field_values, name_in, label_in, IsObjectOf, Stores}
use Rattle.json_obj.specs.Orderly.{IsOrderly, AreOrderly}
use Rattle.json_obj.proofs.Orderly.{AreOrderly-put, get-orderly}
use Rattle.json_obj.proofs.Puts.{cmp}
use Rattle.json_obj.proofs.Refused.{plain-members_in, plain-metadata_of}
use Rattle.json_obj.proofs.Shown.{get-members_in, shown-namespace, shown-revision, apart, shown-name, shown-labels, shown-api_version, shown-kind, shown-metadata, shown-other, shown_object-again, shown_metadata-again, plain-shown_object, depth-shown_object}

-- ---- no refusal

pub record Allowed (resource : Resource) (ns : List ℕ) (path : Option (List ℕ)) (d : Data) : Type 0 where
  pub plain : has_float d ≡ false
  pub shallow : nat_lt max_nesting (depth d) ≡ false
  pub kind : is_of_kind resource d ≡ true
  pub metadata : is_metadata ns path (metadata_of d) ≡ true

abbrev first_of_four : Bool → Bool → Bool → Bool → Option ObjNo
first_of_four float deep kind meta =
    option_or (if float then Some Float else (if deep then Some TooDeep else None)) (if not kind then Some WrongKind else (if not meta then Some BadMeta else None))

four : (float deep kind meta : Bool) → first_of_four float deep kind meta ≡ None → (float ≡ false) × (deep ≡ false) × (kind ≡ true) × (meta ≡ true)
four true deep kind meta e = absurd cc
four false true kind meta e = absurd cc
four false false false meta e = absurd cc
four false false true false e = absurd cc
four false false true true e = (refl, refl, refl, refl)

pub allowed_by : (resource : Resource) (ns : List ℕ) (path : Option (List ℕ)) (d : Data) → refusal resource ns path d ≡ None → Allowed resource ns path d
allowed_by resource ns path d e =
    let p = four (has_float d) (nat_lt max_nesting (depth d)) (is_of_kind resource d) (is_metadata ns path (metadata_of d)) e in
    record { plain = p.0; shallow = p.1; kind = p.2; metadata = p.3 }

pub none_by : (resource : Resource) (ns : List ℕ) (path : Option (List ℕ)) (d : Data) → Allowed resource ns path d → refusal resource ns path d ≡ None
none_by resource ns path d a = rw (a.plain, a.shallow, a.kind, a.metadata) refl

-- ---- the metadata

same_text : (text : List ℕ) → bytes_eq text text ≡ true
same_text text = (bytes_eq-Decides text text).1 refl

own_name : (path : Option (List ℕ)) (s : Option (List ℕ)) → option_map_or (λ name. is_object_name name && is_path_name path name) s false ≡ true
    → option_map_or (λ name. is_object_name name && is_path_name (Some (unwrap_or s [])) name) s false ≡ true
own_name path None e = e
own_name path (Some name) e = and_from _ _ (and_parts _ _ e).0 (same_text name)

is_name-own : (path : Option (List ℕ)) (d : Option Data) (text : List ℕ) → unwrap_or (option_and_then as_str d) [] ≡ text → is_name path d ≡ true → is_name (Some text) d ≡ true
is_name-own path d text is e = subst (λ t. is_name (Some t) d ≡ true) is (own_name path (option_and_then as_str d) e)

any_revision : (name : List ℕ) (given : Option ℕ) → is_revision_for (Some name) (Some given) ≡ true
any_revision name None = refl
any_revision name (Some n) = refl

pub revision_in-shown : (ns : List ℕ) (revision : ℕ) (ms : Members) → revision_of (decimal revision) ≡ Ok revision
    → revision_in (get (codes "resourceVersion") (shown_metadata ns revision ms)) ≡ Some (unless_zero revision)
revision_in-shown ns revision ms back =
    ap revision_in (shown-revision ns revision ms) ∙ ap (revision_in_text (decimal revision)) back

is_metadata-shown : (ns : List ℕ) (path : Option (List ℕ)) (d : Data) (revision : ℕ) → revision_of (decimal revision) ≡ Ok revision → is_metadata ns path d ≡ true
    → is_metadata ns (Some (name_in d)) (shown_metadata ns revision (members_in d)) ≡ true
is_metadata-shown ns path d revision back e =
    let shown = shown_metadata ns revision (members_in d) in
    let p = and_parts _ _ e in
    let q = and_parts _ _ p.1 in
    let r = and_parts _ _ q.1 in
    let s = and_parts _ _ r.1 in
    let same_name : get (codes "name") shown ≡ get (codes "name") d = shown-name ns revision (members_in d) ∙ sym (get-members_in (codes "name") d) in
    let same_labels : get (codes "labels") shown ≡ get (codes "labels") d = shown-labels ns revision (members_in d) ∙ sym (get-members_in (codes "labels") d) in
    let name : is_name (Some (name_in d)) (get (codes "name") shown) ≡ true = rw same_name (is_name-own path (get (codes "name") d) (name_in d) refl q.0) in
    let namespace : is_absent_or ns (get (codes "namespace") shown) ≡ true = ap (is_absent_or ns) (shown-namespace ns revision (members_in d)) ∙ same_text ns in
    let labels : has_labels (get (codes "labels") shown) ≡ true = ap has_labels same_labels ∙ s.0 in
    let given : is_revision_for (Some (name_in d)) (revision_in (get (codes "resourceVersion") shown)) ≡ true =
    ap (is_revision_for (Some (name_in d))) (revision_in-shown ns revision (members_in d) back) ∙ any_revision (name_in d) (unless_zero revision) in
    and_from _ _ name (and_from _ _ namespace (and_from _ _ labels given))

-- ---- the whole object

metadata_of-shown : (resource : Resource) (ns : List ℕ) (revision : ℕ) (ms meta : Members) → metadata_of (shown_object resource ns revision ms meta) ≡ shown_metadata ns revision meta
metadata_of-shown resource ns revision ms meta = ap (λ found. unwrap_or found null) (shown-metadata resource ns revision ms meta)

is_of_kind-shown : (resource : Resource) (ns : List ℕ) (revision : ℕ) (ms meta : Members) → is_of_kind resource (shown_object resource ns revision ms meta) ≡ true
is_of_kind-shown resource ns revision ms meta =
    and_from _ _ (ap (is_absent_or (api_version_of resource)) (shown-api_version resource ns revision ms meta) ∙ same_text (api_version_of resource))
    (ap (is_absent_or (kind_of resource)) (shown-kind resource ns revision ms meta) ∙ same_text (kind_of resource))

abbrev pub as_shown : Resource → List ℕ → ℕ → Data → Data
as_shown resource ns revision d = shown_object resource ns revision (members_in d) (members_in (metadata_of d))

-- ---- nesting

depth_of_object : (d : Data) → is_some (as_object d) ≡ true → depth d ≡ suc (members_depth (members_in d))
depth_of_object null e = absurd cc
depth_of_object (boolean b) e = absurd cc
depth_of_object (number n) e = absurd cc
depth_of_object (string s) e = absurd cc
depth_of_object (array ds) e = absurd cc
depth_of_object (object ms) e = refl

depth-found-either : (o : Ordering) (rest : Option Data) (d m : Data) (n : ℕ) → (rest ≡ Some m → depth m ≤ n) → depth d ≤ n → match_ordering o rest (Some d) rest ≡ Some m → depth m ≤ n
depth-found-either Less rest d m n later here e = later e
depth-found-either Equal rest d m n later here e = subst (λ o. option_map_or (λ x. depth x) o 0 ≤ n) e here
depth-found-either Greater rest d m n later here e = later e

depth-get_member : (name : List ℕ) (ms : Members) (m : Data) → get_member name ms ≡ Some m → depth m ≤ members_depth ms
depth-get_member name no_members m e = absurd cc
depth-get_member name (member l d ms) m e =
    depth-found-either (cmp name l) (get_member name ms) d m (members_depth (member l d ms)) (λ later. let below = depth-get_member name ms m later in omega arith) (omega arith) e

inner_depth : (found : Option Data) (n : ℕ) → ((m : Data) → found ≡ Some m → depth m ≤ n) → is_some (as_object (unwrap_or found null)) ≡ true → suc (members_depth (members_in (unwrap_or found null))) ≤ n
inner_depth None n each e = absurd cc
inner_depth (Some m) n each e = let within = each m refl in omega (arith, depth_of_object m e)

shallow-shown : (resource : Resource) (ns : List ℕ) (path : Option (List ℕ)) (d : Data) (revision : ℕ) → Allowed resource ns path d → depth (as_shown resource ns revision d) ≤ max_nesting
shallow-shown resource ns path d revision a =
    let kind = and_parts _ _ a.kind in
    let meta = and_parts _ _ a.metadata in
    let whole : depth d ≡ suc (members_depth (members_in d)) = depth_of_object d kind.0 in
    let limit : depth d ≤ max_nesting = ltb-false max_nesting (depth d) a.shallow in
    let inner : suc (members_depth (members_in (metadata_of d))) ≤ members_depth (members_in d) =
    inner_depth (get (codes "metadata") d) (members_depth (members_in d)) (λ m e. depth-get_member (codes "metadata") (members_in d) m (sym (get-members_in (codes "metadata") d) ∙ e)) meta.0 in
    let shown = depth-shown_object resource ns revision (members_in d) (members_in (metadata_of d)) (members_depth (members_in d)) (omega arith) inner in
    omega (arith, shown, whole, limit)

-- ---- nothing refuses it

plain-as_shown : (resource : Resource) (ns : List ℕ) (d : Data) (revision : ℕ) → has_float d ≡ false → has_float (as_shown resource ns revision d) ≡ false
plain-as_shown resource ns d revision plain =
    plain-shown_object resource ns revision (members_in d) (members_in (metadata_of d)) (plain-members_in d plain) (plain-members_in (metadata_of d) (plain-metadata_of d plain))

pub allowed-shown : (resource : Resource) (ns : List ℕ) (path : Option (List ℕ)) (d : Data) (revision : ℕ) → revision_of (decimal revision) ≡ Ok revision → Allowed resource ns path d
    → Allowed resource ns (Some (name_in (metadata_of d))) (as_shown resource ns revision d)
allowed-shown resource ns path d revision back a =
    let meta = metadata_of d in
    let same : metadata_of (as_shown resource ns revision d) ≡ shown_metadata ns revision (members_in meta) = metadata_of-shown resource ns revision (members_in d) (members_in meta) in
    record {
      plain = plain-as_shown resource ns d revision a.plain;
      shallow = le-ltb max_nesting (depth (as_shown resource ns revision d)) (shallow-shown resource ns path d revision a);
      kind = is_of_kind-shown resource ns revision (members_in d) (members_in meta);
      metadata = ap (is_metadata ns (Some (name_in meta))) same ∙ is_metadata-shown ns path meta revision back a.metadata;
    }

-- ---- it is orderly

orderly-members_in : (d : Data) → IsOrderly d → AreOrderly (members_in d)
orderly-members_in null h = tt
orderly-members_in (boolean b) h = tt
orderly-members_in (number n) h = tt
orderly-members_in (string s) h = tt
orderly-members_in (array ds) h = tt
orderly-members_in (object ms) h = h

orderly-default : (found : Option Data) → ((m : Data) → found ≡ Some m → IsOrderly m) → IsOrderly (unwrap_or found null)
orderly-default None each = tt
orderly-default (Some m) each = each m refl

pub orderly-as_shown : (resource : Resource) (ns : List ℕ) (d : Data) (revision : ℕ) → IsOrderly d → IsOrderly (as_shown resource ns revision d)
orderly-as_shown resource ns d revision h =
    let meta : AreOrderly (members_in (metadata_of d)) = orderly-members_in (metadata_of d) (orderly-default (get (codes "metadata") d) (λ m e. get-orderly (codes "metadata") d m h e)) in
    let shown : IsOrderly (shown_metadata ns revision (members_in (metadata_of d))) =
    AreOrderly-put (codes "namespace") (string ns) (put (codes "resourceVersion") (string (decimal revision)) (members_in (metadata_of d))) tt (AreOrderly-put (codes "resourceVersion") (string (decimal revision)) (members_in (metadata_of d)) tt meta) in
    let third = AreOrderly-put (codes "metadata") (shown_metadata ns revision (members_in (metadata_of d))) (members_in d) shown (orderly-members_in d h) in
    let second = AreOrderly-put (codes "kind") (string (kind_of resource)) (put (codes "metadata") (shown_metadata ns revision (members_in (metadata_of d))) (members_in d)) tt third in
    AreOrderly-put (codes "apiVersion") (string (api_version_of resource)) (put (codes "kind") (string (kind_of resource)) (put (codes "metadata") (shown_metadata ns revision (members_in (metadata_of d))) (members_in d))) tt second

-- ---- the same object is stored for it

field_values-shown : (resource other : Resource) (ns : List ℕ) (d : Data) (revision : ℕ) → field_values other (as_shown resource ns revision d) ≡ field_values other d
field_values-shown resource Pods ns d revision =
    let ms = members_in d in
    let meta = members_in (metadata_of d) in
    let spec : get (codes "spec") (as_shown resource ns revision d) ≡ get (codes "spec") d = shown-other (codes "spec") resource ns revision ms meta (apart _ _ refl) (apart _ _ refl) (apart _ _ refl) ∙ sym (get-members_in (codes "spec") d) in
    let status : get (codes "status") (as_shown resource ns revision d) ≡ get (codes "status") d = shown-other (codes "status") resource ns revision ms meta (apart _ _ refl) (apart _ _ refl) (apart _ _ refl) ∙ sym (get-members_in (codes "status") d) in
    rw (spec, status) refl
field_values-shown resource ConfigMaps ns d revision = refl
field_values-shown resource Deployments ns d revision = refl

pub is_object-shown : (resource : Resource) (ns : List ℕ) (d : Data) (o : Obj) (revision : ℕ) → has_float d ≡ false → IsObjectOf resource ns d o → IsObjectOf resource ns (as_shown resource ns revision d) o
is_object-shown resource ns d o revision plain is =
    let ms = members_in d in
    let meta = members_in (metadata_of d) in
    let same : metadata_of (as_shown resource ns revision d) ≡ shown_metadata ns revision meta = metadata_of-shown resource ns revision ms meta in
    let name : get (codes "name") (shown_metadata ns revision meta) ≡ get (codes "name") (metadata_of d) = shown-name ns revision meta ∙ sym (get-members_in (codes "name") (metadata_of d)) in
    let labels : get (codes "labels") (shown_metadata ns revision meta) ≡ get (codes "labels") (metadata_of d) = shown-labels ns revision meta ∙ sym (get-members_in (codes "labels") (metadata_of d)) in
    let named : name_in (metadata_of (as_shown resource ns revision d)) ≡ name_in (metadata_of d) = ap name_in same ∙ ap (λ found. unwrap_or (option_and_then as_str found) []) name in
    record {
      key = is.key ∙ ap (joined ns) (sym named);
      labels = λ label. is.labels label ∙ sym (ap (λ m. label_in m label) same ∙ ap (λ found. option_and_then as_str (option_and_then (get label) found)) labels);
      sorted = is.sorted;
      fields = is.fields ∙ sym (field_values-shown resource resource ns d revision);
      text = λ p r. is.text plain r ∙ sym (ap (λ m. compact_text (shown_object resource ns r (members_in (as_shown resource ns revision d)) (members_in m))) same ∙ ap compact_text (shown_object-again resource ns r revision ms meta));
      metadata = λ p r. is.metadata plain r ∙ sym (ap (λ m. compact_text (shown_metadata ns r (members_in m))) same ∙ ap compact_text (shown_metadata-again ns r revision meta));
      front_utf8 = is.front_utf8;
      back_utf8 = is.back_utf8;
    }

pub stores-shown : (resource : Resource) (ns : List ℕ) (d : Data) (o : Obj) (revision : ℕ) → revision_of (decimal revision) ≡ Ok revision → has_float d ≡ false → IsObjectOf resource ns d o
    → Stores resource ns (as_shown resource ns revision d) (o, unless_zero revision)
stores-shown resource ns d o revision back plain is =
    let same : metadata_of (as_shown resource ns revision d) ≡ shown_metadata ns revision (members_in (metadata_of d)) = metadata_of-shown resource ns revision (members_in d) (members_in (metadata_of d)) in
    record {
      object = is_object-shown resource ns d o revision plain is;
      given = sym (ap (λ m. revision_in (get (codes "resourceVersion") m)) same ∙ revision_in-shown ns revision (members_in (metadata_of d)) back);
    }
