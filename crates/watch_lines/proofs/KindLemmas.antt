-- A value with the version and the kind of its resource shows what it shows without them.
use Rattle.std.proofs.Common.{◌≡◌, ℕ, false, List, Some, refl, sym, ap, ◌∙◌}
use Rattle.std.specs.Prelude.{codes, unwrap_or, option_and_then}
use Rattle.std.proofs.lemmas.Option.{same_Some}
use Rattle.serde_json.specs.Data.{Data, null, string, object, Members, put}
use Rattle.serde_json.specs.Find.{get, as_str}
use Rattle.serde_json.specs.Written.{has_float, compact_text}
use Rattle.serde_json.proofs.Views.{get_member-put_other}
use Rattle.kube_meta.specs.Keys.{joined}
use Rattle.kube_meta.specs.Resources.{api_version_of, kind_of}
use Rattle.kube_meta.specs.declared.objects.Obj.{Obj}
use Rattle.kube_meta.specs.declared.resources.Resource.{Resource}
use Rattle.kube_meta.specs.declared.resources.Resource.TheVariants.{Pods, ConfigMaps, Deployments}
use Rattle.json_obj.specs.Laws.{ObjectsAreOne}
use Rattle.json_obj.specs.Objects.{metadata_of, members_in, name_in, label_in, revision_in, shown_metadata, shown_object, field_values, IsObjectOf}
use Rattle.json_obj.proofs.Shown.{apart, commute, put-twice, get-members_in}
use Rattle.watch_lines.specs.Reading.{IsPlaced, Keeps}
use Rattle.watch_lines.specs.ValueLaws.{with_kind}
use Rattle.watch_lines.specs.Values.{ShowsObject}
use Rattle.watch_lines.proofs.ShownLemmas.{no-float, place-is}

-- all else is found as before
found-other : (name : List ℕ) (resource : Resource) (d : Data) → (name ≡ codes "apiVersion" → ⊥) → (name ≡ codes "kind" → ⊥) → get name (with_kind resource d) ≡ get name d
found-other name resource d first second =
    get_member-put_other name (codes "apiVersion") (string (api_version_of resource)) (put (codes "kind") (string (kind_of resource)) (members_in d)) first
    ∙ get_member-put_other name (codes "kind") (string (kind_of resource)) (members_in d) second
    ∙ sym (get-members_in name d)

metadata-is : (resource : Resource) (d : Data) → metadata_of (with_kind resource d) ≡ metadata_of d
metadata-is resource d = ap (λ found. unwrap_or found null) (found-other (codes "metadata") resource d (apart _ _ refl) (apart _ _ refl))

fields-are : (resource other : Resource) (d : Data) → field_values other (with_kind resource d) ≡ field_values other d
fields-are resource Pods d =
    let spec : get (codes "spec") (with_kind resource d) ≡ get (codes "spec") d = found-other (codes "spec") resource d (apart _ _ refl) (apart _ _ refl) in
    let status : get (codes "status") (with_kind resource d) ≡ get (codes "status") d = found-other (codes "status") resource d (apart _ _ refl) (apart _ _ refl) in
    rw (spec, status) refl
fields-are resource ConfigMaps d = refl
fields-are resource Deployments d = refl

-- what is put once more changes nothing
put-again : (resource : Resource) (m : Data) (ms : Members)
    → put (codes "apiVersion") (string (api_version_of resource)) (put (codes "kind") (string (kind_of resource)) (put (codes "metadata") m
    (put (codes "apiVersion") (string (api_version_of resource)) (put (codes "kind") (string (kind_of resource)) ms))))
    ≡ put (codes "apiVersion") (string (api_version_of resource)) (put (codes "kind") (string (kind_of resource)) (put (codes "metadata") m ms))
put-again resource m ms =
    let a = codes "apiVersion" in
    let k = codes "kind" in
    let version = string (api_version_of resource) in
    let kind = string (kind_of resource) in
    let rest = put (codes "metadata") m ms in
    ap (λ w. put a version (put k kind w)) (sym (commute a (codes "metadata") version m (put k kind ms) refl) ∙ ap (put a version) (sym (commute k (codes "metadata") kind m ms refl)))
    ∙ ap (put a version) (sym (commute a k version kind (put k kind rest) refl) ∙ ap (put a version) (put-twice k kind kind rest))
    ∙ put-twice a version version (put k kind rest)

object-is : (resource : Resource) (ns : List ℕ) (d : Data) (obj : Obj) → has_float d ≡ false → IsObjectOf resource ns d obj → IsObjectOf resource ns (with_kind resource d) obj
object-is resource ns d obj plain is =
    let same : metadata_of (with_kind resource d) ≡ metadata_of d = metadata-is resource d in
    record {
      key = is.key ∙ ap (λ m. joined ns (name_in m)) (sym same);
      labels = λ label. is.labels label ∙ ap (λ m. label_in m label) (sym same);
      sorted = is.sorted;
      fields = is.fields ∙ sym (fields-are resource resource d);
      text = λ p r. is.text plain r ∙ sym (ap (λ m. compact_text (shown_object resource ns r (members_in (with_kind resource d)) (members_in m))) same
          ∙ ap (λ ms. compact_text (object ms)) (put-again resource (shown_metadata ns r (members_in (metadata_of d))) (members_in d)));
      metadata = λ p r. is.metadata plain r ∙ ap (λ m. compact_text (shown_metadata ns r (members_in m))) (sym same);
      front_utf8 = is.front_utf8;
      back_utf8 = is.back_utf8;
    }

pub one-without : ObjectsAreOne → (resource : Resource) (d : Data) (obj other : Obj) (rev later : ℕ) → ShowsObject resource d obj rev → ShowsObject resource (with_kind resource d) other later
    → (obj ≡ other) × (rev ≡ later)
one-without law resource d obj other rev later first second =
    let whole = with_kind resource d in
    let same : metadata_of whole ≡ metadata_of d = metadata-is resource d in
    let placed : IsPlaced whole first.ns first.name = record {
      namespace = first.placed.namespace;
      ns_is = ap (λ m. option_and_then as_str (get (codes "namespace") m)) same ∙ first.placed.ns_is;
      name_is = ap (λ m. option_and_then as_str (get (codes "name") m)) same ∙ first.placed.name_is;
    } in
    let also : Keeps resource first.ns first.name whole other later = place-is resource whole first.ns first.name other later placed second in
    let given : Some (Some rev) ≡ Some (Some later) = first.keeps.stores.given ∙ ap (λ m. revision_in (get (codes "resourceVersion") m)) (sym same) ∙ sym also.stores.given in (
      law resource first.ns whole obj other (no-float whole second.plain) (object-is resource first.ns d obj (no-float d first.plain) first.keeps.stores.object) also.stores.object,
      same_Some rev later (same_Some (Some rev) (Some later) given),
    )
