-- The object that a text holds.
use Rattle.std.proofs.Common.{◌≡◌, ℕ, List, [], true, false, ◌&&◌, Option, Some, None, option_and_then, refl, sym, ap, ◌∙◌, subst}
use Rattle.std.specs.Prelude.{◌≢◌, codes, is_none, unwrap_or, IsUtf8}
use Rattle.std.specs.Option.{option_map_or}
use Rattle.std.proofs.lemmas.Bool.{and_parts}
use Rattle.std.proofs.lemmas.Option.{same_Some}
use Rattle.std.proofs.lemmas.Slice.Eq.{bytes_eq-Decides}
use Rattle.serde_json.specs.Data.{Data}
use Rattle.serde_json.specs.Find.{get, as_str}
use Rattle.serde_json.specs.Read.{read}
use Rattle.serde_json.specs.Written.{has_float, compact_text}
use Rattle.kube_meta.specs.Names.{is_object_name}
use Rattle.kube_meta.specs.Keys.{joined, namespace_of, name_of, IsKey}
use Rattle.kube_meta.specs.declared.objects.Obj.{Obj}
use Rattle.kube_meta.specs.declared.resources.Resource.{Resource}
use Rattle.json_obj.specs.declared.refusals.ObjNo.{ObjNo}
use Rattle.json_obj.specs.declared.refusals.ObjNo.TheVariants.{NotJson, Float, TooDeep, WrongKind, BadMeta, Memory}
use Rattle.json_obj.specs.Objects.{IsTextOf, refusal, IsObjectOf, metadata_of, name_in, is_path_name}
use Rattle.json_obj.proofs.AsShown.{allowed_by}
use Rattle.watch_record.specs.Reading.{KeepsObject}

same-data : (text : List ℕ) (d e : Data) → IsTextOf text d → IsTextOf text e → d ≡ e
same-data text d e first second = same_Some d e (sym first.1 ∙ second.1)

refused-as : (resource : Resource) (ns name text : List ℕ) (fault : ObjNo) → ((e : Data) × IsTextOf text e × (refusal resource ns (Some name) e ≡ Some fault))
    → (d : Data) → IsTextOf text d → KeepsObject resource ns name d None
refused-as resource ns name text fault (e, is, some) d of = ap (λ x. is_none (refusal resource ns (Some name) x)) (same-data text d e of is) ∙ ap is_none some

pub keeps-none : (resource : Resource) (ns name text : List ℕ) (fault : ObjNo)
    → (fault ≡ NotJson → (e : Data) → ¬ (IsTextOf text e))
    → (fault ≢ NotJson → fault ≢ Memory → (e : Data) × IsTextOf text e × (refusal resource ns (Some name) e ≡ Some fault))
    → fault ≢ Memory → (d : Data) → IsTextOf text d → KeepsObject resource ns name d None
keeps-none resource ns name text NotJson not_json refused other d of = absurd (not_json refl d of)
keeps-none resource ns name text Memory not_json refused other d of = absurd (other refl)
keeps-none resource ns name text Float not_json refused other d of = refused-as resource ns name text Float (refused (λ e. cc) (λ e. cc)) d of
keeps-none resource ns name text TooDeep not_json refused other d of = refused-as resource ns name text TooDeep (refused (λ e. cc) (λ e. cc)) d of
keeps-none resource ns name text WrongKind not_json refused other d of = refused-as resource ns name text WrongKind (refused (λ e. cc) (λ e. cc)) d of
keeps-none resource ns name text BadMeta not_json refused other d of = refused-as resource ns name text BadMeta (refused (λ e. cc) (λ e. cc)) d of

-- an object that isn't refused at a path's name has that name
path-name : (name : List ℕ) (found : Option (List ℕ)) → option_map_or (λ s. is_object_name s && is_path_name (Some name) s) found false ≡ true → unwrap_or found [] ≡ name
path-name name None e = absurd cc
path-name name (Some s) e = sym ((bytes_eq-Decides name s).0 (and_parts _ _ e).1)

named : (resource : Resource) (ns name : List ℕ) (d : Data) → refusal resource ns (Some name) d ≡ None → name_in (metadata_of d) ≡ name
named resource ns name d none =
    let meta = (allowed_by resource ns (Some name) d none).metadata in
    path-name name (option_and_then as_str (get (codes "name") (metadata_of d))) (and_parts _ _ (and_parts _ _ meta).1).0

pub has-key : (resource : Resource) (key : List ℕ) (d : Data) (obj : Obj) → IsKey key → refusal resource (namespace_of key) (Some (name_of key)) d ≡ None
    → IsObjectOf resource (namespace_of key) d obj → obj.key ≡ key
has-key resource key d obj form none is = is.key ∙ ap (joined (namespace_of key)) (named resource (namespace_of key) (name_of key) d none) ∙ sym form.parted

-- ---- the object of a value's text

pub record ReadsText (ns name bytes text key : List ℕ) (d : Data) : Type 0 where
  pub form : IsKey key
  pub ns_is : ns ≡ namespace_of key
  pub name_is : name ≡ name_of key
  pub bytes_are : bytes ≡ text
  pub utf8 : IsUtf8 text
  pub reads : read text ≡ Some d
  pub compact : has_float d ≡ false → text ≡ compact_text d

keeps-at : (resource : Resource) (ns name bytes text key : List ℕ) (d : Data) (found : Option Obj) → ReadsText ns name bytes text key d
    → ((e : Data) → IsTextOf bytes e → KeepsObject resource ns name e found) → KeepsObject resource (namespace_of key) (name_of key) d found
keeps-at resource ns name bytes text key d found from each =
    let of : IsTextOf bytes d = subst (λ b. IsTextOf b d) (sym from.bytes_are) (from.utf8, from.reads) in
    subst (λ n. KeepsObject resource (namespace_of key) n d found) from.name_is (subst (λ n. KeepsObject resource n name d found) from.ns_is (each d of))

pub kept-object : (resource : Resource) (ns name bytes text key : List ℕ) (d : Data) (found : Option Obj) (obj : Obj) → ReadsText ns name bytes text key d
    → ((e : Data) → IsTextOf bytes e → KeepsObject resource ns name e found) → found ≡ Some obj
    → (refusal resource (namespace_of key) (Some (name_of key)) d ≡ None) × IsObjectOf resource (namespace_of key) d obj × (obj.key ≡ key) × (text ≡ compact_text d)
kept-object resource ns name bytes text key d found obj from each is =
    let kept : KeepsObject resource (namespace_of key) (name_of key) d (Some obj) =
    subst (λ f. KeepsObject resource (namespace_of key) (name_of key) d f) is (keeps-at resource ns name bytes text key d found from each) in
    (kept.0, kept.1, has-key resource key d obj from.form kept.0 kept.1, from.compact (allowed_by resource (namespace_of key) (Some (name_of key)) d kept.0).plain)

pub no-object : (resource : Resource) (ns name bytes text key : List ℕ) (d : Data) (found : Option Obj) → ReadsText ns name bytes text key d
    → ((e : Data) → IsTextOf bytes e → KeepsObject resource ns name e found) → found ≡ None
    → is_none (refusal resource (namespace_of key) (Some (name_of key)) d) ≡ false
no-object resource ns name bytes text key d found from each is =
    subst (λ f. KeepsObject resource (namespace_of key) (name_of key) d f) is (keeps-at resource ns name bytes text key d found from each)
