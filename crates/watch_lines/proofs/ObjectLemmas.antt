-- The object that a text is of.
use Rattle.std.proofs.Common.{◌≡◌, ℕ, zero, suc, ◌≤◌, ◌^◌, Bool, true, false, ◌&&◌, List, length, Option, Some, None, option_and_then, Result, Ok, Err, refl, sym, ap, ◌∙◌, subst, arith}
use Rattle.std.specs.Prelude.{◌≢◌, codes, ◌==◌, unwrap_or, if◌then◌else◌, MatchOption, IfOk}
use Rattle.std.specs.Option.{option_map_or, option_or}
use Rattle.std.specs.declared.alloc.AllocError.{AllocError}
use Rattle.std.proofs.lemmas.Bool.{and_parts}
use Rattle.std.proofs.lemmas.Option.{same_Some}
use Rattle.std.proofs.lemmas.Slice.Eq.{bytes_eq-Decides}
use Rattle.serde_json.specs.Data.{Data, string}
use Rattle.serde_json.specs.Find.{get, as_str}
use Rattle.kube_meta.specs.Names.{is_object_name}
use Rattle.kube_meta.specs.Objects.{object_json}
use Rattle.kube_meta.specs.Revisions.{revision_of, RevisionsAreReadBack}
use Rattle.kube_meta.specs.declared.objects.Obj.{Obj}
use Rattle.kube_meta.specs.declared.resources.Resource.{Resource}
use Rattle.kube_meta.specs.declared.revisions.RevNo.{RevNo}
use Rattle.json_obj.specs.declared.refusals.ObjNo.{ObjNo}
use Rattle.json_obj.specs.declared.refusals.ObjNo.TheVariants.{NotJson, Float, TooDeep, WrongKind, BadMeta, Memory}
use Rattle.json_obj.specs.Laws.{ReadsBack, ObjectsReadBack, ValuesAreOrderly}
use Rattle.json_obj.specs.Objects.{IsTextOf, value_refusal, members_refusal, is_path_name, metadata_of, members_in, name_in, shown_metadata, unless_zero, revision_in, revision_in_text, Stores}
use Rattle.json_obj.proofs.Refused.{members_allowed}
use Rattle.json_obj.proofs.Shown.{shown-metadata, shown-namespace}
use Rattle.watch_lines.specs.Stored.{IsStored, IsToldAt}
use Rattle.watch_lines.specs.Reading.{IsValueOf, text_at, IsPlaced, Keeps, IsOnly}

-- ---- the value of a text

pub same-value : (text : List ℕ) (d e : Data) → IsTextOf text d → IsTextOf text e → d ≡ e
same-value text d e first second = same_Some d e (sym first.1 ∙ second.1)

refused-as : (text : List ℕ) (fault : ObjNo) → ((e : Data) × IsTextOf text e × (value_refusal e ≡ Some fault)) → (d : Data) → IsValueOf text d → ⊥
refused-as text fault (e, is, some) d of =
    let bad : None ≡ Some fault = sym of.plain ∙ ap value_refusal (same-value text d e of.is is) ∙ some in
    cc

pub no-value : (text : List ℕ) (fault : ObjNo) → (fault ≡ NotJson → (e : Data) → ¬ (IsTextOf text e))
    → (fault ≢ NotJson → fault ≢ Memory → (e : Data) × IsTextOf text e × (value_refusal e ≡ Some fault))
    → fault ≢ Memory → (d : Data) → IsValueOf text d → ⊥
no-value text NotJson not_json refused other d of = not_json refl d of.is
no-value text Memory not_json refused other d of = other refl
no-value text Float not_json refused other d of = refused-as text Float (refused (λ e. cc) (λ e. cc)) d of
no-value text TooDeep not_json refused other d of = refused-as text TooDeep (refused (λ e. cc) (λ e. cc)) d of
no-value text WrongKind not_json refused other d of = refused-as text WrongKind (refused (λ e. cc) (λ e. cc)) d of
no-value text BadMeta not_json refused other d of = refused-as text BadMeta (refused (λ e. cc) (λ e. cc)) d of

-- ---- what the text of a stored object is of

pub both-none : (a b : Option ObjNo) → option_or a b ≡ None → (a ≡ None) × (b ≡ None)
both-none None b e = (refl, e)
both-none (Some x) b e = absurd cc

pub from-none : (a b : Option ObjNo) → a ≡ None → b ≡ None → option_or a b ≡ None
from-none a b first second = rw (first, second) refl

path-name : (name : List ℕ) (found : Option (List ℕ)) → option_map_or (λ s. is_object_name s && is_path_name (Some name) s) found false ≡ true → found ≡ Some name
path-name name None e = absurd cc
path-name name (Some s) e = ap Some (sym ((bytes_eq-Decides name s).0 (and_parts _ _ e).1))

-- a value that isn't refused at a path's name has that name
named : (resource : Resource) (ns name : List ℕ) (d : Data) → members_refusal resource ns (Some name) d ≡ None → text_at (codes "name") d ≡ Some name
named resource ns name d none =
    let meta = (members_allowed resource ns (Some name) d none).1 in
    path-name name (option_and_then as_str (get (codes "name") (metadata_of d))) (and_parts _ _ (and_parts _ _ meta).1).0

pub given-some : (rev : ℕ) → 1 ≤ rev → unless_zero rev ≡ Some rev
given-some zero above = absurd (omega arith)
given-some (suc n) above = refl

pub record ShownAs (resource : Resource) (text : List ℕ) (o : Obj) (rev : ℕ) : Type 0 where
  pub value : Data
  pub ns : List ℕ
  pub name : List ℕ
  pub of : IsValueOf text value
  pub placed : IsPlaced value ns name
  pub one : (other : Obj) (later : ℕ) → Keeps resource ns name value other later → (other ≡ o) × (later ≡ rev)
  pub keeps : Keeps resource ns name value o rev

pub shown-as : ObjectsReadBack → (resource : Resource) (text : List ℕ) (o : Obj) (rev : ℕ) → IsStored resource o → IsToldAt rev → text ≡ object_json o rev → ShownAs resource text o rev
shown-as law resource text o rev is at same =
    let back : ReadsBack resource is.ns is.value o rev = law resource is.ns is.path is.value o rev is.orderly is.allowed is.stored at.1 in
    let name : List ℕ = name_in (metadata_of is.value) in
    let meta = members_in (metadata_of is.value) in
    let allowed = both-none (value_refusal back.value) (members_refusal resource is.ns (Some name) back.value) back.allowed in
    let given : unless_zero rev ≡ Some rev = given-some rev at.0 in
    let metadata_is : metadata_of back.value ≡ shown_metadata is.ns rev meta =
    ap metadata_of back.shown ∙ ap (λ found. unwrap_or found Rattle.serde_json.specs.Data.null) (shown-metadata resource is.ns rev (members_in is.value) meta) in
    record {
      value = back.value;
      ns = is.ns;
      name = name;
      of = record { is = subst (λ t. IsTextOf t back.value) (sym same) back.text; plain = allowed.0 };
      placed = record {
        namespace = is.namespace;
        ns_is = ap (λ m. option_and_then as_str (get (codes "namespace") m)) metadata_is ∙ ap (option_and_then as_str) (shown-namespace is.ns rev meta);
        name_is = named resource is.ns name back.value allowed.1;
      };
      one = λ other later keeps.
          let e : (other, Some later) ≡ (o, unless_zero rev) = back.one (other, Some later) keeps.stores in
          let first : other ≡ o = ap (λ p. p.0) e in
          let second : Some later ≡ Some rev = ap (λ p. p.1) e ∙ given in
          (first, same_Some later rev second);
      keeps = record { allowed = allowed.1; stores = subst (λ g. Stores resource is.ns back.value (o, g)) given back.stored };
    }

-- ---- what is read

-- a revision that is given is one that a line may have
told-text : RevisionsAreReadBack → (text : List ℕ) (r : Result ℕ RevNo) (rev : ℕ) → revision_of text ≡ r → revision_in_text text r ≡ Some (Some rev) → IsToldAt rev
told-text law text (Ok zero) rev is e = absurd cc
told-text law text (Ok (suc n)) rev is e =
    let same : suc n ≡ rev = cc in
    let small : suc n ≤ 2 ^ 62 = (law.1 text (suc n) is).0 in
    (omega arith, omega arith)
told-text law text (Err fault) rev is e = absurd (by_test (length text == 0) e)
  where
    by_test : (b : Bool) → (if b then Some None else None) ≡ Some (Some rev) → ⊥
    by_test true bad = cc
    by_test false bad = cc

pub told-at : RevisionsAreReadBack → (found : Option Data) (rev : ℕ) → Some (Some rev) ≡ revision_in found → IsToldAt rev
told-at law None rev e = absurd cc
told-at law (Some d) rev e = by_text (as_str d) e
  where
    by_text : (s : Option (List ℕ)) → Some (Some rev) ≡ option_and_then (λ text. revision_in_text text (revision_of text)) s → IsToldAt rev
    by_text None bad = absurd cc
    by_text (Some text) same = told-text law text (revision_of text) rev refl (sym same)

-- the laws that the reading rests on
pub record Rests : Type 0 where
  pub orderly : ValuesAreOrderly
  pub objects : ObjectsReadBack
  pub revisions : RevisionsAreReadBack

abbrev pub HasNone : Resource → List ℕ → Type 0
HasNone resource text = (obj : Obj) (rev : ℕ) → IsStored resource obj → IsToldAt rev → text ≢ object_json obj rev

pub none-valued : Rests → (resource : Resource) (text : List ℕ) → ((d : Data) → ¬ (IsValueOf text d)) → HasNone resource text
none-valued laws resource text none obj rev is at same = let shown = shown-as laws.objects resource text obj rev is at same in none shown.value shown.of

pub none-placed : Rests → (resource : Resource) (text : List ℕ) (d : Data) → IsValueOf text d → ((ns name : List ℕ) → ¬ (IsPlaced d ns name)) → HasNone resource text
none-placed laws resource text d of none obj rev is at same =
    let shown = shown-as laws.objects resource text obj rev is at same in
    none shown.ns shown.name (subst (λ x. IsPlaced x shown.ns shown.name) (same-value text shown.value d shown.of.is of.is) shown.placed)

-- the value and its place are those of the object, if there is one
record Meets (resource : Resource) (text ns name : List ℕ) (d : Data) (obj : Obj) (rev : ℕ) : Type 0 where
  keeps : Keeps resource ns name d obj rev
  one : (other : Obj) (later : ℕ) → Keeps resource ns name d other later → (other ≡ obj) × (later ≡ rev)

meets : ObjectsReadBack → (resource : Resource) (text ns name : List ℕ) (d : Data) → IsValueOf text d → IsPlaced d ns name
    → (obj : Obj) (rev : ℕ) → IsStored resource obj → IsToldAt rev → text ≡ object_json obj rev → Meets resource text ns name d obj rev
meets law resource text ns name d of placed obj rev is at same =
    let shown = shown-as law resource text obj rev is at same in
    let value : shown.value ≡ d = same-value text shown.value d shown.of.is of.is in
    let again : IsPlaced d shown.ns shown.name = subst (λ x. IsPlaced x shown.ns shown.name) value shown.placed in
    let ns_same : shown.ns ≡ ns = same_Some shown.ns ns (sym again.ns_is ∙ placed.ns_is) in
    let name_same : shown.name ≡ name = same_Some shown.name name (sym again.name_is ∙ placed.name_is) in
    rw (← value, ← ns_same, ← name_same) (record { keeps = shown.keeps; one = shown.one })

pub only-read : Rests → (resource : Resource) (text ns name : List ℕ) (d : Data) → IsValueOf text d → IsPlaced d ns name
    → (found : Option (Obj × ℕ))
    → MatchOption found ((obj : Obj) (rev : ℕ) → ¬ (Keeps resource ns name d obj rev)) (λ kept. Keeps resource ns name d kept.0 kept.1)
    → MatchOption found (HasNone resource text) (λ only. IsOnly resource text only.0 only.1)
only-read laws resource text ns name d of placed None none = λ obj rev is at same.
    none obj rev (meets laws.objects resource text ns name d of placed obj rev is at same).keeps
only-read laws resource text ns name d of placed (Some kept) keeps = record {
  stored = record {
    ns = ns;
    path = Some name;
    value = d;
    namespace = placed.namespace;
    orderly = laws.orderly.whole text d of.is;
    allowed = from-none (value_refusal d) (members_refusal resource ns (Some name) d) of.plain keeps.allowed;
    stored = keeps.stores.object;
  };
  at = told-at laws.revisions (get (codes "resourceVersion") (metadata_of d)) kept.1 keeps.stores.given;
  one = λ other later is at same. (meets laws.objects resource text ns name d of placed other later is at same).one kept.0 kept.1 keeps;
}

pub all-read : Rests → (resource : Resource) (text ns name : List ℕ) (d : Data) → IsValueOf text d → IsPlaced d ns name
    → (found : Result (Option (Obj × ℕ)) AllocError)
    → IfOk found (λ kept. MatchOption kept ((obj : Obj) (rev : ℕ) → ¬ (Keeps resource ns name d obj rev)) (λ kept. Keeps resource ns name d kept.0 kept.1))
    → IfOk found (λ only. MatchOption only (HasNone resource text) (λ only. IsOnly resource text only.0 only.1))
all-read laws resource text ns name d of placed (Ok found) is = only-read laws resource text ns name d of placed found is
all-read laws resource text ns name d of placed (Err fault) is = tt

-- a text shows one object at one revision
pub one-object : ObjectsReadBack → (resource : Resource) (obj other : Obj) (rev later : ℕ) → IsStored resource obj → IsToldAt rev → IsStored resource other → IsToldAt later
    → object_json obj rev ≡ object_json other later → (obj ≡ other) × (rev ≡ later)
one-object law resource obj other rev later is at also also_at same =
    let text = object_json obj rev in
    let shown = shown-as law resource text obj rev is at refl in
    (meets law resource text shown.ns shown.name shown.value shown.of shown.placed other later also also_at same).one obj rev shown.keeps
