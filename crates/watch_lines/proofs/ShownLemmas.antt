-- The object that a value shows is one, and may be stored.
use Rattle.std.proofs.Common.{◌≡◌, ℕ, List, Bool, true, false, Option, Some, None, Result, Ok, Err, refl, sym, ◌∙◌, subst}
use Rattle.std.specs.Prelude.{MatchOption, IfOk, codes, if◌then◌else◌}
use Rattle.std.specs.declared.alloc.AllocError.{AllocError}
use Rattle.std.proofs.lemmas.Option.{same_Some}
use Rattle.serde_json.specs.Data.{Data}
use Rattle.serde_json.specs.Find.{get}
use Rattle.serde_json.specs.Written.{has_float}
use Rattle.kube_meta.specs.Revisions.{RevisionsAreReadBack}
use Rattle.kube_meta.specs.declared.objects.Obj.{Obj}
use Rattle.kube_meta.specs.declared.resources.Resource.{Resource}
use Rattle.json_obj.specs.declared.refusals.ObjNo.{ObjNo}
use Rattle.json_obj.specs.declared.refusals.ObjNo.TheVariants.{Float}
use Rattle.json_obj.specs.Laws.{ObjectsAreOne}
use Rattle.json_obj.specs.Objects.{value_refusal, members_refusal, metadata_of}
use Rattle.json_obj.specs.Orderly.{IsOrderly}
use Rattle.watch_lines.specs.Reading.{IsPlaced, Keeps}
use Rattle.watch_lines.specs.Stored.{IsStored, IsToldAt}
use Rattle.watch_lines.specs.Values.{ShowsObject, HasRevision}
use Rattle.watch_lines.proofs.ObjectLemmas.{from-none, told-at}

abbrev pub ShowsNone : Resource → Data → Type 0
ShowsNone resource d = (obj : Obj) (rev : ℕ) → ¬ (ShowsObject resource d obj rev)

-- ---- what a value shows

pub unplain : (resource : Resource) (d : Data) → (value_refusal d ≡ None → ⊥) → ShowsNone resource d
unplain resource d bad obj rev shown = bad shown.plain

pub unplaced : (resource : Resource) (d : Data) → ((ns name : List ℕ) → ¬ (IsPlaced d ns name)) → ShowsNone resource d
unplaced resource d none obj rev shown = none shown.ns shown.name shown.placed

-- a value has one place
pub place-is : (resource : Resource) (d : Data) (ns name : List ℕ) (obj : Obj) (rev : ℕ) → IsPlaced d ns name → (shown : ShowsObject resource d obj rev) → Keeps resource ns name d obj rev
place-is resource d ns name obj rev placed shown =
    let same_ns : shown.ns ≡ ns = same_Some shown.ns ns (sym shown.placed.ns_is ∙ placed.ns_is) in
    let same_name : shown.name ≡ name = same_Some shown.name name (sym shown.placed.name_is ∙ placed.name_is) in
    subst (λ n. Keeps resource n name d obj rev) same_ns (subst (λ n. Keeps resource shown.ns n d obj rev) same_name shown.keeps)

abbrev pub KeepsIn : Resource → List ℕ → List ℕ → Data → Option (Obj × ℕ) → Type 0
KeepsIn resource ns name d found = MatchOption found ((obj : Obj) (rev : ℕ) → ¬ (Keeps resource ns name d obj rev)) (λ kept. Keeps resource ns name d kept.0 kept.1)

abbrev pub ShownIn : Resource → Data → Option (Obj × ℕ) → Type 0
ShownIn resource d found = MatchOption found (ShowsNone resource d) (λ shown. ShowsObject resource d shown.0 shown.1)

shown-kept : (resource : Resource) (ns name : List ℕ) (d : Data) → value_refusal d ≡ None → IsPlaced d ns name → (found : Option (Obj × ℕ)) → KeepsIn resource ns name d found → ShownIn resource d found
shown-kept resource ns name d plain placed None none = λ obj rev shown. none obj rev (place-is resource d ns name obj rev placed shown)
shown-kept resource ns name d plain placed (Some kept) keeps = record { ns = ns; name = name; placed = placed; plain = plain; keeps = keeps }

pub all-shown : (resource : Resource) (ns name : List ℕ) (d : Data) → value_refusal d ≡ None → IsPlaced d ns name → (found : Result (Option (Obj × ℕ)) AllocError)
    → IfOk found (KeepsIn resource ns name d) → IfOk found (ShownIn resource d)
all-shown resource ns name d plain placed (Ok found) keeps = shown-kept resource ns name d plain placed found keeps
all-shown resource ns name d plain placed (Err fault) keeps = tt

-- ---- it is one

plain-float : (float : Bool) (rest : Option ObjNo) → (if float then Some Float else rest) ≡ None → float ≡ false
plain-float true rest e = absurd cc
plain-float false rest e = refl

pub no-float : (d : Data) → value_refusal d ≡ None → has_float d ≡ false
no-float d plain = plain-float (has_float d) _ plain

pub one-shown : ObjectsAreOne → (resource : Resource) (d : Data) (obj other : Obj) (rev later : ℕ) → ShowsObject resource d obj rev → ShowsObject resource d other later → (obj ≡ other) × (rev ≡ later)
one-shown law resource d obj other rev later first second =
    let also : Keeps resource first.ns first.name d other later = place-is resource d first.ns first.name other later first.placed second in
    let given : Some (Some rev) ≡ Some (Some later) = first.keeps.stores.given ∙ sym also.stores.given in (
      law resource first.ns d obj other (no-float d first.plain) first.keeps.stores.object also.stores.object,
      same_Some rev later (same_Some (Some rev) (Some later) given),
    )

-- ---- it may be stored

pub revision-told : RevisionsAreReadBack → (d : Data) (at : ℕ) → HasRevision d at → IsToldAt at
revision-told law d at has = told-at law (get (codes "resourceVersion") (metadata_of d)) at (sym has)

pub shown-stored : RevisionsAreReadBack → (resource : Resource) (d : Data) (obj : Obj) (rev : ℕ) → IsOrderly d → ShowsObject resource d obj rev → IsStored resource obj × IsToldAt rev
shown-stored law resource d obj rev orderly shown = (
  record {
    ns = shown.ns;
    path = Some shown.name;
    value = d;
    namespace = shown.placed.namespace;
    orderly = orderly;
    allowed = from-none (value_refusal d) (members_refusal resource shown.ns (Some shown.name) d) shown.plain shown.keeps.allowed;
    stored = shown.keeps.stores.object;
  },
  told-at law (get (codes "resourceVersion") (metadata_of d)) rev shown.keeps.stores.given,
)
