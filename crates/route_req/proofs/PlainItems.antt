-- What lies within a value that has no float and isn't too deep has none and isn't either.
use Rattle.std.proofs.Common.{◌≡◌, ℕ, zero, suc, ◌≤◌, Bool, true, false, List, [], ◌∷◌, Option, Some, None, refl, sym, ap, subst, ◌∙◌, arith, codes, slice_get, is_some, option_and_then, if◌then◌else◌, Less, Equal, Greater, Ordering}
use Rattle.std.specs.Ordering.{nat_cmp, match_ordering}
use Rattle.std.specs.Cmp.Lexicographic.{slice_cmp}
use Rattle.std.proofs.lemmas.Bool.{or_parts, ltb-false, le-ltb}
use Rattle.std.proofs.lemmas.Option.{none-some, same_Some}
use Rattle.serde_json.specs.Data.{Data, array, object, Members, no_members, member, depth, items_depth, members_depth}
use Rattle.serde_json.specs.Find.{get, get_member, as_array, as_object}
use Rattle.serde_json.specs.Written.{has_float, items_have_float, members_have_float}
use Rattle.serde_json.specs.View.{items_of}
use Rattle.json_obj.specs.Objects.{value_refusal}
use Rattle.json_obj.specs.declared.refusals.ObjNo.TheVariants as object_no
use Rattle.route_req.specs.Texts.{checked_object, object_in}
use Rattle.route_req.specs.Outcomes.{ItemObjectsArePlain}

-- no float, and depth up to n
abbrev pub IsPlain : Data → Type 0
IsPlain d = (has_float d ≡ false) × (depth d ≤ 64)

by_tests : (float deep : Bool) → (if float then Some object_no.Float else (if deep then Some object_no.TooDeep else None)) ≡ None → (float ≡ false) × (deep ≡ false)
by_tests true deep e = absurd (none-some object_no.Float (sym e))
by_tests false true e = absurd (none-some object_no.TooDeep (sym e))
by_tests false false e = (refl, refl)

pub plain_of : (d : Data) → value_refusal d ≡ None → IsPlain d
plain_of d e =
    let tests = by_tests (has_float d) _ e in
    (tests.0, ltb-false 64 (depth d) tests.1)

refused_none : (d : Data) → IsPlain d → value_refusal d ≡ None
refused_none d plain = rw (plain.0, le-ltb 64 (depth d) plain.1) refl

-- ---- items

item_plain : (items : List Data) (i : ℕ) (d : Data) → items_have_float (items_of items) ≡ false → items_depth (items_of items) ≤ 64 → slice_get items i ≡ Some d → IsPlain d
item_plain [] i d float deep at = absurd (none-some d at)
item_plain (x ∷ items) zero d float deep at =
    let same = same_Some x d at in
    (ap has_float (sym same) ∙ (or_parts (has_float x) (items_have_float (items_of items)) float).0, omega (arith, deep, ap depth same))
item_plain (x ∷ items) (suc i) d float deep at =
    item_plain items i d (or_parts (has_float x) (items_have_float (items_of items)) float).1 (omega (arith, deep)) at

array_plain : (d : Data) (items : List Data) (i : ℕ) (found : Data) → IsPlain d → as_array d ≡ Some (items_of items) → slice_get items i ≡ Some found → IsPlain found
array_plain (array ds) items i found plain is at =
    let same : ds ≡ items_of items = same_Some ds (items_of items) is in
    item_plain items i found (ap items_have_float (sym same) ∙ plain.0) (omega (arith, plain.1, ap items_depth same)) at
array_plain d items i found plain is at = absurd (none-some (items_of items) is)

-- ---- members

ordered_plain : (o : Ordering) (x d : Data) (rest : Option Data) → IsPlain x → (rest ≡ Some d → IsPlain d) → match_ordering o rest (Some x) rest ≡ Some d → IsPlain d
ordered_plain Less x d rest plain later e = later e
ordered_plain Equal x d rest plain later e = subst IsPlain (same_Some x d e) plain
ordered_plain Greater x d rest plain later e = later e

member_plain : (name : List ℕ) (ms : Members) (d : Data) → members_have_float ms ≡ false → members_depth ms ≤ 64 → get_member name ms ≡ Some d → IsPlain d
member_plain name no_members d float deep at = absurd (none-some d at)
member_plain name (member k x ms) d float deep at =
    let parts = or_parts (has_float x) (members_have_float ms) float in
    ordered_plain (slice_cmp nat_cmp name k) x d (get_member name ms) (parts.0, omega (arith, deep))
    (λ e. member_plain name ms d parts.1 (omega (arith, deep)) e) at

get_plain : (name : List ℕ) (d found : Data) → IsPlain d → get name d ≡ Some found → IsPlain found
get_plain name (object ms) found plain at = member_plain name ms found plain.0 (omega (arith, plain.1)) at
get_plain name d found plain at = absurd (none-some found at)

-- the value that is an object is the one that was looked at
checked_is : (d found : Data) → checked_object d ≡ Some found → d ≡ found
checked_is d found e = by_test (is_some (as_object d)) e
  where
    by_test : (b : Bool) → (if b then Some d else None) ≡ Some found → d ≡ found
    by_test true e = same_Some d found e
    by_test false e = absurd (none-some found e)

object_plain : (d found : Data) → IsPlain d → object_in d ≡ Some found → IsPlain found
object_plain d found plain at = by_member (get (codes "object") d) refl at
  where
    by_member : (o : Option Data) → get (codes "object") d ≡ o → option_and_then checked_object o ≡ Some found → IsPlain found
    by_member None is e = absurd (none-some found e)
    by_member (Some x) is e =
        let same = checked_is x found e in
        get_plain (codes "object") d found plain (is ∙ ap (λ (v : Data). Some v) same)

pub array_objects_are_plain : (d : Data) (items : List Data) → value_refusal d ≡ None → as_array d ≡ Some (items_of items)
    → (i : ℕ) (item inner : Data) → slice_get items i ≡ Some item → object_in item ≡ Some inner → value_refusal inner ≡ None
array_objects_are_plain d items plain is i item inner at inside =
    refused_none inner (object_plain item inner (array_plain d items i item (plain_of d plain) is at) inside)

pub item_objects_are_plain : ItemObjectsArePlain
item_objects_are_plain body items i d inner is at inside = array_objects_are_plain is.0 items is.1.1 is.2 i d inner at inside
