-- What is set in an index, and which lanes a change is near to.
use Rattle.std.proofs.Common.{◌≡◌, ◌==◌, ◌||◌, ◌&&◌, ℕ, Bool, true, false, not, cond, List, [], ◌∷◌, Option, Some, None, refl, arith, sym, ap, ◌∙◌, bytes_eq, subst, unwrap_or, slice_get, inl, inr}
use borrow.Author.Tests.{eqb-true}
use Rattle.std.specs.Ordering.{is_eq, nat_cmp}
use Rattle.std.specs.BTreeMap as tree
use Rattle.std.specs.BTreeMap.{BTreeMap}
use Rattle.std.proofs.lemmas.Bool.{cases_Bool, false_from_ne_true, false≢true}
use Rattle.std.proofs.lemmas.Slice.Eq.{bytes_eq-Decides}
use Rattle.kube_meta.specs.declared.objects.Obj.{Obj}
use Rattle.kube_meta.specs.Keys.{IsKey, is_in, name_of, namespace_of}
use Rattle.kube_meta.proofs.KeyLemmas.{in_its_namespace}
use Rattle.field_select.specs.declared.terms.Term.{Term}
use Rattle.field_select.specs.declared.terms.Field.{Field}
use Rattle.field_select.specs.declared.terms.Field.TheVariants.{Name, Namespace, Listed}
use Rattle.field_select.specs.Meaning.{wanted, wanted_name, is_listed, is_name, compares, value_of, selects as terms_select}
use Rattle.select_all.specs.declared.selection.Selection.{Selection}
use Rattle.select_all.specs.Selecting.{holds, is_within}
use Rattle.watch_lane.specs.Index.{IndexData, Sets, first_of, is_found, is_near, is_touched, lane_at, place_of, value_in}
use Rattle.watch_lane.specs.declared.places.Places.{Places}
use Rattle.watch_lane.specs.Places.{asks, finds, same_text, stands}
use Rattle.watch_lane.proofs.Numbers.{is_eq-nat_cmp}

-- a map of lanes after one was set
pub sets_from_update : (old : IndexData) (field id : ℕ) (before after : BTreeMap ℕ Selection) (s : Option Selection) →
    field ≡ old.field → before.entries ≡ old.lanes →
    ((q : ℕ) → tree.get nat_cmp after q ≡ cond (is_eq (nat_cmp id q)) s (tree.get nat_cmp before q)) →
    Sets old (record { field = field; lanes = after.entries }) id s
sets_from_update old field id before after s same lanes updates = record {
  field = same;
  lanes = λ other. updates other ∙ ap (λ b. cond b s (lane_at before.entries other)) (is_eq-nat_cmp id other) ∙ ap (λ l. cond (id == other) s (lane_at l other)) lanes;
}

-- what is set last stays
pub sets_again : (a b c : IndexData) (id : ℕ) (s t : Option Selection) → Sets a b id s → Sets b c id t → Sets a c id t
sets_again a b c id s t first second = record {
  field = second.field ∙ first.field;
  lanes = λ other. second.lanes other ∙ grind (arith, first.lanes other);
}

-- ---- what is selected is at its place

same_number : (n : ℕ) → (n == n) ≡ true
same_number n = grind (arith)

-- what was taken out isn't there
pub is_gone : (old new : IndexData) (id : ℕ) (lanes : List (ℕ × Selection)) → Sets old new id None → lanes ≡ new.lanes → lane_at lanes id ≡ None
is_gone old new id lanes sets is = ap (λ l. lane_at l id) is ∙ sets.lanes id ∙ rw (same_number id) refl

-- ---- lanes stand at the places of their selections

-- the lanes stand at their places
abbrev pub AreStanding : ℕ → Places → List (ℕ × Selection) → Type 0
AreStanding field places lanes = (p : Option (List ℕ)) (i : ℕ) → stands places p i ≡ asks field p (lane_at lanes i)

-- from old to new one lane came to stand at a place; all others stand where they stood
abbrev pub Puts : Places → Places → Option (List ℕ) → ℕ → Type 0
Puts old new place id = (p : Option (List ℕ)) (i : ℕ) → stands new p i ≡ (same_text place p && (id == i) || stands old p i)

-- one lane left a place
abbrev pub Leaves : Places → Places → Option (List ℕ) → ℕ → Type 0
Leaves old new place id = (p : Option (List ℕ)) (i : ℕ) → stands new p i ≡ (not (same_text place p && (id == i)) && stands old p i)

-- after a lane left, that the map had
pub stand_left : (field : ℕ) (before after : BTreeMap ℕ Selection) (old new : Places) (id : ℕ) (s : Selection) (place : Option (List ℕ)) → Some s ≡ lane_at before.entries id →
    ((q : ℕ) → tree.get nat_cmp after q ≡ cond (is_eq (nat_cmp id q)) None (tree.get nat_cmp before q)) →
    AreStanding field old before.entries → place ≡ place_of field s → Leaves old new place id → AreStanding field new after.entries
stand_left field before after old new id s place was updates standing place_is leaves p i = by (id == i) refl
  where
    by : (b : Bool) → (id == i) ≡ b → stands new p i ≡ asks field p (lane_at after.entries i)
    by true same =
        let i_is : id ≡ i = eqb-true id i same in
        let gone : lane_at after.entries i ≡ None = updates i ∙ rw (is_eq-nat_cmp id i, same) refl in
        let asked : stands old p i ≡ same_text place p = standing p i ∙ ap (asks field p) (ap (lane_at before.entries) (sym i_is) ∙ sym was) ∙ ap (λ w. same_text w p) (sym place_is) in
        rw gone (grind (arith, leaves p i, same, asked))
    by false other =
        let stays : lane_at after.entries i ≡ lane_at before.entries i = updates i ∙ rw (is_eq-nat_cmp id i, other) refl in
        rw stays (grind (arith, leaves p i, other, standing p i))

-- after a lane was put that the map didn't have, and left again
pub stand_back : (field : ℕ) (before after : BTreeMap ℕ Selection) (old put new : Places) (id : ℕ) (place : Option (List ℕ)) → lane_at before.entries id ≡ None → after.entries ≡ before.entries →
    AreStanding field old before.entries → Puts old put place id → Leaves put new place id → AreStanding field new after.entries
stand_back field before after old put new id place was same standing puts leaves p i =
    rw same (by (id == i) refl)
  where
    by : (b : Bool) → (id == i) ≡ b → stands new p i ≡ asks field p (lane_at before.entries i)
    by true at =
        let i_is : id ≡ i = eqb-true id i at in
        let none : lane_at before.entries i ≡ None = ap (lane_at before.entries) (sym i_is) ∙ was in
        let free : stands old p i ≡ false = standing p i ∙ ap (asks field p) none in
        rw none (grind (arith, leaves p i, puts p i, at, free))
    by false other = grind (arith, leaves p i, puts p i, other, standing p i)

-- ---- what is selected is at its place

-- a term that asks for a value of the field, and holds
asked_is : (f : Field) (equal : Bool) (v : List ℕ) (field : ℕ) (obj : Obj) → (equal && is_listed field f) ≡ true → compares equal (value_of obj.fields obj.key f) v ≡ true → bytes_eq (value_in field obj) v ≡ true
asked_is Name equal v field obj asks compares = grind (arith)
asked_is Namespace equal v field obj asks compares = grind (arith)
asked_is (Listed k) false v field obj asks compares = grind (arith)
asked_is (Listed k) true v field obj asks compares =
    let same : k ≡ field = eqb-true k field asks in
    subst (λ i. bytes_eq (unwrap_or (slice_get obj.fields i) []) v ≡ true) same compares

-- a selection whose terms all hold has, in the field, the value that it asks for
wanted_is : (terms : List Term) (field : ℕ) (obj : Obj) (v : List ℕ) → terms_select terms obj.fields obj.key ≡ true → wanted terms field ≡ Some v → bytes_eq (value_in field obj) v ≡ true
wanted_is [] field obj v all asked = grind (arith)
wanted_is (t ∷ ts) field obj v all asked = grind (arith, wanted_is ts field obj v, asked_is t.field t.equal v field obj)

-- the same of a term that asks for the name
name_is : (f : Field) (equal : Bool) (v : List ℕ) (obj : Obj) → (equal && is_name f) ≡ true → compares equal (value_of obj.fields obj.key f) v ≡ true → bytes_eq (name_of obj.key) v ≡ true
name_is Name false v obj asks compares = grind (arith)
name_is Name true v obj asks compares = compares
name_is Namespace equal v obj asks compares = grind (arith)
name_is (Listed k) equal v obj asks compares = grind (arith)

wanted_name_is : (terms : List Term) (obj : Obj) (v : List ℕ) → terms_select terms obj.fields obj.key ≡ true → wanted_name terms ≡ Some v → bytes_eq (name_of obj.key) v ≡ true
wanted_name_is [] obj v all asked = grind (arith)
wanted_name_is (t ∷ ts) obj v all asked = grind (arith, wanted_name_is ts obj v, name_is t.field t.equal v obj)

flipped : (a b : List ℕ) → bytes_eq a b ≡ true → bytes_eq b a ≡ true
flipped a b h = (bytes_eq-Decides b a).1 (sym ((bytes_eq-Decides a b).0 h))

-- whether a place, if there is one, has the object
abbrev pub is_placed : ℕ → Option Obj → Option (List ℕ) → Bool
is_placed field obj None = true
is_placed field obj (Some place) = is_found field obj (Some place)

placed_by : (name value ns : Option (List ℕ)) (field : ℕ) (obj : Obj) → is_within ns obj.key ≡ true →
    ((v : List ℕ) → name ≡ Some v → bytes_eq (name_of obj.key) v ≡ true) → ((v : List ℕ) → value ≡ Some v → bytes_eq (value_in field obj) v ≡ true) →
    is_placed field (Some obj) (first_of name value ns) ≡ true
placed_by (Some name) value ns field obj within named valued = grind (arith, flipped _ name (named name refl))
placed_by None (Some value) ns field obj within named valued = grind (arith, flipped _ value (valued value refl))
placed_by None None (Some ns) field obj within named valued = grind (arith, within)
placed_by None None None field obj within named valued = refl

-- an object that is selected is at the place of its selection
selected_placed : (s : Selection) (field : ℕ) (obj : Option Obj) → holds s obj ≡ true → is_placed field obj (place_of field s) ≡ true
selected_placed s field None selected = grind (arith)
selected_placed s field (Some obj) selected =
    let within : is_within s.ns obj.key ≡ true = grind (arith) in
    let all : terms_select s.fields obj.fields obj.key ≡ true = grind (arith) in
    placed_by (wanted_name s.fields) (wanted s.fields field) s.ns field obj within (λ v. wanted_name_is s.fields obj v all) (λ v. wanted_is s.fields field obj v all)

near_by : (field : ℕ) (old new : Option Obj) (place : Option (List ℕ)) → (is_placed field old place || is_placed field new place) ≡ true → is_near field old new place ≡ true
near_by field old new None placed = refl
near_by field old new (Some place) placed = placed

-- a change that is an event to a lane touches it
pub event_touches : (s : Selection) (field : ℕ) (old new : Option Obj) (lane : Option Selection) → lane ≡ Some s → (holds s old || holds s new) ≡ true → is_touched field old new lane ≡ true
event_touches s field old new lane found selected =
    subst (λ l. is_touched field old new l ≡ true) (sym found)
    (near_by field old new (place_of field s) (grind (arith, selected_placed s field old, selected_placed s field new)))

-- ---- lanes are found where they stand

same_bytes : (a b : List ℕ) → bytes_eq a b ≡ bytes_eq b a
same_bytes a b = elim (cases_Bool (bytes_eq a b)) [
  | inl same ↦ same ∙ sym (flipped a b same)
  | inr other ↦ other ∙ sym (false_from_ne_true (bytes_eq b a) (λ same. false≢true (sym other ∙ flipped b a same)))
]

in_own : (ns key : List ℕ) → IsKey key → bytes_eq ns (namespace_of key) ≡ is_in ns key
in_own ns key is = same_bytes ns (namespace_of key) ∙ in_its_namespace ns key is

-- a place is found by looking under the name of an object, under its value and under its namespace
same_found : (field : ℕ) (obj : Obj) (w : Option (List ℕ)) → IsKey obj.key →
    (same_text w (Some (name_of obj.key)) || (same_text w (Some (value_in field obj)) || same_text w (Some (namespace_of obj.key)))) ≡ is_found field (Some obj) w
same_found field obj None is = refl
same_found field obj (Some place) is = ap (λ own. bytes_eq place (name_of obj.key) || (bytes_eq place (value_in field obj) || own)) (in_own place obj.key is)

asked_found : (field : ℕ) (obj : Obj) (lane : Option Selection) → IsKey obj.key →
    (asks field (Some (name_of obj.key)) lane || (asks field (Some (value_in field obj)) lane || asks field (Some (namespace_of obj.key)) lane)) ≡ finds field (Some obj) lane
asked_found field obj None is = refl
asked_found field obj (Some s) is = same_found field obj (place_of field s) is

-- one of three, where each has another that holds with it
or_each : (a b c a' b' c' : Bool) → (a ≡ true → a' ≡ true) → (b ≡ true → b' ≡ true) → (c ≡ true → c' ≡ true) → (a || (b || c)) ≡ true → (a' || (b' || c')) ≡ true
or_each true b c a' b' c' f g h one = rw (f refl) refl
or_each false true c a' b' c' f g h one = rw (g refl) (grind (arith))
or_each false false true a' b' c' f g h one = rw (h refl) (grind (arith))
or_each false false false a' b' c' f g h one = absurd (false≢true one)

-- a lane stands there where it is found
found_at : (field : ℕ) (places : Places) (obj : Obj) (lane : Option Selection) (id : ℕ) (name value ns : List ℕ) → IsKey obj.key →
    name ≡ name_of obj.key → value ≡ value_in field obj → ns ≡ namespace_of obj.key → ((p : Option (List ℕ)) → stands places p id ≡ asks field p lane) →
    (stands places (Some name) id || (stands places (Some value) id || stands places (Some ns) id)) ≡ finds field (Some obj) lane
found_at field places obj lane id name value ns is name_is value_is ns_is indexed =
    rw (indexed (Some name), indexed (Some value), indexed (Some ns), name_is, value_is, ns_is) (asked_found field obj lane is)

-- what is found at an object is found at another one, where who stands under its texts stands under those of the other
pub found_by : (now : IndexData) (field : ℕ) (lanes : List (ℕ × Selection)) (places : Places) (own by : Obj) (id : ℕ) (name value ns name' value' ns' : List ℕ) →
    record { field = field; lanes = lanes } ≡ now → ((p : Option (List ℕ)) → stands places p id ≡ asks field p (lane_at lanes id)) → IsKey own.key → IsKey by.key →
    name ≡ name_of own.key → value ≡ value_in field own → ns ≡ namespace_of own.key → name' ≡ name_of by.key → value' ≡ value_in field by → ns' ≡ namespace_of by.key →
    (stands places (Some name) id ≡ true → stands places (Some name') id ≡ true) → (stands places (Some value) id ≡ true → stands places (Some value') id ≡ true) →
    (stands places (Some ns) id ≡ true → stands places (Some ns') id ≡ true) →
    finds now.field (Some own) (lane_at now.lanes id) ≡ true → finds now.field (Some by) (lane_at now.lanes id) ≡ true
found_by now field lanes places own by id name value ns name' value' ns' view indexed is is' n v s n' v' s' names values spaces found =
    let at = found_at field places own (lane_at lanes id) id name value ns is n v s indexed in
    let at' = found_at field places by (lane_at lanes id) id name' value' ns' is' n' v' s' indexed in
    let here : finds field (Some own) (lane_at lanes id) ≡ true = subst (λ x. finds x.field (Some own) (lane_at x.lanes id) ≡ true) (sym view) found in
    subst (λ x. finds x.field (Some by) (lane_at x.lanes id) ≡ true) view (sym at' ∙ or_each _ _ _ _ _ _ names values spaces (at ∙ here))

-- a list that was joined with the lanes under the three texts of an object
pub found_joined : (now : IndexData) (field : ℕ) (lanes : List (ℕ × Selection)) (places : Places) (obj : Option Obj) (own : Obj) (id : ℕ) (none some more all : Bool) (name value ns : List ℕ) →
    record { field = field; lanes = lanes } ≡ now → ((p : Option (List ℕ)) → stands places p id ≡ asks field p (lane_at lanes id)) → obj ≡ Some own → IsKey own.key →
    name ≡ name_of own.key → value ≡ value_in now.field own → ns ≡ namespace_of own.key →
    some ≡ (none || stands places (Some name) id) → more ≡ (some || stands places (Some value) id) → all ≡ (more || stands places (Some ns) id) →
    all ≡ (none || finds now.field obj (lane_at now.lanes id))
found_joined now field lanes places obj own id none some more all name value ns view indexed obj_is is name_is value_is ns_is a b c =
    let same : field ≡ now.field = ap (λ x. x.field) view in
    let found = found_at field places own (lane_at lanes id) id name value ns is name_is (value_is ∙ ap (λ f. value_in f own) (sym same)) ns_is indexed in
    subst (λ x. all ≡ (none || finds x.field obj (lane_at x.lanes id))) view
    (rw obj_is (grind (arith, a, b, c, found)))

-- those without a place, those found before and those found after are those that are touched
near_is : (field : ℕ) (old new : Option Obj) (w : Option (List ℕ)) → ((same_text w None || is_found field old w) || is_found field new w) ≡ is_near field old new w
near_is field None None None = refl
near_is field None (Some y) None = refl
near_is field (Some x) None None = refl
near_is field (Some x) (Some y) None = refl
near_is field old new (Some place) = refl

touched_is : (field : ℕ) (old new : Option Obj) (lane : Option Selection) → ((asks field None lane || finds field old lane) || finds field new lane) ≡ is_touched field old new lane
touched_is field old new None = refl
touched_is field old new (Some s) = near_is field old new (place_of field s)

-- the same of a copy
pub sets_copy : (old new : IndexData) (id : ℕ) (copy s : Selection) → copy ≡ s → Sets old new id (Some copy) → Sets old new id (Some s)
sets_copy old new id copy s same sets = subst (λ x. Sets old new id (Some x)) same sets

-- a list that began empty, was joined with those found before, with those found after and with those without a place
pub looked : (now : IndexData) (field : ℕ) (lanes : List (ℕ × Selection)) (places : Places) (old new : Option Obj) (id : ℕ) (none some more all : Bool) →
    record { field = field; lanes = lanes } ≡ now → ((p : Option (List ℕ)) → stands places p id ≡ asks field p (lane_at lanes id)) →
    none ≡ false → some ≡ (none || finds now.field old (lane_at now.lanes id)) → more ≡ (some || finds now.field new (lane_at now.lanes id)) → all ≡ (more || stands places None id) →
    all ≡ is_touched now.field old new (lane_at now.lanes id)
looked now field lanes places old new id none some more all view indexed a b c d =
    let stood : stands places None id ≡ asks now.field None (lane_at now.lanes id) = subst (λ x. stands places None id ≡ asks x.field None (lane_at x.lanes id)) view (indexed None) in
    grind (arith, a, b, c, d, stood, touched_is now.field old new (lane_at now.lanes id))
