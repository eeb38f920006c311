-- A body is read as one transaction, or refused as none for one reason.
use Rattle.std.proofs.Common.{◌≡◌, ℕ, zero, suc, ◌<◌, ◌≤◌, true, false, List, [], ◌∷◌, length, take, map, Option, Some, None, Result, Ok, Err, refl, sym, ap, subst, ◌∙◌, inl, inr, ◌⊎◌, arith, slice_get, option_and_then}
use Rattle.std.proofs.lemmas.Bool.{cases_order, both_ways}
use Rattle.std.proofs.lemmas.Option.{none-some, same_Some}
use Rattle.std.specs.Option.{option_or}
use Rattle.serde_json.specs.Data.{Data}
use Rattle.serde_json.specs.Find.{as_array}
use Rattle.serde_json.specs.View.{items_of}
use Rattle.kube_meta.specs.declared.resources.Resource.{Resource}
use Rattle.kube_meta.specs.declared.objects.Obj.{Obj}
use Rattle.kube_meta.specs.Keys.{joined}
use Rattle.json_obj.specs.Objects.{IsTextOf, value_refusal, members_refusal, IsObjectOf, Stores}
use Rattle.json_obj.proofs.One as objects
use Rattle.json_obj.specs.declared.refusals.ObjNo.{ObjNo}
use Rattle.json_obj.specs.declared.refusals.ObjNo.TheVariants as object_no
use Rattle.up_store.specs.Transactions.{Target, target_of, stands_before, IsFirstRepeat, AreTransaction}
use Rattle.up_store.specs.declared.writes.WriteAsk.{WriteAsk}
use Rattle.up_store.specs.declared.writes.WriteAsk.TheVariants as write
use Rattle.route_req.specs.declared.transactions.Operation.{Operation}
use Rattle.route_req.specs.declared.transactions.Operation.TheVariants as operation
use Rattle.route_req.specs.Texts as texts
use Rattle.route_req.specs.Texts.{operation_in, item_resource, namespace_in, object_in, is_item, AsksItem, AskAll, IsList, IsListOfItems, ReachesItem, AsksTransaction, RefusesText, not_read, Creates, Replaces}
use Rattle.route_req.specs.declared.transactions.TxTextNo.{TxTextNo}
use Rattle.route_req.specs.declared.transactions.TxTextNo.TheVariants as text_no
use Rattle.route_req.proofs.PlainItems.{plain_of, array_objects_are_plain}

-- ---- one item

-- why an item asks for no write
abbrev pub ItemFault : Data → ℕ → TxTextNo → Type 0
ItemFault d i fault = ((fault ≡ text_no.BadItem i) × (is_item d ≡ false)) ⊎ ((why : ObjNo) × (fault ≡ text_no.BadObject i why) × texts.RefusesItem d why)

creates_whole : (d : Data) (r : Resource) (ns : List ℕ) (o : Data) → Creates d r ns o → is_item d ≡ true
creates_whole d r ns o is = rw (is.resource, is.namespace, is.op, is.«object») refl

replaces_whole : (d : Data) (r : Resource) (ns name : List ℕ) (o : Data) → Replaces d r ns name o → is_item d ≡ true
replaces_whole d r ns name o is = rw (is.resource, is.namespace, is.op, is.name_is, is.«object») refl

asks_whole : (d : Data) (ask : WriteAsk) → AsksItem d ask → is_item d ≡ true
asks_whole d (write.Create r obj) is = creates_whole d r is.0 is.1 is.2
asks_whole d (write.Replace r obj given) is = replaces_whole d r is.0 is.1 is.2 is.3
asks_whole d (write.Remove r key) is = rw (is.3, is.4, is.2, is.5) refl

refused_whole : (d : Data) (why : ObjNo) → texts.RefusesItem d why → is_item d ≡ true
refused_whole d why (inl c) = creates_whole d c.0 c.1 c.2 c.3
refused_whole d why (inr c) = replaces_whole d c.0 c.1 c.2 c.3 c.4

-- the reason that the members of an item's object give, by its operation
abbrev pub members_in : Option Operation → Data → Option ObjNo
members_in None d = None
members_in (Some operation.Create) d =
    option_and_then (λ r. option_and_then (λ ns. option_and_then (λ o. members_refusal r ns None o) (object_in d)) (namespace_in d)) (item_resource d)
members_in (Some operation.Replace) d =
    option_and_then (λ r. option_and_then (λ ns. option_and_then (λ name. option_and_then (λ o. members_refusal r ns (Some name) o) (object_in d)) (texts.item_name d)) (namespace_in d)) (item_resource d)
members_in (Some operation.Remove) d = None

create_members : (d : Data) (r : Resource) (ns : List ℕ) (o : Data) → Creates d r ns o → members_in (operation_in d) d ≡ members_refusal r ns None o
create_members d r ns o is = rw (is.op, is.resource, is.namespace, is.«object») refl

replace_members : (d : Data) (r : Resource) (ns name : List ℕ) (o : Data) → Replaces d r ns name o → members_in (operation_in d) d ≡ members_refusal r ns (Some name) o
replace_members d r ns name o is = rw (is.op, is.resource, is.namespace, is.name_is, is.«object») refl

refused_members : (d : Data) (why : ObjNo) → texts.RefusesItem d why → members_in (operation_in d) d ≡ Some why
refused_members d why (inl c) = create_members d c.0 c.1 c.2 c.3 ∙ c.4
refused_members d why (inr c) = replace_members d c.0 c.1 c.2 c.3 c.4 ∙ c.5

asked_members : (d : Data) (ask : WriteAsk) → AsksItem d ask → members_in (operation_in d) d ≡ None
asked_members d (write.Create r obj) is = create_members d r is.0 is.1 is.2 ∙ is.3
asked_members d (write.Replace r obj given) is = replace_members d r is.0 is.1 is.2 is.3 ∙ is.4
asked_members d (write.Remove r key) is = ap (λ o. members_in o d) is.2

item_excludes : (d : Data) (i : ℕ) (ask : WriteAsk) (fault : TxTextNo) → AsksItem d ask → ItemFault d i fault → ⊥
item_excludes d i ask fault asked (inl bad) = both_ways (is_item d) bad.1 (asks_whole d ask asked)
item_excludes d i ask fault asked (inr bad) = none-some bad.0 (sym (asked_members d ask asked) ∙ refused_members d bad.0 bad.2)

item_agrees : (d : Data) (i : ℕ) (x y : TxTextNo) → ItemFault d i x → ItemFault d i y → x ≡ y
item_agrees d i x y (inl a) (inl b) = a.0 ∙ sym b.0
item_agrees d i x y (inl a) (inr b) = absurd (both_ways (is_item d) a.1 (refused_whole d b.0 b.2))
item_agrees d i x y (inr a) (inl b) = absurd (both_ways (is_item d) b.1 (refused_whole d a.0 a.2))
item_agrees d i x y (inr a) (inr b) =
    a.1 ∙ ap (λ why. text_no.BadObject i why) (same_Some a.0 b.0 (sym (refused_members d a.0 a.2) ∙ refused_members d b.0 b.2)) ∙ sym b.1

-- ---- the writes of items are determined

-- of a value without a float there is one object
pub one_object : (r : Resource) (ns : List ℕ) (d e : Data) (o other : Obj)
    → d ≡ e → value_refusal d ≡ None → IsObjectOf r ns d o → IsObjectOf r ns e other → o ≡ other
one_object r ns d e o other same plain is also =
    objects.one_object r ns d o other (plain_of d plain).0 is (subst (λ v. IsObjectOf r ns v other) (sym same) also)

-- a value that isn't refused is plain
pub unrefused_plain : (fault : Option ObjNo) (rest : Option ObjNo) → option_or fault rest ≡ None → fault ≡ None
unrefused_plain None rest e = refl
unrefused_plain (Some why) rest e = absurd (none-some why (sym e))

pub stores_once : (r : Resource) (ns : List ℕ) (d e : Data) (o other : Obj) (n m : Option ℕ)
    → d ≡ e → value_refusal d ≡ None → Stores r ns d (o, n) → Stores r ns e (other, m)
    → write.Replace r o n ≡ write.Replace r other m
stores_once r ns d e o other n m same plain a b =
    let one : o ≡ other = one_object r ns d e o other same plain a.«object» b.«object» in
    let moved = subst (λ v. Stores r ns v (other, m)) (sym same) b in
    let both : n ≡ m = same_Some n m (a.given ∙ sym moved.given) in
    ap (λ v. write.Replace r v n) one ∙ ap (λ v. write.Replace r other v) both

abbrev pub operation_of : WriteAsk → Operation
operation_of (write.Create r obj) = operation.Create
operation_of (write.Replace r obj given) = operation.Replace
operation_of (write.Remove r key) = operation.Remove

asked_operation : (d : Data) (ask : WriteAsk) → AsksItem d ask → operation_in d ≡ Some (operation_of ask)
asked_operation d (write.Create r obj) is = (is.2).op
asked_operation d (write.Replace r obj given) is = (is.3).op
asked_operation d (write.Remove r key) is = is.2

one_item : (d : Data) (a b : WriteAsk) → ((o : Data) → object_in d ≡ Some o → value_refusal o ≡ None) → AsksItem d a → AsksItem d b → a ≡ b
one_item d (write.Create r obj) (write.Create s other) plain x y =
    let r_is = same_Some r s (sym (x.2).resource ∙ (y.2).resource) in
    let ns = same_Some x.0 y.0 (sym (x.2).namespace ∙ (y.2).namespace) in
    let o = same_Some x.1 y.1 (sym (x.2).«object» ∙ (y.2).«object») in
    let also = subst (λ v. IsObjectOf s v y.1 other) (sym ns) y.4 in
    let here = subst (λ v. IsObjectOf v x.0 y.1 other) (sym r_is) also in
    ap (λ v. write.Create r v) (one_object r x.0 x.1 y.1 obj other o (plain x.1 (x.2).«object») x.4 here) ∙ ap (λ v. write.Create v other) r_is
one_item d (write.Replace r obj n) (write.Replace s other m) plain x y =
    let r_is = same_Some r s (sym (x.3).resource ∙ (y.3).resource) in
    let ns = same_Some x.0 y.0 (sym (x.3).namespace ∙ (y.3).namespace) in
    let o = same_Some x.2 y.2 (sym (x.3).«object» ∙ (y.3).«object») in
    let also = subst (λ v. Stores s v y.2 (other, m)) (sym ns) y.5 in
    let here = subst (λ v. Stores v x.0 y.2 (other, m)) (sym r_is) also in
    stores_once r x.0 x.2 y.2 obj other n m o (plain x.2 (x.3).«object») x.5 here ∙ ap (λ v. write.Replace v other m) r_is
one_item d (write.Remove r key) (write.Remove s other) plain x y =
    let r_is = same_Some r s (sym x.3 ∙ y.3) in
    let ns = same_Some x.0 y.0 (sym x.4 ∙ y.4) in
    let name = same_Some x.1 y.1 (sym x.5 ∙ y.5) in
    let key_is = x.6 ∙ ap (λ v. joined v x.1) ns ∙ ap (joined y.0) name ∙ sym y.6 in
    ap (λ v. write.Remove v key) r_is ∙ ap (λ v. write.Remove s v) key_is
one_item d a b plain x y =
    let bad = same_Some (operation_of a) (operation_of b) (sym (asked_operation d a x) ∙ asked_operation d b y) in
    absurd (cc)

-- the objects in the items have no float and don't nest too deep
abbrev pub ArePlain : List Data → Type 0
ArePlain ds = (i : ℕ) (d o : Data) → slice_get ds i ≡ Some d → object_in d ≡ Some o → value_refusal o ≡ None

items_asks_once : (ds : List Data) (asks others : List WriteAsk) → ArePlain ds → AskAll ds asks → AskAll ds others → asks ≡ others
items_asks_once [] [] [] plain all also = refl
items_asks_once (d ∷ ds) (a ∷ asks) (b ∷ others) plain all also =
    ap (λ v. v ∷ asks) (one_item d a b (λ o e. plain zero d o refl e) all.0 also.0)
    ∙ ap (λ vs. b ∷ vs) (items_asks_once ds asks others (λ i x o at e. plain (suc i) x o at e) all.1 also.1)
items_asks_once ds asks others plain all also = absurd (search)

one_repeat : (targets : List Target) (i j : ℕ) → IsFirstRepeat targets i → IsFirstRepeat targets j → i ≡ j
one_repeat targets i j a b = elim (cases_order i j) [
  | inl same ↦ same
  | inr other ↦ elim other [
    | inl less ↦ absurd (both_ways (stands_before targets i) (b.first i less) a.repeated)
    | inr more ↦ absurd (both_ways (stands_before targets j) (a.first j more) b.repeated)
  ]
]

-- ---- along the items

asked_at : (ds : List Data) (asks : List WriteAsk) (i : ℕ) (d : Data) → AskAll ds asks → slice_get ds i ≡ Some d → (ask : WriteAsk) × AsksItem d ask
asked_at [] asks i d all at = absurd (none-some d at)
asked_at (x ∷ ds) (a ∷ asks) zero d all at = (a, subst (λ e. AsksItem e a) (same_Some x d at) all.0)
asked_at (x ∷ ds) (a ∷ asks) (suc i) d all at = asked_at ds asks i d all.1 at
asked_at ds asks i d all at = absurd all

still_there : (ds : List Data) (i n : ℕ) → i < n → slice_get (take n ds) i ≡ slice_get ds i
still_there [] i zero less = refl
still_there [] i (suc n) less = refl
still_there (x ∷ ds) i zero less = absurd (omega (arith, less))
still_there (x ∷ ds) zero (suc n) less = refl
still_there (x ∷ ds) (suc i) (suc n) less = still_there ds i n (omega (arith, less))

-- what is answered to a text: its writes, or why it is refused
abbrev pub Outcome : Type 0
Outcome = Result (List WriteAsk) TxTextNo

abbrev pub refused : TxTextNo → Outcome
refused fault = Err fault

-- where all items ask for writes: an object comes twice, or they are a transaction
abbrev pub WritesEnd : List WriteAsk → Outcome → Type 0
WritesEnd asks x = ((i : ℕ) × (x ≡ refused (text_no.Repeated i)) × IsFirstRepeat (map target_of asks) i) ⊎ ((x ≡ Ok asks) × AreTransaction asks)

-- an item behind ones that ask for writes is refused, or all ask for writes
abbrev pub ItemsEnd : List Data → Outcome → Type 0
ItemsEnd ds x =
    ((i : ℕ) × (d : Data) × (fault : TxTextNo) × (x ≡ refused fault) × ReachesItem ds i d × ItemFault d i fault)
    ⊎ ((asks : List WriteAsk) × AskAll ds asks × WritesEnd asks x)

-- an item before the one that is reached asks for a write
before_reached : (ds : List Data) (i j : ℕ) (d e : Data) (fault : TxTextNo) → i < j → ReachesItem ds i d → ItemFault d i fault → ReachesItem ds j e → ⊥
before_reached ds i j d e fault less reached bad later =
    let asked = asked_at (take j ds) (later.0).0 i d (later.0).1 (still_there ds i j less ∙ reached.1) in
    item_excludes d i asked.0 fault asked.1 bad

not_twice : (asks : List WriteAsk) (i : ℕ) → AreTransaction asks → IsFirstRepeat (map target_of asks) i → ⊥
not_twice asks i are twice = both_ways (stands_before (map target_of asks) i) (are.distinct i twice.in_range) twice.repeated

writes_agree : (asks : List WriteAsk) (x y : Outcome) → WritesEnd asks x → WritesEnd asks y → x ≡ y
writes_agree asks x y (inl a) (inl b) = a.1 ∙ ap (λ i. refused (text_no.Repeated i)) (one_repeat (map target_of asks) a.0 b.0 a.2 b.2) ∙ sym b.1
writes_agree asks x y (inl a) (inr b) = absurd (not_twice asks a.0 b.1 a.2)
writes_agree asks x y (inr a) (inl b) = absurd (not_twice asks b.0 a.1 b.2)
writes_agree asks x y (inr a) (inr b) = a.0 ∙ sym b.0

items_agree : (ds : List Data) (x y : Outcome) → ArePlain ds → ItemsEnd ds x → ItemsEnd ds y → x ≡ y
items_agree ds x y plain (inl a) (inl b) = elim (cases_order a.0 b.0) [
  | inl same ↦
      let d : a.1 ≡ b.1 = same_Some a.1 b.1 (sym a.4.1 ∙ ap (slice_get ds) same ∙ b.4.1) in
      let here = subst (λ v. ItemFault v b.0 a.2) d (subst (λ i. ItemFault a.1 i a.2) same a.5) in
      a.3 ∙ ap refused (item_agrees b.1 b.0 a.2 b.2 here b.5) ∙ sym b.3
  | inr other ↦ elim other [
    | inl less ↦ absurd (before_reached ds a.0 b.0 a.1 b.1 a.2 less a.4 a.5 b.4)
    | inr more ↦ absurd (before_reached ds b.0 a.0 b.1 a.1 b.2 more b.4 b.5 a.4)
  ]
]
items_agree ds x y plain (inl a) (inr b) =
    let asked = asked_at ds b.0 a.0 a.1 b.1 a.4.1 in
    absurd (item_excludes a.1 a.0 asked.0 a.2 asked.1 a.5)
items_agree ds x y plain (inr a) (inl b) =
    let asked = asked_at ds a.0 b.0 b.1 a.1 b.4.1 in
    absurd (item_excludes b.1 b.0 asked.0 b.2 asked.1 b.5)
items_agree ds x y plain (inr a) (inr b) =
    let same : a.0 ≡ b.0 = items_asks_once ds a.0 b.0 plain a.1 b.1 in
    writes_agree b.0 x y (subst (λ asks. WritesEnd asks x) same a.2) b.2

-- ---- the whole text

pub one_text : (body : List ℕ) (d e : Data) → IsTextOf body d → IsTextOf body e → d ≡ e
one_text body d e is also = same_Some d e (sym is.1 ∙ also.1)

pub items_once : (xs ys : List Data) → items_of xs ≡ items_of ys → xs ≡ ys
items_once [] [] e = refl
items_once (x ∷ xs) (y ∷ ys) e =
    let first : x ≡ y = cc in
    let rest : items_of xs ≡ items_of ys = cc in
    ap (λ (v : Data). v ∷ xs) first ∙ ap (λ (vs : List Data). y ∷ vs) (items_once xs ys rest)
items_once xs ys e = absurd (cc)

-- what a list comes to
abbrev pub ListEnd : List Data → Outcome → Type 0
ListEnd ds x =
    ((x ≡ refused text_no.Empty) × (ds ≡ []))
    ⊎ (((x ≡ refused text_no.TooManyItems) × (64 < length ds)) ⊎ ((1 ≤ length ds) × (length ds ≤ 64) × ItemsEnd ds x))

-- what a value with no float that isn't too deep does
abbrev pub ListingEnd : Data → Outcome → Type 0
ListingEnd d x = ((x ≡ refused text_no.NotList) × (as_array d ≡ None)) ⊎ ((ds : List Data) × (as_array d ≡ Some (items_of ds)) × ListEnd ds x)

-- what any value does
abbrev pub DataEnd : Data → Outcome → Type 0
DataEnd d x =
    ((why : ObjNo) × (x ≡ refused (not_read why)) × (value_refusal d ≡ Some why))
    ⊎ ((value_refusal d ≡ None) × ListingEnd d x)

-- what a text does
abbrev pub TextEnd : List ℕ → Outcome → Type 0
TextEnd body x = ((x ≡ refused text_no.NotJson) × ((d : Data) → IsTextOf body d → ⊥)) ⊎ ((d : Data) × IsTextOf body d × DataEnd d x)

of_list : (body : List ℕ) (ds : List Data) (x : Outcome) → IsList body ds → ListEnd ds x → TextEnd body x
of_list body ds x is end = inr (is.0, is.1.0, inr (is.1.1, inr (ds, is.2, end)))

of_items : (body : List ℕ) (ds : List Data) (x : Outcome) → IsListOfItems body ds → ItemsEnd ds x → TextEnd body x
of_items body ds x is end = of_list body ds x is.0 (inr (inr (is.1, is.2, end)))

-- what is answered, but for want of memory
abbrev pub IsOutcome : List ℕ → Outcome → Type 0
IsOutcome body (Ok asks) = AsksTransaction body asks
IsOutcome body (Err fault) = RefusesText body fault × (fault ≡ text_no.Memory → ⊥)

text_end : (body : List ℕ) (x : Outcome) → IsOutcome body x → TextEnd body x
text_end body (Ok asks) is = of_items body is.0 (Ok asks) is.1 (inr (asks, is.2, inr (refl, is.3)))
text_end body (Err text_no.NotJson) (is, other) = inl (refl, is)
text_end body (Err text_no.Float) (is, other) = inr (is.0, is.1, inl (object_no.Float, refl, is.2))
text_end body (Err text_no.TooDeep) (is, other) = inr (is.0, is.1, inl (object_no.TooDeep, refl, is.2))
text_end body (Err text_no.NotList) (is, other) = inr (is.0, is.1.0, inr (is.1.1, inl (refl, is.2)))
text_end body (Err text_no.Empty) (is, other) = of_list body [] (refused text_no.Empty) is (inl (refl, refl))
text_end body (Err text_no.TooManyItems) (is, other) = of_list body is.0 (refused text_no.TooManyItems) is.1 (inr (inl (refl, is.2)))
text_end body (Err (text_no.BadItem i)) (is, other) =
    of_items body is.0 (refused (text_no.BadItem i)) is.2 (inl (i, is.1, text_no.BadItem i, refl, is.3, inl (refl, is.4)))
text_end body (Err (text_no.BadObject i why)) (is, other) =
    of_items body is.0 (refused (text_no.BadObject i why)) is.2 (inl (i, is.1, text_no.BadObject i why, refl, is.3, inr (why, refl, is.4)))
text_end body (Err (text_no.Repeated i)) (is, other) =
    of_items body is.0 (refused (text_no.Repeated i)) is.2 (inr (is.1, is.3, inl (i, refl, is.4)))
text_end body (Err text_no.Memory) (is, other) = absurd (other refl)

list_agrees : (ds : List Data) (x y : Outcome) → ArePlain ds → ListEnd ds x → ListEnd ds y → x ≡ y
list_agrees ds x y plain (inl a) (inl b) = a.0 ∙ sym b.0
list_agrees ds x y plain (inl a) (inr (inl b)) = let none = ap length a.1 in absurd (omega (arith, none, b.1))
list_agrees ds x y plain (inl a) (inr (inr b)) = let none = ap length a.1 in absurd (omega (arith, none, b.0))
list_agrees ds x y plain (inr (inl a)) (inl b) = let none = ap length b.1 in absurd (omega (arith, none, a.1))
list_agrees ds x y plain (inr (inl a)) (inr (inl b)) = a.0 ∙ sym b.0
list_agrees ds x y plain (inr (inl a)) (inr (inr b)) = absurd (omega (arith, a.1, b.1))
list_agrees ds x y plain (inr (inr a)) (inl b) = let none = ap length b.1 in absurd (omega (arith, none, a.0))
list_agrees ds x y plain (inr (inr a)) (inr (inl b)) = absurd (omega (arith, a.1, b.1))
list_agrees ds x y plain (inr (inr a)) (inr (inr b)) = items_agree ds x y plain a.2 b.2

data_agrees : (d : Data) (x y : Outcome) → DataEnd d x → DataEnd d y → x ≡ y
data_agrees d x y (inl a) (inl b) = a.1 ∙ ap (λ why. refused (not_read why)) (same_Some a.0 b.0 (sym a.2 ∙ b.2)) ∙ sym b.1
data_agrees d x y (inl a) (inr b) = absurd (none-some a.0 (sym b.0 ∙ a.2))
data_agrees d x y (inr a) (inl b) = absurd (none-some b.0 (sym a.0 ∙ b.2))
data_agrees d x y (inr a) (inr b) = by_list a.1 b.1
  where
    by_list : ListingEnd d x → ListingEnd d y → x ≡ y
    by_list (inl p) (inl q) = p.0 ∙ sym q.0
    by_list (inl p) (inr q) = absurd (none-some (items_of q.0) (sym p.1 ∙ q.1))
    by_list (inr p) (inl q) = absurd (none-some (items_of p.0) (sym q.1 ∙ p.1))
    by_list (inr p) (inr q) =
        let same = items_once p.0 q.0 (same_Some (items_of p.0) (items_of q.0) (sym p.1 ∙ q.1)) in
        list_agrees q.0 x y (array_objects_are_plain d q.0 b.0 q.1) (subst (λ ds. ListEnd ds x) same p.2) q.2

-- a text has one outcome
one_outcome : (body : List ℕ) (x y : Outcome) → IsOutcome body x → IsOutcome body y → x ≡ y
one_outcome body x y is also = by_text (text_end body x is) (text_end body y also)
  where
    by_text : TextEnd body x → TextEnd body y → x ≡ y
    by_text (inl a) (inl b) = a.0 ∙ sym b.0
    by_text (inl a) (inr b) = absurd (a.1 b.0 b.1)
    by_text (inr a) (inl b) = absurd (b.1 a.0 a.1)
    by_text (inr a) (inr b) = data_agrees b.0 x y (subst (λ d. DataEnd d x) (one_text body a.0 b.0 a.1 b.1) a.2) b.2

pub texts_agree : (body : List ℕ) (x y : TxTextNo) → RefusesText body x → RefusesText body y → (x ≡ text_no.Memory → ⊥) → (y ≡ text_no.Memory → ⊥) → x ≡ y
texts_agree body x y is also nx ny = let same = one_outcome body (refused x) (refused y) (is, nx) (also, ny) in cc

pub text_unrefused : (body : List ℕ) (asks : List WriteAsk) (fault : TxTextNo) → AsksTransaction body asks → RefusesText body fault → (fault ≡ text_no.Memory → ⊥) → ⊥
text_unrefused body asks fault is refusal other = let same = one_outcome body (Ok asks) (refused fault) is (refusal, other) in cc

pub one_transaction : (body : List ℕ) (asks others : List WriteAsk) → AsksTransaction body asks → AsksTransaction body others → asks ≡ others
one_transaction body asks others is also = let same = one_outcome body (Ok asks) (Ok others) is also in cc
