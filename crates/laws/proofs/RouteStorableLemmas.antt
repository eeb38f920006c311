-- What requests write may be stored, as the bodies that their routes come from.
use Rattle.std.specs.Bool.{MatchBool}
use Rattle.std.specs.Prelude.{All}
use Rattle.std.proofs.Common.{◌≡◌, ℕ, zero, suc, ◌+◌, Bool, true, false, cond, List, [], ◌∷◌, Option, Some, None, option_and_then, slice_get, is_some, codes, bytes_eq, refl, sym, ap, subst, arith}
use Rattle.std.specs.Option.{option_or}
use Rattle.std.proofs.lemmas.List.Elements.{All-nil, All-cons}
use Rattle.serde_json.specs.Data.{Data, array, Items, item}
use Rattle.serde_json.specs.Find.{get, at, as_array, as_object}
use Rattle.serde_json.specs.View.{items_of}
use Rattle.http_read.specs.declared.request.Req.{Req}
use Rattle.kube_meta.specs.Names.{IsNamespace, is_namespace}
use Rattle.kube_meta.specs.declared.objects.Obj.{Obj}
use Rattle.kube_meta.specs.declared.resources.Resource.{Resource}
use Rattle.json_obj.specs.Laws.{ValuesAreOrderly}
use Rattle.json_obj.specs.Objects.{IsObjectOf, value_refusal, members_refusal}
use Rattle.json_obj.specs.Orderly.{IsOrderly}
use Rattle.json_obj.specs.declared.refusals.ObjNo.{ObjNo}
use Rattle.up_store.specs.declared.operations.Operate.TheVariants as operate
use Rattle.up_store.specs.declared.writes.WriteAsk.{WriteAsk}
use Rattle.up_store.specs.declared.writes.WriteAsk.TheVariants as write
use Rattle.route_req.specs.Asks.{Asks, is_watch}
use Rattle.route_req.specs.Outcomes.{ItemObjectsArePlain}
use Rattle.route_req.specs.Places.{IsPlace, IsAction, action_at}
use Rattle.route_req.specs.Texts.{IsList, AsksItem, AskAll, checked, checked_object, namespace_in, item_text, object_in}
use Rattle.route_req.specs.declared.places.Place.{Place}
use Rattle.route_req.specs.declared.places.Place.TheVariants.{Described, Everywhere, Namespaced, Named, OfMetrics, OfCut, OfCompact, OfRestart, OfDisconnect, OfTransaction}
use Rattle.route_req.specs.declared.places.Action.{Action}
use Rattle.route_req.specs.declared.places.Action.TheVariants.{Describe, Measure, Read, Create, Get, Replace, Remove, Cut, Compact, Restart, Disconnect, Transact}
use Rattle.route_req.specs.declared.routing.Routed.TheVariants as routed
use Rattle.watch_lines.specs.Stored.{IsStored}
use Rattle.laws.specs.Storable.{IsStorable, RequestsAreStorable}
use Rattle.laws.proofs.WriteLemmas.{none_is_some, same_some}

-- ---- the namespace of an action is in the grammar, as that of its place

chosen : (P : Action → Type 0) (b : Bool) (first action : Action) (rest : Option Action) → P first → (rest ≡ Some action → P action) → cond b (Some first) rest ≡ Some action → P action
chosen P true first action rest here there e = subst P (same_some first action e) here
chosen P false first action rest here there e = there e

alone : (b : Bool) (first action : Action) → IsAction first → cond b (Some first) None ≡ Some action → IsAction action
alone b first action here e = chosen IsAction b first action None here (λ n. absurd (none_is_some action n)) e

in_grammar : (place : Place) (method : List ℕ) (action : Action) → IsPlace place → action_at place method ≡ Some action → IsAction action
in_grammar (Described text) method action is e = alone (bytes_eq method (codes "GET")) (Describe text) action is e
in_grammar (Everywhere r) method action is e = alone (bytes_eq method (codes "GET")) (Read r None) action tt e
in_grammar (Namespaced r ns) method action is e =
    chosen IsAction (bytes_eq method (codes "GET")) (Read r (Some ns)) action _ tt (alone (bytes_eq method (codes "POST")) (Create r ns) action is) e
in_grammar (Named r ns name) method action is e =
    chosen IsAction (bytes_eq method (codes "GET")) (Get r ns name) action _ is
    (chosen IsAction (bytes_eq method (codes "PUT")) (Replace r ns name) action _ is (alone (bytes_eq method (codes "DELETE")) (Remove r ns name) action is)) e
in_grammar OfMetrics method action is e = alone (bytes_eq method (codes "GET")) Measure action tt e
in_grammar OfCut method action is e = alone (bytes_eq method (codes "POST")) Cut action tt e
in_grammar OfCompact method action is e = alone (bytes_eq method (codes "POST")) Compact action tt e
in_grammar OfRestart method action is e = alone (bytes_eq method (codes "POST")) Restart action tt e
in_grammar OfDisconnect method action is e = alone (bytes_eq method (codes "POST")) Disconnect action tt e
in_grammar OfTransaction method action is e = alone (bytes_eq method (codes "POST")) Transact action tt e

neither : (b : Bool) → MatchBool b ⊥ ⊥ → ⊥
neither true x = x
neither false x = x

module _ (orderly : ValuesAreOrderly) (plain : ItemObjectsArePlain) where
  -- ---- a write alone

  asked : (action : Action) (req : Req) (ask : WriteAsk) → IsAction action → Asks action req (routed.Write ask) → IsStorable ask
  asked (Describe text) req ask is e = absurd (let no-text : routed.Describe text ≡ routed.Write ask = sym e in cc)
  asked Measure req ask is e = absurd (let no-metrics : routed.Metrics ≡ routed.Write ask = sym e in cc)
  asked (Read r ns) req ask is e = absurd (neither (is_watch req.params) e.2)
  asked (Create r ns) req (write.Create resource obj) is e =
      subst (λ r. IsStored r obj) (sym e.0) (record { ns = ns; path = None; value = e.1; namespace = is; orderly = orderly.whole req.body e.1 e.2; allowed = e.3; stored = e.4 })
  asked (Create r ns) req (write.Replace resource obj given) is e = absurd e
  asked (Create r ns) req (write.Remove resource key) is e = absurd e
  asked (Get r ns name) req ask is e = absurd e
  asked (Replace r ns name) req (write.Create resource obj) is e = absurd e
  asked (Replace r ns name) req (write.Replace resource obj given) is e =
      subst (λ r. IsStored r obj) (sym e.0) (record { ns = ns; path = Some name; value = e.1; namespace = is.0; orderly = orderly.whole req.body e.1 e.2; allowed = e.3; stored = e.4.object })
  asked (Replace r ns name) req (write.Remove resource key) is e = absurd e
  asked (Remove r ns name) req (write.Create resource obj) is e =
      absurd (let no-create : routed.Write (write.Create resource obj) ≡ routed.Write (write.Remove r _) = e.1 in cc)
  asked (Remove r ns name) req (write.Replace resource obj given) is e =
      absurd (let no-replace : routed.Write (write.Replace resource obj given) ≡ routed.Write (write.Remove r _) = e.1 in cc)
  asked (Remove r ns name) req (write.Remove resource key) is e = tt
  asked Cut req ask is e = absurd (let no-cut : routed.Operate operate.Cut ≡ routed.Write ask = sym e in cc)
  asked Compact req ask is e = absurd e
  asked Restart req ask is e = absurd (let no-restart : routed.Operate operate.Restart ≡ routed.Write ask = sym e in cc)
  asked Disconnect req ask is e = absurd (let no-disconnect : routed.Operate operate.Disconnect ≡ routed.Write ask = sym e in cc)
  asked Transact req ask is e = absurd e

  -- ---- the writes of a transaction

  item_at : (items : List Data) (i : ℕ) (d : Data) → slice_get items i ≡ Some d → at i (array (items_of items)) ≡ Some d
  item_at [] i d e = absurd (none_is_some d e)
  item_at (x ∷ items) zero d e = e
  item_at (x ∷ items) (suc i) d e = item_at items i d e

  array_is : (d : Data) (items : Items) → as_array d ≡ Some items → d ≡ array items
  array_is (array ds) items e = ap array (same_some ds items e)
  array_is d items e = absurd (none_is_some items e)

  checked_in : (ns : List ℕ) (o : Option (List ℕ)) → option_and_then (checked is_namespace) o ≡ Some ns → IsNamespace ns
  checked_in ns None e = absurd (none_is_some ns e)
  checked_in ns (Some text) e = by_test (is_namespace text) refl e
    where
      by_test : (b : Bool) → is_namespace text ≡ b → cond b (Some text) None ≡ Some ns → IsNamespace ns
      by_test true is same = subst (λ t. IsNamespace t) (same_some text ns same) is
      by_test false is same = absurd (none_is_some ns same)

  object_at : (d o : Data) → object_in d ≡ Some o → get (codes "object") d ≡ Some o
  object_at d o e = by_member (get (codes "object") d) e
    where
      by_test : (b : Bool) (x : Data) → cond b (Some x) None ≡ Some o → x ≡ o
      by_test true x same = same_some x o same
      by_test false x same = absurd (none_is_some o same)

      by_member : (m : Option Data) → option_and_then checked_object m ≡ Some o → m ≡ Some o
      by_member None same = absurd (none_is_some o same)
      by_member (Some x) same = ap (λ (v : Data). Some v) (by_test (is_some (as_object x)) x same)

  none_first : (o p : Option ObjNo) → o ≡ None → p ≡ None → option_or o p ≡ None
  none_first None p e n = n
  none_first (Some x) p e n = absurd (none_is_some x (sym e))

  module _ (body : List ℕ) (items : List Data) (list : IsList body items) where
    orderly_item : (i : ℕ) (d : Data) → slice_get items i ≡ Some d → IsOrderly d
    orderly_item i d e =
        orderly.item i (array (items_of items)) d (subst IsOrderly (array_is list.0 (items_of items) list.2) (orderly.whole body list.0 list.1.0)) (item_at items i d e)

    stored_item : (i : ℕ) (d o : Data) (r : Resource) (ns : List ℕ) (path : Option (List ℕ)) (obj : Obj) → slice_get items i ≡ Some d → object_in d ≡ Some o → namespace_in d ≡ Some ns
        → members_refusal r ns path o ≡ None → IsObjectOf r ns o obj → IsStored r obj
    stored_item i d o r ns path obj e inside named allowed stored = record {
      ns = ns;
      path = path;
      value = o;
      namespace = checked_in ns (item_text (codes "namespace") d) named;
      orderly = orderly.member (codes "object") d o (orderly_item i d e) (object_at d o inside);
      allowed = none_first (value_refusal o) (members_refusal r ns path o) (plain body items i d o list e inside) allowed;
      stored = stored;
    }

    asked_item : (i : ℕ) (d : Data) (ask : WriteAsk) → slice_get items i ≡ Some d → AsksItem d ask → IsStorable ask
    asked_item i d (write.Create r obj) e is = stored_item i d is.1 r is.0 None obj e is.2.«object» is.2.namespace is.3 is.4
    asked_item i d (write.Replace r obj given) e is = stored_item i d is.2 r is.0 (Some is.1) obj e is.3.«object» is.3.namespace is.4 is.5.object
    asked_item i d (write.Remove r key) e is = tt

    -- from a place on
    asked_items : (behind : List Data) (asks : List WriteAsk) (from : ℕ) → ((i : ℕ) (d : Data) → slice_get behind i ≡ Some d → slice_get items (from + i) ≡ Some d) → AskAll behind asks
        → All IsStorable asks
    asked_items [] [] from there is = All-nil IsStorable
    asked_items [] (ask ∷ asks) from there is = absurd is
    asked_items (d ∷ behind) [] from there is = absurd is
    asked_items (d ∷ behind) (ask ∷ asks) from there is =
        All-cons IsStorable ask asks (asked_item (from + 0) d ask (there 0 d refl) is.0)
        (asked_items behind asks (from + 1)
        (λ i x e. subst (λ (n : ℕ). slice_get items n ≡ Some x) {x = from + suc i} {y = from + 1 + i} (omega arith) (there (suc i) x e)) is.1)

  pub requests_are_storable : RequestsAreStorable
  requests_are_storable req = record {
    write = λ ask route. asked route.1.1 req ask (in_grammar route.1.0 req.method route.1.1 route.1.2.1 route.1.3) route.1.4;
    transaction = λ asks route. by_action route.1.1 req asks route.1.4;
  }
    where
      by_action : (action : Action) (req : Req) (asks : List WriteAsk) → Asks action req (routed.Transact asks) → All IsStorable asks
      by_action (Describe text) req asks e = absurd (let no-text : routed.Describe text ≡ routed.Transact asks = sym e in cc)
      by_action Measure req asks e = absurd (let no-metrics : routed.Metrics ≡ routed.Transact asks = sym e in cc)
      by_action (Read r ns) req asks e = absurd (neither (is_watch req.params) e.2)
      by_action (Create r ns) req asks e = absurd e
      by_action (Get r ns name) req asks e = absurd e
      by_action (Replace r ns name) req asks e = absurd e
      by_action (Remove r ns name) req asks e = absurd (let no-write : routed.Transact asks ≡ routed.Write _ = e.1 in cc)
      by_action Cut req asks e = absurd (let no-cut : routed.Operate operate.Cut ≡ routed.Transact asks = sym e in cc)
      by_action Compact req asks e = absurd e
      by_action Restart req asks e = absurd (let no-restart : routed.Operate operate.Restart ≡ routed.Transact asks = sym e in cc)
      by_action Disconnect req asks e = absurd (let no-disconnect : routed.Operate operate.Disconnect ≡ routed.Transact asks = sym e in cc)
      by_action Transact req asks e = asked_items req.body e.0 e.1.0 e.0 asks 0 (λ i d there. subst (λ (n : ℕ). slice_get e.0 n ≡ Some d) {x = i} {y = 0 + i} (omega arith) there) e.2
