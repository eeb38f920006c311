-- A request has one answer.
use Prim.{IsProp}
use Rattle.std.proofs.Common.{◌≡◌, ℕ, ◌≤◌, Bool, true, false, IsTrue, List, Some, None, Ok, sym, ap, subst, ◌∙◌}
use Rattle.std.proofs.Props.{props}
use Rattle.std.specs.Bool.{MatchBool}
use Rattle.std.proofs.lemmas.Option.{same_Some}
use Rattle.kube_meta.specs.declared.resources.Resource.{Resource}
use Rattle.http_read.specs.declared.request.Req.{Req}
use Rattle.select_all.specs.declared.selection.Meaning.{Meaning}
use Rattle.select_all.specs.declared.selection.Selection.{Selection}
use Rattle.list_rules.specs.declared.get.GetAsk.{GetAsk}
use Rattle.list_rules.specs.Options.{QueryPairs, IsNeverExact}
use Rattle.watch_rules.specs.declared.ask.WatchAsk.{WatchAsk}
use Rattle.watch_rules.specs.declared.starts.Start.{Start}
use Rattle.watch_rules.specs.Options.{MeansWatch}
use Rattle.watch_rules.specs.Starts.{is_never_exact, is_from_state}
use Rattle.json_obj.specs.Objects.{value_refusal, members_refusal}
use Rattle.up_store.specs.declared.writes.WriteAsk.TheVariants as write
use Rattle.up_store.specs.declared.operations.Operate.TheVariants as operate
use Rattle.route_req.specs.Asks.{is_watch, AsksList, AsksWatch, Asks}
use Rattle.route_req.specs.Outcomes.{AnswersAgree}
use Rattle.route_req.specs.declared.places.Action.{Action}
use Rattle.route_req.specs.declared.places.Action.TheVariants.{Read, Create, Get, Replace, Remove, Compact, Transact}
use Rattle.route_req.specs.declared.routing.Routed.{Routed}
use Rattle.route_req.specs.declared.routing.Routed.TheVariants as routed
use Rattle.route_req.proofs.Readings.{one_text, one_object, unrefused_plain, stores_once, one_transaction}
use Rattle.route_req.proofs.Selections.{one_selection}
use Rattle.route_req.proofs.Outcomes.{same_Ok, list_asks, watch_asks, get_asks, create_asks, replace_asks, compact_asks, text_asks, same_action}

-- ---- asks with facts: those of the same data are the same

made_once : {A B : Type 0} (Facts : A → Type 0) → ((a : A) → IsProp (Facts a)) → (make : (a : A) → Facts a → B) (d e : A)
    → d ≡ e → (f : Facts d) (g : Facts e) → make d f ≡ make e g
made_once Facts prop make d e same f g = subst (λ x. (h : Facts x) → make d f ≡ make x h) same (λ h. ap (make d) (prop d f h)) g

abbrev pub WatchData : Type 0
WatchData = Selection × Start × Bool × Bool × ℕ

abbrev pub WatchFacts : WatchData → Type 0
WatchFacts d = IsTrue (is_never_exact d.1) × (IsTrue d.2 → IsTrue (is_from_state d.1)) × (IsTrue d.2 → IsTrue d.3) × (d.4 ≤ 1000000)

watch_made : (d : WatchData) → WatchFacts d → WatchAsk
watch_made d f = record { selection = d.0; start = d.1; closing = d.2; bookmarks = d.3; timeout_s = d.4; never_exact = f.0; closing_a_state = f.1; closing_wanted = f.2; timeout_bounded = f.3 }

WatchFacts-prop : (d : WatchData) → IsProp (WatchFacts d)
WatchFacts-prop d = Prim.hlevel props

watches_once : (s : Selection) (params : QueryPairs) (x y : WatchAsk) → MeansWatch s params x → MeansWatch s params y → x ≡ y
unfolding watch_made
watches_once s params x y a b =
    let selection = a.of ∙ sym b.of in
    let start = a.starts ∙ sym b.starts in
    let closing = a.closes ∙ sym b.closes in
    let bookmarks = a.marks ∙ sym b.marks in
    let timeout = a.ends ∙ sym b.ends in
    made_once WatchFacts WatchFacts-prop watch_made
    (x.selection, x.start, x.closing, x.bookmarks, x.timeout_s) (y.selection, y.start, y.closing, y.bookmarks, y.timeout_s)
    (λ i. (selection i, start i, closing i, bookmarks i, timeout i))
    (x.never_exact, x.closing_a_state, x.closing_wanted, x.timeout_bounded) (y.never_exact, y.closing_a_state, y.closing_wanted, y.timeout_bounded)

abbrev pub GetData : Type 0
GetData = Resource × List ℕ × Meaning

get_made : (d : GetData) → IsNeverExact d.2 → GetAsk
get_made d f = record { resource = d.0; key = d.1; meaning = d.2; never_exact = f }

IsNeverExact-prop : (meaning : Meaning) → IsProp (IsNeverExact meaning)
IsNeverExact-prop meaning = Prim.hlevel props

gets_once : (x y : GetAsk) → x.resource ≡ y.resource → x.key ≡ y.key → x.meaning ≡ y.meaning → x ≡ y
unfolding get_made
gets_once x y resource key meaning =
    made_once (λ (d : GetData). IsNeverExact d.2) (λ d. IsNeverExact-prop d.2) get_made
    (x.resource, x.key, x.meaning) (y.resource, y.key, y.meaning) (λ i. (resource i, key i, meaning i)) x.never_exact y.never_exact

-- ---- the whole

either_once : (kind : Bool) (s : Selection) (params : QueryPairs) (a b : Routed) → MatchBool kind (AsksWatch s params a) (AsksList s params a) → MatchBool kind (AsksWatch s params b) (AsksList s params b) → a ≡ b
either_once true s params a b ha hb =
    let x = watch_asks s params a ha in
    let y = watch_asks s params b hb in
    x.1 ∙ ap (λ v. routed.Watch v) (watches_once s params x.0 y.0 x.2 y.2) ∙ sym y.1
either_once false s params a b ha hb =
    let x = list_asks s params a ha in
    let y = list_asks s params b hb in
    x.1 ∙ ap (λ v. routed.List v) (same_Ok x.0 y.0 (sym x.2 ∙ y.2)) ∙ sym y.1

acts_once : (action : Action) (req : Req) (a b : Routed) → Asks action req a → Asks action req b → a ≡ b
acts_once (Read r ns) req a b ha hb =
    let same : hb.0 ≡ ha.0 = one_selection r ns req.params hb.0 ha.0 hb.1 ha.1 in
    either_once (is_watch req.params) ha.0 req.params a b ha.2 (subst (λ s. MatchBool (is_watch req.params) (AsksWatch s req.params b) (AsksList s req.params b)) same hb.2)
acts_once (Create r ns) req a b ha hb =
    let x = create_asks r ns req.body a ha in
    let y = create_asks r ns req.body b hb in
    let plain = unrefused_plain (value_refusal x.1) (members_refusal r ns None x.1) x.4 in
    x.2 ∙ ap (λ o. routed.Write (write.Create r o)) (one_object r ns x.1 y.1 x.0 y.0 (one_text req.body x.1 y.1 x.3 y.3) plain x.5 y.5) ∙ sym y.2
acts_once (Get r ns name) req a b ha hb =
    let x = get_asks r ns name req.params a ha in
    let y = get_asks r ns name req.params b hb in
    x.1 ∙ ap (λ v. routed.Get v) (gets_once x.0 y.0 (x.2 ∙ sym y.2) (x.3 ∙ sym y.3) (same_Ok (x.0).meaning (y.0).meaning (sym x.4 ∙ y.4))) ∙ sym y.1
acts_once (Remove r ns name) req a b ha hb = ha.1 ∙ sym hb.1
acts_once (Replace r ns name) req a b ha hb =
    let x = replace_asks r ns name req.body a ha in
    let y = replace_asks r ns name req.body b hb in
    let plain = unrefused_plain (value_refusal x.2) (members_refusal r ns (Some name) x.2) x.5 in
    x.3 ∙ ap (λ w. routed.Write w) (stores_once r ns x.2 y.2 x.0 y.0 x.1 y.1 (one_text req.body x.2 y.2 x.4 y.4) plain x.6 y.6) ∙ sym y.3
acts_once Compact req a b ha hb =
    let x = compact_asks req.params a ha in
    let y = compact_asks req.params b hb in
    x.1 ∙ ap (λ at. routed.Operate (operate.Compact at)) (same_Ok x.0 y.0 (same_Some (Ok x.0) (Ok y.0) (sym x.2 ∙ y.2))) ∙ sym y.1
acts_once Transact req a b ha hb =
    let x = text_asks req.body a ha in
    let y = text_asks req.body b hb in
    x.1 ∙ ap (λ v. routed.Transact v) (one_transaction req.body x.0 y.0 x.2 y.2) ∙ sym y.1
acts_once action req a b ha hb = ha ∙ sym hb

pub answers_agree : AnswersAgree
answers_agree req a b (own, ra) (own_too, rb) =
    let same : rb.1 ≡ ra.1 = same_Some rb.1 ra.1 (same_action req rb.0 ra.0 (Some rb.1) (Some ra.1) rb.2 ra.2 rb.3 ra.3) in
    acts_once ra.1 req a b ra.4 (subst (λ action. Asks action req b) same rb.4)
