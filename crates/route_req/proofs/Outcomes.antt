-- A request has one outcome.
use Rattle.std.proofs.Common.{◌≡◌, ◌≢◌, ℕ, Bool, true, false, List, Option, Some, None, Result, Ok, Err, refl, sym, ap, subst, ◌∙◌, inl, inr, ◌⊎◌, codes, cond, bytes_eq}
use Rattle.std.specs.Bool.{MatchBool}
use Rattle.std.proofs.lemmas.Option.{none-some, same_Some}
use Rattle.serde_json.specs.Data.{Data}
use Rattle.kube_meta.specs.declared.objects.Obj.{Obj}
use Rattle.kube_meta.specs.declared.resources.Resource.{Resource}
use Rattle.kube_meta.specs.Keys.{joined}
use Rattle.http_read.specs.declared.request.Req.{Req}
use Rattle.select_all.specs.declared.selection.Selection.{Selection}
use Rattle.select_all.specs.declared.selection.SelNo.{SelNo}
use Rattle.select_all.specs.declared.selection.SelNo.TheVariants as select_no
use Rattle.list_rules.specs.declared.ask.ListAsk.{ListAsk}
use Rattle.list_rules.specs.declared.get.GetAsk.{GetAsk}
use Rattle.list_rules.specs.declared.refusal.AskNo.{AskNo}
use Rattle.list_rules.specs.declared.refusal.AskNo.TheVariants as ask_no
use Rattle.list_rules.specs.Options.{QueryPairs, given, parameter_number, of_get}
use Rattle.list_rules.specs.Asking.{ask_of}
use Rattle.watch_rules.specs.declared.ask.WatchAsk.{WatchAsk}
use Rattle.watch_rules.specs.Options.{query_fault, MeansWatch}
use Rattle.json_obj.specs.Objects.{IsTextOf, refusal, IsObjectOf, Stores}
use Rattle.json_obj.specs.declared.refusals.ObjNo.{ObjNo}
use Rattle.json_obj.specs.declared.refusals.ObjNo.TheVariants as object_no
use Rattle.up_store.specs.declared.writes.WriteAsk.{WriteAsk}
use Rattle.up_store.specs.declared.writes.WriteAsk.TheVariants as write
use Rattle.up_store.specs.declared.operations.Operate.TheVariants as operate
use Rattle.route_req.specs.Places.{Names, action_at, takes_memory}
use Rattle.route_req.specs.Texts.{AsksTransaction, RefusesText}
use Rattle.route_req.specs.Asks.{is_watch, IsSelection, HasSelectorFault, compacts_at, HoldsNoObject, AsksList, AsksWatch, AsksRead, AsksCreate, AsksReplace, AsksGet, AsksCompact, AsksTransact, Asks, option_in, AsksOption, first_refusal, RefusesList, RefusesWatch, RefusesRead, RefusesObject, RefusesGet, RefusesRemove, RefusesCompact, RefusesTransact, Refuses, AsksAtPath, RefusesAtPath, IsRefusal}
use Rattle.route_req.specs.Outcomes.{RoutesAreNotRefused, RefusalsAgree}
use Rattle.route_req.specs.declared.places.Place.{Place}
use Rattle.route_req.specs.declared.places.Place.TheVariants.{Described, OfMetrics, OfCut, OfCompact, OfRestart, OfDisconnect}
use Rattle.route_req.specs.declared.places.Action.{Action}
use Rattle.route_req.specs.declared.places.Action.TheVariants.{Describe, Measure, Read, Create, Get, Replace, Remove, Cut, Compact, Restart, Disconnect, Transact}
use Rattle.route_req.specs.declared.transactions.TxTextNo.{TxTextNo}
use Rattle.route_req.specs.declared.transactions.TxTextNo.TheVariants as text_no
use Rattle.route_req.specs.declared.routing.Routed.{Routed}
use Rattle.route_req.specs.declared.routing.Routed.TheVariants as routed
use Rattle.route_req.specs.declared.routing.RouteNo.{RouteNo}
use Rattle.route_req.specs.declared.routing.RouteNo.TheVariants as route_no
use Rattle.route_req.specs.declared.unserved.Unserved.{Unserved}
use Rattle.route_req.proofs.DocumentPaths.{if_found}
use Rattle.route_req.proofs.Paths.{one_place}
use Rattle.route_req.proofs.Readings.{one_text, texts_agree, text_unrefused}
use Rattle.route_req.proofs.Selections.{one_selection}
use Rattle.route_req.proofs.Wrapping.{Placed, act_plain}

-- ---- what is told by a refusal: want of memory, or a reason of one kind

abbrev pub Tells : {Why : Type 0} → RouteNo → (Why → RouteNo) → (Why → Type 0) → Type 0
Tells {Why} fault wrap Holds = (fault ≡ route_no.Memory) ⊎ ((why : Why) × (fault ≡ wrap why) × Holds why)

-- where the reasons of one kind agree, so do the refusals
told_once : {Why : Type 0} (wrap : Why → RouteNo) (Holds : Why → Type 0) (a b : RouteNo) → ((x y : Why) → Holds x → Holds y → x ≡ y)
    → Tells a wrap Holds → Tells b wrap Holds → a ≢ route_no.Memory → b ≢ route_no.Memory → a ≡ b
told_once wrap Holds a b agree (inl e) tb na nb = absurd (na e)
told_once wrap Holds a b agree (inr x) (inl e) na nb = absurd (nb e)
told_once wrap Holds a b agree (inr x) (inr y) na nb = x.1 ∙ ap wrap (agree x.0 y.0 x.2 y.2) ∙ sym y.1

-- where none holds, it is want of memory
told_memory : {Why : Type 0} (wrap : Why → RouteNo) (Holds : Why → Type 0) (fault : RouteNo) → ((x : Why) → Holds x → ⊥) → Tells fault wrap Holds → fault ≡ route_no.Memory
told_memory wrap Holds fault none (inl e) = e
told_memory wrap Holds fault none (inr x) = absurd (none x.0 x.2)

pub same_Ok : {A B : Type 0} (x y : A) → ◌≡◌ {A = Result A B} (Ok x) (Ok y) → x ≡ y
same_Ok x y e = cc

not_both : {A B : Type 0} (r : Result A B) (x : A) (y : B) → r ≡ Ok x → r ≡ Err y → ⊥
not_both r x y ok err = cc

err_once : {A B : Type 0} (r : Result A B) (x y : B) → r ≡ Err x → r ≡ Err y → x ≡ y
err_once r x y ex ey = cc

-- ---- the reasons

abbrev pub ListFault : Selection → QueryPairs → AskNo → Type 0
ListFault s params why = ask_of s params ≡ Err why

list_tells : (s : Selection) (params : QueryPairs) (fault : RouteNo) → RefusesList s params fault → Tells fault (λ why. route_no.List why) (ListFault s params)
list_tells s params (route_no.List ask_no.Memory) is = absurd is
list_tells s params (route_no.List why) is = inr (why, refl, is)
list_tells s params route_no.Memory is = inl refl
list_tells s params fault is = absurd is

watch_tells : (params : QueryPairs) (fault : RouteNo) → RefusesWatch params fault → Tells fault (λ why. route_no.Watch why) (λ why. query_fault params ≡ Some why)
watch_tells params (route_no.Watch why) is = inr (why, refl, is)
watch_tells params fault is = absurd is

-- two texts have one first fault
selector_faults_agree : (r : Resource) (ns : Option (List ℕ)) (params : QueryPairs) (x y : SelNo) → HasSelectorFault r ns params x → HasSelectorFault r ns params y → x ≡ y
selector_faults_agree r ns params x y hx hy = err_once _ x y hx.1 hy.1

-- a read: the selectors' reason, or that of the options of the selection
abbrev pub ReadTells : Resource → Option (List ℕ) → QueryPairs → RouteNo → Type 0
ReadTells r ns params fault =
    Tells fault (λ why. route_no.Selector why) (HasSelectorFault r ns params)
    ⊎ ((s : Selection) × IsSelection r ns params s × MatchBool (is_watch params) (RefusesWatch params fault) (RefusesList s params fault))

read_tells : (r : Resource) (ns : Option (List ℕ)) (params : QueryPairs) (fault : RouteNo) → RefusesRead r ns params fault → ReadTells r ns params fault
read_tells r ns params (route_no.Selector select_no.Memory) is = absurd is
read_tells r ns params (route_no.Selector why) is = inl (inr (why, refl, is))
read_tells r ns params route_no.Memory is = inl (inl refl)
read_tells r ns params fault is = inr is

body_tells : (r : Resource) (ns : List ℕ) (name : Option (List ℕ)) (body : List ℕ) (fault : RouteNo) → RefusesObject r ns name body fault
    → Tells fault (λ why. route_no.Object why) (HoldsNoObject r ns name body)
body_tells r ns name body (route_no.Object object_no.Memory) is = absurd is
body_tells r ns name body (route_no.Object why) is = inr (why, refl, is)
body_tells r ns name body route_no.Memory is = inl refl
body_tells r ns name body fault is = absurd is

get_tells : (params : QueryPairs) (fault : RouteNo) → RefusesGet params fault
    → Tells fault (λ why. route_no.List why) (λ why. of_get (parameter_number (given (codes "resourceVersion") params)) ≡ Err why)
get_tells params (route_no.List ask_no.Memory) is = absurd is
get_tells params (route_no.List why) is = inr (why, refl, is)
get_tells params route_no.Memory is = inl refl
get_tells params fault is = absurd is

remove_tells : (body : List ℕ) (fault : RouteNo) → RefusesRemove body fault → Tells fault (λ why. route_no.Unserved why) (AsksOption body)
remove_tells body (route_no.Unserved option) is = inr (option, refl, is)
remove_tells body route_no.Memory is = inl refl
remove_tells body fault is = absurd is

-- a body asks for one option
options_agree : (body : List ℕ) (x y : Unserved) → AsksOption body x → AsksOption body y → x ≡ y
options_agree body x y a b =
    let same : a.0 ≡ b.0 = one_text body a.0 b.0 a.1 b.1 in
    same_Some x y (sym a.2 ∙ ap option_in same ∙ b.2)

compact_tells : (params : QueryPairs) (fault : RouteNo) → RefusesCompact params fault → (fault ≡ route_no.Operation) × ((at : ℕ) → compacts_at params ≡ Some (Ok at) → ⊥)
compact_tells params route_no.Operation is = (refl, is)
compact_tells params fault is = absurd is

-- a text's reason, which isn't want of memory
abbrev pub TextFault : List ℕ → TxTextNo → Type 0
TextFault body why = RefusesText body why × (why ≡ text_no.Memory → ⊥)

text_tells : (body : List ℕ) (fault : RouteNo) → RefusesTransact body fault → Tells fault (λ why. route_no.Transaction why) (TextFault body)
text_tells body (route_no.Transaction text_no.Memory) is = absurd is
text_tells body (route_no.Transaction why) is = inr (why, refl, (is, λ e. cc))
text_tells body route_no.Memory is = inl refl
text_tells body fault is = absurd is

-- ---- bodies

-- a body that isn't one JSON text, or whose value is refused
abbrev pub BodyFault : Resource → List ℕ → Option (List ℕ) → List ℕ → ObjNo → Type 0
BodyFault r ns name body why = ((why ≡ object_no.NotJson) × ((d : Data) → IsTextOf body d → ⊥)) ⊎ ((d : Data) × IsTextOf body d × (refusal r ns name d ≡ Some why))

body_fault : (r : Resource) (ns : List ℕ) (name : Option (List ℕ)) (body : List ℕ) (why : ObjNo) → HoldsNoObject r ns name body why → BodyFault r ns name body why
body_fault r ns name body object_no.NotJson is = inl (refl, is)
body_fault r ns name body why is = inr is

bodies_agree : (r : Resource) (ns : List ℕ) (name : Option (List ℕ)) (body : List ℕ) (x y : ObjNo) → HoldsNoObject r ns name body x → HoldsNoObject r ns name body y → x ≡ y
bodies_agree r ns name body x y is also = by_faults (body_fault r ns name body x is) (body_fault r ns name body y also)
  where
    by_faults : BodyFault r ns name body x → BodyFault r ns name body y → x ≡ y
    by_faults (inl a) (inl b) = a.0 ∙ sym b.0
    by_faults (inl a) (inr b) = absurd (a.1 b.0 b.1)
    by_faults (inr a) (inl b) = absurd (b.1 a.0 a.1)
    by_faults (inr a) (inr b) =
        let same : a.0 ≡ b.0 = one_text body a.0 b.0 a.1 b.1 in
        same_Some x y (sym a.2 ∙ ap (refusal r ns name) same ∙ b.2)

body_unrefused : (r : Resource) (ns : List ℕ) (name : Option (List ℕ)) (body : List ℕ) (d : Data) (x : ObjNo) → IsTextOf body d → refusal r ns name d ≡ None → HoldsNoObject r ns name body x → ⊥
body_unrefused r ns name body d x is none refused = by_fault (body_fault r ns name body x refused)
  where
    by_fault : BodyFault r ns name body x → ⊥
    by_fault (inl a) = a.1 d is
    by_fault (inr a) =
        let same : a.0 ≡ d = one_text body a.0 d a.1 is in
        none-some x (sym none ∙ ap (refusal r ns name) (sym same) ∙ a.2)

-- ---- what an answer asks for

pub list_asks : (s : Selection) (params : QueryPairs) (answer : Routed) → AsksList s params answer → (ask : ListAsk) × (answer ≡ routed.List ask) × (ask_of s params ≡ Ok ask)
list_asks s params (routed.List ask) is = (ask, refl, is)
list_asks s params answer is = absurd is

pub watch_asks : (s : Selection) (params : QueryPairs) (answer : Routed) → AsksWatch s params answer → (ask : WatchAsk) × (answer ≡ routed.Watch ask) × MeansWatch s params ask
watch_asks s params (routed.Watch ask) is = (ask, refl, is)
watch_asks s params answer is = absurd is

pub get_asks : (r : Resource) (ns name : List ℕ) (params : QueryPairs) (answer : Routed) → AsksGet r ns name params answer
    → (ask : GetAsk) × (answer ≡ routed.Get ask) × (ask.resource ≡ r) × (ask.key ≡ joined ns name) × (of_get (parameter_number (given (codes "resourceVersion") params)) ≡ Ok ask.meaning)
get_asks r ns name params (routed.Get ask) is = (ask, refl, is.0, is.1, is.2)
get_asks r ns name params answer is = absurd is

pub create_asks : (r : Resource) (ns body : List ℕ) (answer : Routed) → AsksCreate r ns body answer
    → (o : Obj) × (d : Data) × (answer ≡ routed.Write (write.Create r o)) × IsTextOf body d × (refusal r ns None d ≡ None) × IsObjectOf r ns d o
create_asks r ns body (routed.Write (write.Create resource obj)) is =
    (obj, is.1, ap (λ v. routed.Write (write.Create v obj)) is.0, is.2, is.3, is.4)
create_asks r ns body answer is = absurd is

pub replace_asks : (r : Resource) (ns name body : List ℕ) (answer : Routed) → AsksReplace r ns name body answer
    → (o : Obj) × (n : Option ℕ) × (d : Data) × (answer ≡ routed.Write (write.Replace r o n))
    × IsTextOf body d × (refusal r ns (Some name) d ≡ None) × Stores r ns d (o, n)
replace_asks r ns name body (routed.Write (write.Replace resource obj n)) is =
    (obj, n, is.1, ap (λ v. routed.Write (write.Replace v obj n)) is.0, is.2, is.3, is.4)
replace_asks r ns name body answer is = absurd is

pub compact_asks : (params : QueryPairs) (answer : Routed) → AsksCompact params answer → (at : ℕ) × (answer ≡ routed.Operate (operate.Compact at)) × (compacts_at params ≡ Some (Ok at))
compact_asks params (routed.Operate (operate.Compact at)) is = (at, refl, is)
compact_asks params answer is = absurd is

pub text_asks : (body : List ℕ) (answer : Routed) → AsksTransact body answer → (asks : List WriteAsk) × (answer ≡ routed.Transact asks) × AsksTransaction body asks
text_asks body (routed.Transact asks) is = (asks, refl, is)
text_asks body answer is = absurd is

-- ---- what an action refuses, at the path that names it

-- at a place whose requests take no memory, none is refused for want of it
same_refuses : (req : Req) (own action : Action) (b : Bool) → cond b (Some own) None ≡ Some action → Refuses action req route_no.Memory → Refuses own req route_no.Memory
same_refuses req own action b e refused =
    let found = if_found b (Some own) action e in
    subst (λ a. Refuses a req route_no.Memory) (sym (same_Some own action found.1)) refused

memory_taken : (req : Req) (place : Place) (action : Action) → action_at place req.method ≡ Some action → Refuses action req route_no.Memory → takes_memory place ≡ true
memory_taken req (Described text) action e refused = absurd (same_refuses req (Describe text) action (bytes_eq req.method (codes "GET")) e refused)
memory_taken req OfMetrics action e refused = absurd (same_refuses req Measure action (bytes_eq req.method (codes "GET")) e refused)
memory_taken req OfCut action e refused = absurd (same_refuses req Cut action (bytes_eq req.method (codes "POST")) e refused)
memory_taken req OfCompact action e refused = absurd (same_refuses req Compact action (bytes_eq req.method (codes "POST")) e refused)
memory_taken req OfRestart action e refused = absurd (same_refuses req Restart action (bytes_eq req.method (codes "POST")) e refused)
memory_taken req OfDisconnect action e refused = absurd (same_refuses req Disconnect action (bytes_eq req.method (codes "POST")) e refused)
memory_taken req place action e refused = refl

-- what an action refuses is refused at the path that names it
pub refused_at_path : (req : Req) (place : Place) (action : Action) (fault : RouteNo) → Names req.path place → action_at place req.method ≡ Some action → Refuses action req fault → RefusesAtPath req fault
refused_at_path req place action fault names at refused = by_fault fault (act_plain action req fault refused).1 refused
  where
    by_fault : (fault : RouteNo) → Placed fault → Refuses action req fault → RefusesAtPath req fault
    by_fault route_no.ForeignSite placed is = absurd placed
    by_fault route_no.MediaType placed is = absurd placed
    by_fault route_no.NoPath placed is = absurd placed
    by_fault route_no.NoMethod placed is = absurd placed
    by_fault route_no.Memory placed is = (place, names, memory_taken req place action at is)
    by_fault fault placed is = (place, action, names, at, is)

-- ---- an answer beside a refusal

read_excludes : (r : Resource) (ns : Option (List ℕ)) (params : QueryPairs) (answer : Routed) (fault : RouteNo) → AsksRead r ns params answer → ReadTells r ns params fault → fault ≡ route_no.Memory
read_excludes r ns params answer fault asked (inl tells) =
    told_memory (λ why. route_no.Selector why) _ fault
    (λ why bad. bad.0 asked.0 asked.1) tells
read_excludes r ns params answer fault asked (inr refused) = by_kind (is_watch params) asked.2 refused.2
  where
    same : refused.0 ≡ asked.0
    same = one_selection r ns params refused.0 asked.0 refused.1 asked.1

    by_kind : (b : Bool) → MatchBool b (AsksWatch asked.0 params answer) (AsksList asked.0 params answer)
        → MatchBool b (RefusesWatch params fault) (RefusesList refused.0 params fault) → fault ≡ route_no.Memory
    by_kind true asks refuses =
        told_memory (λ why. route_no.Watch why) _ fault (λ why bad. none-some why (sym (watch_asks asked.0 params answer asks).2.unrefused ∙ bad)) (watch_tells params fault refuses)
    by_kind false asks refuses =
        let ask = list_asks asked.0 params answer asks in
        told_memory (λ why. route_no.List why) (ListFault asked.0 params) fault (λ why bad. not_both (ask_of asked.0 params) ask.0 why ask.2 bad)
        (list_tells asked.0 params fault (subst (λ s. RefusesList s params fault) same refuses))

body_excludes : (r : Resource) (ns : List ℕ) (name : Option (List ℕ)) (body : List ℕ) (fault : RouteNo) (d : Data)
    → IsTextOf body d → refusal r ns name d ≡ None → RefusesObject r ns name body fault → fault ≡ route_no.Memory
body_excludes r ns name body fault d is plain refused =
    told_memory (λ why. route_no.Object why) (HoldsNoObject r ns name body) fault (λ why bad. body_unrefused r ns name body d why is plain bad)
    (body_tells r ns name body fault refused)

acts_exclude : (action : Action) (req : Req) (answer : Routed) (fault : RouteNo) → Asks action req answer → Refuses action req fault → fault ≡ route_no.Memory
acts_exclude (Read r ns) req answer fault asked refused = read_excludes r ns req.params answer fault asked (read_tells r ns req.params fault refused)
acts_exclude (Create r ns) req answer fault asked refused =
    let x = create_asks r ns req.body answer asked in
    body_excludes r ns None req.body fault x.1 x.3 x.4 refused
acts_exclude (Get r ns name) req answer fault asked refused =
    let ask = get_asks r ns name req.params answer asked in
    let meaning = of_get (parameter_number (given (codes "resourceVersion") req.params)) in
    told_memory (λ why. route_no.List why) _ fault (λ why bad. not_both meaning (ask.0).meaning why ask.4 bad) (get_tells req.params fault refused)
acts_exclude (Replace r ns name) req answer fault asked refused =
    let x = replace_asks r ns name req.body answer asked in
    body_excludes r ns (Some name) req.body fault x.2 x.4 x.5 refused
acts_exclude (Remove r ns name) req answer fault asked refused =
    told_memory (λ why. route_no.Unserved why) (AsksOption req.body) fault
    (λ why bad. none-some why (sym (asked.0 bad.0 bad.1) ∙ bad.2)) (remove_tells req.body fault refused)
acts_exclude Compact req answer fault asked refused =
    let ask = compact_asks req.params answer asked in
    absurd ((compact_tells req.params fault refused).1 ask.0 ask.2)
acts_exclude Transact req answer fault asked refused =
    let ask = text_asks req.body answer asked in
    told_memory (λ why. route_no.Transaction why) (TextFault req.body) fault
    (λ why bad. text_unrefused req.body ask.0 why ask.2 bad.0 bad.1) (text_tells req.body fault refused)
acts_exclude action req answer fault asked refused = absurd refused

-- ---- two refusals

read_agrees : (r : Resource) (ns : Option (List ℕ)) (params : QueryPairs) (a b : RouteNo) → ReadTells r ns params a → ReadTells r ns params b → a ≢ route_no.Memory → b ≢ route_no.Memory → a ≡ b
read_agrees r ns params a b (inl ta) (inl tb) na nb =
    told_once (λ why. route_no.Selector why) (HasSelectorFault r ns params) a b (selector_faults_agree r ns params) ta tb na nb
read_agrees r ns params a b (inl ta) (inr tb) na nb =
    absurd (na (told_memory (λ why. route_no.Selector why) _ a (λ why bad. bad.0 tb.0 tb.1) ta))
read_agrees r ns params a b (inr ta) (inl tb) na nb =
    absurd (nb (told_memory (λ why. route_no.Selector why) _ b (λ why bad. bad.0 ta.0 ta.1) tb))
read_agrees r ns params a b (inr ta) (inr tb) na nb = by_kind (is_watch params) ta.2 tb.2
  where
    same : tb.0 ≡ ta.0
    same = one_selection r ns params tb.0 ta.0 tb.1 ta.1

    by_kind : (kind : Bool) → MatchBool kind (RefusesWatch params a) (RefusesList ta.0 params a) → MatchBool kind (RefusesWatch params b) (RefusesList tb.0 params b) → a ≡ b
    by_kind true ha hb =
        told_once (λ why. route_no.Watch why) _ a b (λ x y hx hy. same_Some x y (sym hx ∙ hy)) (watch_tells params a ha) (watch_tells params b hb) na nb
    by_kind false ha hb =
        told_once (λ why. route_no.List why) (ListFault ta.0 params) a b (λ x y hx hy. err_once (ask_of ta.0 params) x y hx hy)
        (list_tells ta.0 params a ha) (list_tells ta.0 params b (subst (λ s. RefusesList s params b) same hb)) na nb

body_agrees : (r : Resource) (ns : List ℕ) (name : Option (List ℕ)) (body : List ℕ) (a b : RouteNo) → RefusesObject r ns name body a → RefusesObject r ns name body b → a ≢ route_no.Memory → b ≢ route_no.Memory → a ≡ b
body_agrees r ns name body a b ha hb na nb =
    told_once (λ why. route_no.Object why) (HoldsNoObject r ns name body) a b (bodies_agree r ns name body) (body_tells r ns name body a ha) (body_tells r ns name body b hb) na nb

acts_agree : (action : Action) (req : Req) (a b : RouteNo) → Refuses action req a → Refuses action req b → a ≢ route_no.Memory → b ≢ route_no.Memory → a ≡ b
acts_agree (Read r ns) req a b ha hb na nb = read_agrees r ns req.params a b (read_tells r ns req.params a ha) (read_tells r ns req.params b hb) na nb
acts_agree (Create r ns) req a b ha hb na nb = body_agrees r ns None req.body a b ha hb na nb
acts_agree (Get r ns name) req a b ha hb na nb =
    told_once (λ why. route_no.List why) _ a b (λ x y hx hy. err_once (of_get (parameter_number (given (codes "resourceVersion") req.params))) x y hx hy) (get_tells req.params a ha) (get_tells req.params b hb) na nb
acts_agree (Replace r ns name) req a b ha hb na nb = body_agrees r ns (Some name) req.body a b ha hb na nb
acts_agree (Remove r ns name) req a b ha hb na nb =
    told_once (λ why. route_no.Unserved why) (AsksOption req.body) a b (options_agree req.body) (remove_tells req.body a ha) (remove_tells req.body b hb) na nb
acts_agree Compact req a b ha hb na nb = (compact_tells req.params a ha).0 ∙ sym (compact_tells req.params b hb).0
acts_agree Transact req a b ha hb na nb =
    told_once (λ why. route_no.Transaction why) (TextFault req.body) a b (λ x y hx hy. texts_agree req.body x y hx.0 hy.0 hx.1 hy.1) (text_tells req.body a ha) (text_tells req.body b hb) na nb
acts_agree action req a b ha hb na nb = absurd ha

-- ---- the whole

-- where the path names a place: it hasn't the method, or the action there refuses
abbrev pub PlaceTells : Req → RouteNo → Type 0
PlaceTells req fault =
    ((fault ≡ route_no.NoMethod) × (place : Place) × Names req.path place × (action_at place req.method ≡ None))
    ⊎ ((place : Place) × (action : Action) × Names req.path place × (action_at place req.method ≡ Some action) × Refuses action req fault)

place_told : (req : Req) (fault : RouteNo) → PlaceTells req fault → (place : Place) × Names req.path place
place_told req fault (inl x) = (x.1, x.2)
place_told req fault (inr x) = (x.0, x.2)

-- a refusal: no place, want of memory, or that
abbrev pub Refusal : Req → RouteNo → Type 0
Refusal req fault = ((fault ≡ route_no.NoPath) × ((place : Place) → Names req.path place → ⊥)) ⊎ ((fault ≡ route_no.Memory) ⊎ PlaceTells req fault)

refusal_is : (req : Req) (fault : RouteNo) → RefusesAtPath req fault → Refusal req fault
refusal_is req route_no.ForeignSite is = absurd is
refusal_is req route_no.MediaType is = absurd is
refusal_is req route_no.NoPath is = inl (refl, is)
refusal_is req route_no.Memory is = inr (inl refl)
refusal_is req route_no.NoMethod is = inr (inr (inl (refl, is.0, is.1, is.2)))
refusal_is req fault is = inr (inr (inr is))

pub same_action : (req : Req) (p q : Place) (a b : Option Action) → Names req.path p → Names req.path q → action_at p req.method ≡ a → action_at q req.method ≡ b → a ≡ b
same_action req p q a b np nq ea eb = sym ea ∙ ap (λ place. action_at place req.method) (one_place req.path p q np nq) ∙ eb

asked_excludes : (req : Req) (answer : Routed) (fault : RouteNo) → AsksAtPath req answer → RefusesAtPath req fault → fault ≡ route_no.Memory
asked_excludes req answer fault route refused = by_refusal (refusal_is req fault refused)
  where
    by_refusal : Refusal req fault → fault ≡ route_no.Memory
    by_refusal (inl none) = absurd (none.1 route.0 route.2)
    by_refusal (inr (inl e)) = e
    by_refusal (inr (inr (inl bad))) = absurd (none-some route.1 (same_action req bad.1 route.0 None (Some route.1) bad.2 route.2 bad.3 route.3))
    by_refusal (inr (inr (inr act))) =
        let same : act.1 ≡ route.1 = same_Some act.1 route.1 (same_action req act.0 route.0 (Some act.1) (Some route.1) act.2 route.2 act.3 route.3) in
        acts_exclude route.1 req answer fault route.4 (subst (λ action. Refuses action req fault) same act.4)

pub routes_are_not_refused : RoutesAreNotRefused
routes_are_not_refused req answer fault (passed, route) refused = elim refused [
  | inl first ↦ absurd (none-some fault (sym passed ∙ first))
  | inr at ↦ asked_excludes req answer fault route at.1
]

asked_agree : (req : Req) (a b : RouteNo) → RefusesAtPath req a → RefusesAtPath req b → a ≢ route_no.Memory → b ≢ route_no.Memory → a ≡ b
asked_agree req a b ra rb na nb = by_refusals (refusal_is req a ra) (refusal_is req b rb)
  where
    places : PlaceTells req a → PlaceTells req b → a ≡ b
    places (inl x) (inl y) = x.0 ∙ sym y.0
    places (inl x) (inr y) = absurd (none-some y.1 (same_action req x.1 y.0 None (Some y.1) x.2 y.2 x.3 y.3))
    places (inr x) (inl y) = absurd (none-some x.1 (same_action req y.1 x.0 None (Some x.1) y.2 x.2 y.3 x.3))
    places (inr x) (inr y) =
        let same : y.1 ≡ x.1 = same_Some y.1 x.1 (same_action req y.0 x.0 (Some y.1) (Some x.1) y.2 x.2 y.3 x.3) in
        acts_agree x.1 req a b x.4 (subst (λ action. Refuses action req b) same y.4) na nb

    by_refusals : Refusal req a → Refusal req b → a ≡ b
    by_refusals (inl x) (inl y) = x.0 ∙ sym y.0
    by_refusals (inr (inl e)) tb = absurd (na e)
    by_refusals ta (inr (inl e)) = absurd (nb e)
    by_refusals (inl x) (inr (inr y)) = let n = place_told req b y in absurd (x.1 n.0 n.1)
    by_refusals (inr (inr x)) (inl y) = let n = place_told req a x in absurd (y.1 n.0 n.1)
    by_refusals (inr (inr x)) (inr (inr y)) = places x y

pub refusals_agree : RefusalsAgree
refusals_agree req a b ra rb na nb = both ra rb
  where
    both : IsRefusal req a → IsRefusal req b → a ≡ b
    both (inl x) (inl y) = same_Some a b (sym x ∙ y)
    both (inl x) (inr y) = absurd (none-some a (sym y.0 ∙ x))
    both (inr x) (inl y) = absurd (none-some b (sym x.0 ∙ y))
    both (inr x) (inr y) = asked_agree req a b x.1 y.1 na nb
