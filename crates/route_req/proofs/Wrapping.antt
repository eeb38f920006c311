-- Want of memory is never a reason within another refusal.
use Rattle.std.proofs.Common.{◌≡◌, ℕ, Bool, true, false, List, [], ◌∷◌, Option, Some, None, Result, Ok, Err, not, refl, sym, ap, subst, ◌∙◌, if◌then◌else◌, codes, inl, inr}
use Rattle.std.specs.Bool.{MatchBool}
use Rattle.std.specs.List.{list_all}
use Rattle.std.proofs.lemmas.Bool.{and_parts, not-true}
use Rattle.std.proofs.lemmas.Option.{none-some, same_Some}
use Rattle.serde_json.specs.Data.{Data}
use Rattle.kube_meta.specs.declared.resources.Resource.{Resource}
use Rattle.http_read.specs.declared.request.Req.{Req}
use Rattle.label_select.specs.declared.refusal.LabelNo.{LabelNo}
use Rattle.label_select.specs.declared.refusal.LabelNo.TheVariants as label_no
use Rattle.label_select.specs.declared.requirements.Requirement.{Requirement}
use Rattle.label_select.specs.Reading.{selector_of as label_selector_of}
use Rattle.field_select.specs.declared.refusal.FieldNo.{FieldNo}
use Rattle.field_select.specs.declared.refusal.FieldNo.TheVariants as field_no
use Rattle.field_select.specs.declared.terms.Term.{Term}
use Rattle.field_select.specs.Reading.{selector_of as field_selector_of}
use Rattle.select_all.specs.declared.selection.Selection.{Selection}
use Rattle.select_all.specs.declared.selection.SelNo.{SelNo}
use Rattle.select_all.specs.declared.selection.SelNo.TheVariants as select_no
use Rattle.select_all.specs.Reading.{both_read}
use Rattle.list_rules.specs.declared.ask.ListAsk.{ListAsk}
use Rattle.list_rules.specs.declared.refusal.AskNo.{AskNo}
use Rattle.list_rules.specs.declared.refusal.AskNo.TheVariants as ask_no
use Rattle.list_rules.specs.declared.refusal.TokenNo.{TokenNo}
use Rattle.list_rules.specs.declared.refusal.TokenNo.TheVariants as token_no
use Rattle.list_rules.specs.declared.options.Number.{Number}
use Rattle.list_rules.specs.declared.options.Number.TheVariants as number
use Rattle.list_rules.specs.declared.options.Options.{Options}
use Rattle.list_rules.specs.Options.{QueryPairs, given, parameter_text, parameter_number, options_of, first_of, faults, options_fault, of_get}
use Rattle.list_rules.specs.Asking.{later_page, page_by, unless_fault, ask_of}
use Rattle.list_rules.specs.Tokens.{token_read}
use Rattle.json_obj.specs.declared.refusals.ObjNo.{ObjNo}
use Rattle.json_obj.specs.declared.refusals.ObjNo.TheVariants as object_no
use Rattle.route_req.specs.Texts as texts
use Rattle.route_req.specs.Asks.{is_watch, of_selector, of_list, of_object, of_text, wraps_memory, RefusesList, RefusesWatch, RefusesRead, RefusesObject, RefusesGet, RefusesRemove, RefusesCompact, RefusesTransact, Refuses}
use Rattle.route_req.specs.declared.places.Action.{Action}
use Rattle.route_req.specs.declared.places.Action.TheVariants.{Read, Create, Get, Replace, Remove, Compact, Transact}
use Rattle.route_req.specs.declared.transactions.TxTextNo.TheVariants as text_no
use Rattle.route_req.specs.declared.routing.RouteNo.{RouteNo}
use Rattle.route_req.specs.declared.routing.RouteNo.TheVariants as route_no

-- ---- selectors

-- a reading tells of memory alone, or of another fault
selector_told : (resource : Resource) (ns : Option (List ℕ)) (labels : Result (List Requirement) LabelNo) (fields : Result (List Term) FieldNo) (why : SelNo)
    → both_read resource ns labels fields ≡ Err why → (why ≡ select_no.Memory → ⊥) → of_selector why ≡ false
selector_told resource ns (Err label_no.Memory) fields why e other = absurd (other (cc))
selector_told resource ns (Err label) fields why e other = let same : select_no.Label label ≡ why = cc in ap of_selector (sym same)
selector_told resource ns (Ok labels) (Err field_no.Memory) why e other = absurd (other (cc))
selector_told resource ns (Ok labels) (Err field) why e other = let same : select_no.Field field ≡ why = cc in ap of_selector (sym same)
selector_told resource ns (Ok labels) (Ok fields) why e other = absurd (cc)

-- ---- options

-- a fault of the table is another one
first_step : (b : Bool) (x : AskNo) (rest : Option AskNo) (why : AskNo) → (if b then Some x else rest) ≡ Some why → of_list x ≡ false → (rest ≡ Some why → of_list why ≡ false) → of_list why ≡ false
first_step true x rest why e plain later = ap of_list (sym (same_Some x why e)) ∙ plain
first_step false x rest why e plain later = later e

first_told : (rows : List (Bool × AskNo)) (why : AskNo) → list_all (λ row. not (of_list row.1)) rows ≡ true → first_of rows ≡ Some why → of_list why ≡ false
first_told [] why all e = absurd (none-some why e)
first_told (row ∷ rows) why all e =
    let both = and_parts (not (of_list row.1)) (list_all (λ r. not (of_list r.1)) rows) all in
    first_step row.0 row.1 (first_of rows) why e (not-true (of_list row.1) both.0) (λ later. first_told rows why both.1 later)

-- so is a fault of a token
token_told : (s : Selection) (o : Options) (label field : List ℕ) (read : Result (ℕ × List ℕ) TokenNo) (why : AskNo)
    → later_page s o label field read ≡ Err why → (why ≡ ask_no.Memory → ⊥) → of_list why ≡ false
token_told s o label field (Ok place) why e other = absurd (cc)
token_told s o label field (Err token_no.Memory) why e other = absurd (other (cc))
token_told s o label field (Err token) why e other = let same : ask_no.BadContinue token ≡ why = cc in ap of_list (sym same)

page_told : (s : Selection) (o : Options) (label field : List ℕ) (token : Option (List ℕ)) (why : AskNo)
    → page_by s o label field token ≡ Err why → (why ≡ ask_no.Memory → ⊥) → of_list why ≡ false
page_told s o label field None why e other = absurd (cc)
page_told s o label field (Some token) why e other = token_told s o label field (token_read token s label field) why e other

fault_told : (fault : Option AskNo) (answer : Result ListAsk AskNo) (why : AskNo) → unless_fault fault answer ≡ Err why
    → (fault ≡ Some why → of_list why ≡ false) → (answer ≡ Err why → of_list why ≡ false) → of_list why ≡ false
fault_told (Some fault) answer why e by_fault by_answer = by_fault (cc)
fault_told None answer why e by_fault by_answer = by_answer e

list_told : (s : Selection) (params : QueryPairs) (why : AskNo) → ask_of s params ≡ Err why → (why ≡ ask_no.Memory → ⊥) → of_list why ≡ false
list_told s params why e other =
    let o : Options = options_of params in
    let page : Result ListAsk AskNo = page_by s o (parameter_text (codes "labelSelector") params) (parameter_text (codes "fieldSelector") params) (given (codes "continue") params) in
    fault_told (options_fault o) page why e
    (λ first. first_told (faults o) why refl first)
    (λ paged. page_told s o (parameter_text (codes "labelSelector") params) (parameter_text (codes "fieldSelector") params) (given (codes "continue") params) why paged other)

get_told : (n : Number) (why : AskNo) → of_get n ≡ Err why → of_list why ≡ false
get_told number.Refused why e = let same : ask_no.BadRevision ≡ why = cc in ap of_list (sym same)
get_told n why e = absurd (cc)

-- ---- objects

members_told : (bad_kind bad_metadata : Bool) (why : ObjNo) → (if bad_kind then Some object_no.WrongKind else (if bad_metadata then Some object_no.BadMeta else None)) ≡ Some why → of_object why ≡ false
members_told true bad_metadata why e = ap of_object (sym (same_Some object_no.WrongKind why e))
members_told false true why e = ap of_object (sym (same_Some object_no.BadMeta why e))
members_told false false why e = absurd (none-some why e)

item_told : (i : ℕ) (why : ObjNo) → of_object why ≡ false → of_text (text_no.BadObject i why) ≡ false
item_told i object_no.Memory e = absurd (cc)
item_told i why e = refl

object_told : (d : Data) (why : ObjNo) → texts.RefusesItem d why → of_object why ≡ false
object_told d why is = elim is [
  | inl c ↦ members_told _ _ why c.4
  | inr c ↦ members_told _ _ why c.5
]

-- ---- what is asked for

abbrev pub Placed : RouteNo → Type 0
Placed route_no.ForeignSite = ⊥
Placed route_no.MediaType = ⊥
Placed route_no.NoPath = ⊥
Placed route_no.NoMethod = ⊥
Placed fault = Unit {0}

-- what an action refuses is no want of memory within, and isn't for its path, its method, its site or its media type
abbrev pub IsPlain : RouteNo → Type 0
IsPlain fault = (wraps_memory fault ≡ false) × Placed fault

list_plain : (s : Selection) (params : QueryPairs) (fault : RouteNo) → RefusesList s params fault → IsPlain fault
list_plain s params (route_no.List (ask_no.BadContinue token)) is = (list_told s params (ask_no.BadContinue token) is (λ e. cc), tt)
list_plain s params (route_no.List ask_no.Memory) is = absurd is
list_plain s params (route_no.List why) is = (refl, tt)
list_plain s params route_no.Memory is = (refl, tt)
list_plain s params fault is = absurd is

watch_plain : (params : QueryPairs) (fault : RouteNo) → RefusesWatch params fault → IsPlain fault
watch_plain params (route_no.Watch why) is = (refl, tt)
watch_plain params fault is = absurd is

either_plain : (b : Bool) (s : Selection) (params : QueryPairs) (fault : RouteNo)
    → MatchBool b (RefusesWatch params fault) (RefusesList s params fault) → IsPlain fault
either_plain true s params fault is = watch_plain params fault is
either_plain false s params fault is = list_plain s params fault is

read_plain : (r : Resource) (ns : Option (List ℕ)) (params : QueryPairs) (fault : RouteNo) → RefusesRead r ns params fault → IsPlain fault
read_plain r ns params (route_no.Selector select_no.Memory) is = absurd is
read_plain r ns params (route_no.Selector why) is =
    let label = label_selector_of (parameter_text (codes "labelSelector") params) in
    let field = field_selector_of r (parameter_text (codes "fieldSelector") params) in
    (selector_told r ns label field why is.1 (λ e. cc), tt)
read_plain r ns params route_no.Memory is = (refl, tt)
read_plain r ns params fault is = either_plain (is_watch params) is.0 params fault is.2

body_plain : (r : Resource) (ns : List ℕ) (name : Option (List ℕ)) (body : List ℕ) (fault : RouteNo) → RefusesObject r ns name body fault → IsPlain fault
body_plain r ns name body (route_no.Object object_no.Memory) is = absurd is
body_plain r ns name body (route_no.Object why) is = (refl, tt)
body_plain r ns name body route_no.Memory is = (refl, tt)
body_plain r ns name body fault is = absurd is

get_plain : (params : QueryPairs) (fault : RouteNo) → RefusesGet params fault → IsPlain fault
get_plain params (route_no.List (ask_no.BadContinue token)) is =
    (get_told (parameter_number (given (codes "resourceVersion") params)) (ask_no.BadContinue token) is, tt)
get_plain params (route_no.List ask_no.Memory) is = absurd is
get_plain params (route_no.List why) is = (refl, tt)
get_plain params route_no.Memory is = (refl, tt)
get_plain params fault is = absurd is

remove_plain : (body : List ℕ) (fault : RouteNo) → RefusesRemove body fault → IsPlain fault
remove_plain body (route_no.Unserved option) is = (refl, tt)
remove_plain body route_no.Memory is = (refl, tt)
remove_plain body fault is = absurd is

text_plain : (body : List ℕ) (fault : RouteNo) → RefusesTransact body fault → IsPlain fault
text_plain body (route_no.Transaction (text_no.BadObject i why)) is = (item_told i why (object_told is.1 why is.4), tt)
text_plain body (route_no.Transaction text_no.Memory) is = absurd is
text_plain body (route_no.Transaction why) is = (refl, tt)
text_plain body route_no.Memory is = (refl, tt)
text_plain body fault is = absurd is

compact_plain : (params : QueryPairs) (fault : RouteNo) → RefusesCompact params fault → IsPlain fault
compact_plain params route_no.Operation is = (refl, tt)
compact_plain params fault is = absurd is

pub act_plain : (action : Action) (req : Req) (fault : RouteNo) → Refuses action req fault → IsPlain fault
act_plain (Read r ns) req fault is = read_plain r ns req.params fault is
act_plain (Create r ns) req fault is = body_plain r ns None req.body fault is
act_plain (Get r ns name) req fault is = get_plain req.params fault is
act_plain (Replace r ns name) req fault is = body_plain r ns (Some name) req.body fault is
act_plain (Remove r ns name) req fault is = remove_plain req.body fault is
act_plain Compact req fault is = compact_plain req.params fault is
act_plain Transact req fault is = text_plain req.body fault is
act_plain action req fault is = absurd is
