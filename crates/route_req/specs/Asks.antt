-- What a request asks for, or why it is refused: for whom it was made, by the media type of a write's body and by a dry run;
-- then by its path, its method, its selectors, its options and its body, in this order.
use Rattle.std.specs.Prelude.{◌≡◌, ◌⊎◌, ◌==◌, ◌&&◌, ◌||◌, ℕ, List, length, Bool, true, false, not, Option, Some, None, is_some, Result, Ok, Err, codes, option_map, if◌then◌else◌}
use Rattle.std.specs.Bool.{MatchBool}
use Rattle.std.specs.Option.{option_map_or}
use Rattle.std.specs.Str.{bytes_eq}
use Rattle.serde_json.specs.Data.{Data}
use Rattle.serde_json.specs.Find.{get}
use Rattle.kube_meta.specs.Keys.{joined}
use Rattle.kube_meta.specs.Revisions.{revision_of}
use Rattle.kube_meta.specs.declared.revisions.RevNo.{RevNo}
use Rattle.kube_meta.specs.declared.resources.Resource.{Resource}
use Rattle.http_read.specs.Queries.{first_value, is_truth}
use Rattle.http_read.specs.declared.request.Req.{Req}
use Rattle.select_all.specs.Reading.{IsRead, selection_of}
use Rattle.select_all.specs.declared.selection.Selection.{Selection}
use Rattle.select_all.specs.declared.selection.SelNo.{SelNo}
use Rattle.select_all.specs.declared.selection.SelNo.TheVariants as select_no
use Rattle.label_select.specs.declared.refusal.LabelNo.TheVariants as label_no
use Rattle.field_select.specs.declared.refusal.FieldNo.TheVariants as field_no
use Rattle.list_rules.specs.Options.{QueryPairs, given, parameter_text, parameter_number, of_get}
use Rattle.list_rules.specs.Asking.{ask_of}
use Rattle.list_rules.specs.declared.refusal.AskNo.{AskNo}
use Rattle.list_rules.specs.declared.refusal.AskNo.TheVariants as ask_no
use Rattle.list_rules.specs.declared.refusal.TokenNo.TheVariants as token_no
use Rattle.watch_rules.specs.Options.{query_fault, MeansWatch}
use Rattle.json_obj.specs.Objects.{IsTextOf, refusal, IsObjectOf, Stores}
use Rattle.json_obj.specs.declared.refusals.ObjNo.{ObjNo}
use Rattle.json_obj.specs.declared.refusals.ObjNo.TheVariants as object_no
use Rattle.up_store.specs.declared.writes.WriteAsk.TheVariants as write
use Rattle.up_store.specs.declared.operations.Operate.TheVariants as operate
use Rattle.route_req.specs.Places.{Names, action_at, MayLackMemory}
use Rattle.route_req.specs.Texts.{AsksTransaction, RefusesText}
use Rattle.route_req.specs.declared.places.Place.{Place}
use Rattle.route_req.specs.declared.places.Action.{Action}
use Rattle.route_req.specs.declared.places.Action.TheVariants.{Describe, Measure, Read, Create, Get, Replace, Remove, Cut, Compact, Restart, Disconnect, Transact}
use Rattle.route_req.specs.declared.transactions.TxTextNo.{TxTextNo}
use Rattle.route_req.specs.declared.transactions.TxTextNo.TheVariants as text_no
use Rattle.route_req.specs.declared.routing.Routed.{Routed}
use Rattle.route_req.specs.declared.routing.Routed.TheVariants as routed
use Rattle.route_req.specs.declared.routing.RouteNo.{RouteNo}
use Rattle.route_req.specs.declared.routing.RouteNo.TheVariants as route_no
use Rattle.route_req.specs.declared.unserved.Unserved.{Unserved}
use Rattle.route_req.specs.declared.unserved.Unserved.TheVariants.{DryRun, Preconditions}

-- a read of a collection is a watch exactly where the truth parameter `watch` is true
abbrev pub is_watch : QueryPairs → Bool
is_watch params = option_map_or is_truth (first_value (codes "watch") params) false

-- the texts of the two selectors stand for this selection: the one by the grammar of label selectors, the other by that of
-- field selectors
abbrev pub IsSelection : Resource → Option (List ℕ) → QueryPairs → Selection → Type 0
IsSelection r ns params s = IsRead r ns (parameter_text (codes "labelSelector") params) (parameter_text (codes "fieldSelector") params) s

-- the texts of the two selectors stand for no selection; the fault is the first one from the left, of the label selector's
-- text or, where that is one, of the field selector's
abbrev pub HasSelectorFault : Resource → Option (List ℕ) → QueryPairs → SelNo → Type 0
HasSelectorFault r ns params fault =
    ((s : Selection) → ¬ (IsSelection r ns params s))
    × (selection_of r ns (parameter_text (codes "labelSelector") params) (parameter_text (codes "fieldSelector") params) ≡ Err fault)

-- the revision of a compaction
abbrev pub compacts_at : QueryPairs → Option (Result ℕ RevNo)
compacts_at params = option_map revision_of (given (codes "revision") params)

-- why a body holds no object for the path
abbrev pub HoldsNoObject : Resource → List ℕ → Option (List ℕ) → List ℕ → ObjNo → Type 0
HoldsNoObject r ns name body object_no.NotJson = (d : Data) → ¬ (IsTextOf body d)
HoldsNoObject r ns name body fault = (d : Data) × IsTextOf body d × (refusal r ns name d ≡ Some fault)

-- ---- options of writes that aren't served

-- the option of a deletion that a value has as a member, the first of them: to try it alone, or to do it only to an object
-- of one revision or uid
abbrev pub option_in : Data → Option Unserved
option_in d =
    if is_some (get (codes "dryRun") d) then Some DryRun else
    (if is_some (get (codes "preconditions") d) then Some Preconditions else None)

-- a body asks for this option: it is one JSON text, of a value that has it
abbrev pub AsksOption : List ℕ → Unserved → Type 0
AsksOption body option = (d : Data) × IsTextOf body d × (option_in d ≡ Some option)

-- a body asks for none of them
abbrev pub AsksNoOption : List ℕ → Type 0
AsksNoOption body = (d : Data) → IsTextOf body d → option_in d ≡ None

-- ---- what is asked for at a place that has the method

-- a list of this selection, of the page and at the revision that the parameters ask for
abbrev pub AsksList : Selection → QueryPairs → Routed → Type 0
AsksList s params (routed.List ask) = ask_of s params ≡ Ok ask
AsksList s params answer = ⊥

-- a watch of this selection, which starts and ends as the parameters ask for
abbrev pub AsksWatch : Selection → QueryPairs → Routed → Type 0
AsksWatch s params (routed.Watch ask) = MeansWatch s params ask
AsksWatch s params answer = ⊥

-- a read of a resource's collection: a watch or a list of what its two selectors select there
abbrev pub AsksRead : Resource → Option (List ℕ) → QueryPairs → Routed → Type 0
AsksRead r ns params answer =
    (s : Selection) × IsSelection r ns params s
    × MatchBool (is_watch params) (AsksWatch s params answer) (AsksList s params answer)

-- a create, in the path's namespace, of the object that the body holds: it has a name, and gives no revision
abbrev pub AsksCreate : Resource → List ℕ → List ℕ → Routed → Type 0
AsksCreate r ns body (routed.Write (write.Create resource obj)) =
    (resource ≡ r) × (d : Data) × IsTextOf body d × (refusal r ns None d ≡ None) × IsObjectOf r ns d obj
AsksCreate r ns body answer = ⊥

-- a replacement of the object that the path names by the one in the body, which may give the revision that was seen
abbrev pub AsksReplace : Resource → List ℕ → List ℕ → List ℕ → Routed → Type 0
AsksReplace r ns name body (routed.Write (write.Replace resource obj revision)) =
    (resource ≡ r) × (d : Data) × IsTextOf body d × (refusal r ns (Some name) d ≡ None) × Stores r ns d (obj, revision)
AsksReplace r ns name body answer = ⊥

-- a get of the object that the path names, by `resourceVersion` alone; `watch` and the body are ignored
abbrev pub AsksGet : Resource → List ℕ → List ℕ → QueryPairs → Routed → Type 0
AsksGet r ns name params (routed.Get ask) =
    (ask.resource ≡ r) × (ask.key ≡ joined ns name)
    × (of_get (parameter_number (given (codes "resourceVersion") params)) ≡ Ok ask.meaning)
AsksGet r ns name params answer = ⊥

-- a compaction up to the revision in the parameter `revision`; the body is ignored
abbrev pub AsksCompact : QueryPairs → Routed → Type 0
AsksCompact params (routed.Operate (operate.Compact at)) = compacts_at params ≡ Some (Ok at)
AsksCompact params answer = ⊥

-- a transaction of the writes that the body lists
abbrev pub AsksTransact : List ℕ → Routed → Type 0
AsksTransact body (routed.Transact transaction) = AsksTransaction body transaction
AsksTransact body answer = ⊥

-- a removal of the object that the path names, whatever its revision; its body asks for no option that isn't served, and is
-- ignored otherwise
abbrev pub AsksRemove : Resource → List ℕ → List ℕ → List ℕ → Routed → Type 0
AsksRemove r ns name body answer = AsksNoOption body × (answer ≡ routed.Write (write.Remove r (joined ns name)))

-- what a request is for, of which its path and its method have said the action already
abbrev pub Asks : Action → Req → Routed → Type 0
Asks (Describe text) req answer = answer ≡ routed.Describe text
Asks Measure req answer = answer ≡ routed.Metrics
Asks (Read r ns) req answer = AsksRead r ns req.params answer
Asks (Create r ns) req answer = AsksCreate r ns req.body answer
Asks (Get r ns name) req answer = AsksGet r ns name req.params answer
Asks (Replace r ns name) req answer = AsksReplace r ns name req.body answer
Asks (Remove r ns name) req answer = AsksRemove r ns name req.body answer
Asks Cut req answer = answer ≡ routed.Operate operate.Cut
Asks Compact req answer = AsksCompact req.params answer
Asks Restart req answer = answer ≡ routed.Operate operate.Restart
Asks Disconnect req answer = answer ≡ routed.Operate operate.Disconnect
Asks Transact req answer = AsksTransact req.body answer

-- ---- why it is refused there; want of memory may come wherever some is taken

-- how the refusals of the parts are told
abbrev pub refused_selector : SelNo → RouteNo
refused_selector select_no.Memory = route_no.Memory
refused_selector fault = route_no.Selector fault

abbrev pub refused_list : AskNo → RouteNo
refused_list ask_no.Memory = route_no.Memory
refused_list fault = route_no.List fault

abbrev pub refused_transaction : TxTextNo → RouteNo
refused_transaction text_no.Memory = route_no.Memory
refused_transaction fault = route_no.Transaction fault

-- why a list of this selection is refused: for its options or its token, or for want of memory
abbrev pub RefusesList : Selection → QueryPairs → RouteNo → Type 0
RefusesList s params (route_no.List ask_no.Memory) = ⊥
RefusesList s params (route_no.List fault) = ask_of s params ≡ Err fault
RefusesList s params route_no.Memory = Unit {0}
RefusesList s params fault = ⊥

-- why a watch is refused: for the first fault of its options, whose reading takes no memory
abbrev pub RefusesWatch : QueryPairs → RouteNo → Type 0
RefusesWatch params (route_no.Watch fault) = query_fault params ≡ Some fault
RefusesWatch params fault = ⊥

-- why a read of a collection is refused: for its selectors first, then for the options of the watch or of the list
abbrev pub RefusesRead : Resource → Option (List ℕ) → QueryPairs → RouteNo → Type 0
RefusesRead r ns params (route_no.Selector select_no.Memory) = ⊥
RefusesRead r ns params (route_no.Selector fault) = HasSelectorFault r ns params fault
RefusesRead r ns params route_no.Memory = Unit {0}
RefusesRead r ns params fault =
    (s : Selection) × IsSelection r ns params s
    × MatchBool (is_watch params) (RefusesWatch params fault) (RefusesList s params fault)

-- how the refusal of a body is told
abbrev pub refused_object : ObjNo → RouteNo
refused_object object_no.Memory = route_no.Memory
refused_object fault = route_no.Object fault

-- why a create or a replacement isn't tried: its body holds no object for the path, or there was no memory
abbrev pub RefusesObject : Resource → List ℕ → Option (List ℕ) → List ℕ → RouteNo → Type 0
RefusesObject r ns name body (route_no.Object object_no.Memory) = ⊥
RefusesObject r ns name body (route_no.Object fault) = HoldsNoObject r ns name body fault
RefusesObject r ns name body route_no.Memory = Unit {0}
RefusesObject r ns name body fault = ⊥

-- why a get isn't tried: its `resourceVersion` is no revision, or there was no memory
abbrev pub RefusesGet : QueryPairs → RouteNo → Type 0
RefusesGet params (route_no.List ask_no.Memory) = ⊥
RefusesGet params (route_no.List fault) = of_get (parameter_number (given (codes "resourceVersion") params)) ≡ Err fault
RefusesGet params route_no.Memory = Unit {0}
RefusesGet params fault = ⊥

-- why a removal isn't tried: its body asks for an option that isn't served, or there was no memory
abbrev pub RefusesRemove : List ℕ → RouteNo → Type 0
RefusesRemove body (route_no.Unserved option) = AsksOption body option
RefusesRemove body route_no.Memory = Unit {0}
RefusesRemove body fault = ⊥

-- why a compaction isn't tried: the parameter `revision` is absent or is no revision
abbrev pub RefusesCompact : QueryPairs → RouteNo → Type 0
RefusesCompact params route_no.Operation = (at : ℕ) → ¬ (compacts_at params ≡ Some (Ok at))
RefusesCompact params fault = ⊥

-- why a transaction isn't tried: the first fault of its text, or want of memory
abbrev pub RefusesTransact : List ℕ → RouteNo → Type 0
RefusesTransact body (route_no.Transaction text_no.Memory) = ⊥
RefusesTransact body (route_no.Transaction fault) = RefusesText body fault
RefusesTransact body route_no.Memory = Unit {0}
RefusesTransact body fault = ⊥

-- why a request is refused although its path and its method say an action; what describes the server, metrics, a cut, a
-- restart and a disconnection never are
abbrev pub Refuses : Action → Req → RouteNo → Type 0
Refuses (Read r ns) req fault = RefusesRead r ns req.params fault
Refuses (Create r ns) req fault = RefusesObject r ns None req.body fault
Refuses (Get r ns name) req fault = RefusesGet req.params fault
Refuses (Replace r ns name) req fault = RefusesObject r ns (Some name) req.body fault
Refuses (Remove r ns name) req fault = RefusesRemove req.body fault
Refuses Compact req fault = RefusesCompact req.params fault
Refuses Transact req fault = RefusesTransact req.body fault
Refuses action req fault = ⊥

-- ---- the path before the method, and both before all else

-- what the path names and the method asks for there
abbrev pub AsksAtPath : Req → Routed → Type 0
AsksAtPath req answer =
    (place : Place) × (action : Action) × Names req.path place × (action_at place req.method ≡ Some action) × Asks action req answer

-- no place has the path; or the place that has it hasn't the method; or there was no memory; or what the method asks for
-- there is refused
abbrev pub RefusesAtPath : Req → RouteNo → Type 0
RefusesAtPath req route_no.NoPath = (place : Place) → ¬ (Names req.path place)
RefusesAtPath req route_no.NoMethod = (place : Place) × Names req.path place × (action_at place req.method ≡ None)
RefusesAtPath req route_no.Memory = MayLackMemory req.path
RefusesAtPath req route_no.ForeignSite = ⊥
RefusesAtPath req route_no.MediaType = ⊥
RefusesAtPath req fault =
    (place : Place) × (action : Action) × Names req.path place × (action_at place req.method ≡ Some action) × Refuses action req fault

-- ---- what stands before the path

-- the methods of requests that may change something
abbrev pub is_write : List ℕ → Bool
is_write method = bytes_eq method (codes "POST") || bytes_eq method (codes "PUT") || bytes_eq method (codes "DELETE")

-- a write has a body, of a media type that isn't read
abbrev pub has_unread_body : Req → Bool
has_unread_body req = is_write req.method && req.unreadable && not (length req.body == 0)

-- a write is to be tried alone: its query has the parameter `dryRun`, whatever its value
abbrev pub is_dry_run : Req → Bool
is_dry_run req = is_write req.method && is_some (first_value (codes "dryRun") req.params)

-- why a request is refused whatever its path, the first reason that holds: it was made for another site, its body can't be
-- read, or it is to be tried alone
abbrev pub first_refusal : Req → Option RouteNo
first_refusal req =
    if req.foreign then Some route_no.ForeignSite else
    (if has_unread_body req then Some route_no.MediaType else
    (if is_dry_run req then Some (route_no.Unserved DryRun) else None))

-- ---- the whole

-- the route of a request that isn't refused whatever its path: what its path names and its method asks for there
abbrev pub IsRoute : Req → Routed → Type 0
IsRoute req answer = (first_refusal req ≡ None) × AsksAtPath req answer

-- it is refused whatever its path; or it isn't, and the first of the other reasons holds
abbrev pub IsRefusal : Req → RouteNo → Type 0
IsRefusal req fault = (first_refusal req ≡ Some fault) ⊎ ((first_refusal req ≡ None) × RefusesAtPath req fault)

-- ---- want of memory is told by itself, and is no reason within another refusal

-- the refusal of a selection is want of memory: of its labels, of its fields, or of the whole
abbrev pub of_selector : SelNo → Bool
of_selector (select_no.Label label_no.Memory) = true
of_selector (select_no.Field field_no.Memory) = true
of_selector select_no.Memory = true
of_selector fault = false

-- the refusal of a list's options is want of memory, be it in reading the token
abbrev pub of_list : AskNo → Bool
of_list (ask_no.BadContinue token_no.Memory) = true
of_list ask_no.Memory = true
of_list fault = false

-- the refusal of a body's object is want of memory
abbrev pub of_object : ObjNo → Bool
of_object object_no.Memory = true
of_object fault = false

-- the refusal of a transaction's text is want of memory, be it for the object of an item
abbrev pub of_text : TxTextNo → Bool
of_text (text_no.BadObject index object_no.Memory) = true
of_text text_no.Memory = true
of_text fault = false

-- the refusal tells of another reason, within which is want of memory
abbrev pub wraps_memory : RouteNo → Bool
wraps_memory (route_no.Selector fault) = of_selector fault
wraps_memory (route_no.List fault) = of_list fault
wraps_memory (route_no.Object fault) = of_object fault
wraps_memory (route_no.Transaction fault) = of_text fault
wraps_memory fault = false
