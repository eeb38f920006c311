-- The text of a transaction: a JSON list of writes.
use Rattle.std.specs.Prelude.{◌≡◌, ℕ, ◌<◌, ◌≤◌, ◌⊎◌, List, [], ◌∷◌, length, take, map, codes, Bool, false, ◌&&◌, Option, Some, None, is_some, option_and_then, if◌then◌else◌}
use Rattle.std.specs.List.{slice_get}
use Rattle.std.specs.Str.{bytes_eq}
use Rattle.serde_json.specs.Data.{Data}
use Rattle.serde_json.specs.Find.{get, as_str, as_array, as_object}
use Rattle.serde_json.specs.View.{items_of}
use Rattle.kube_meta.specs.Keys.{joined}
use Rattle.kube_meta.specs.Names.{is_namespace, is_object_name}
use Rattle.kube_meta.specs.declared.resources.Resource.{Resource}
use Rattle.kube_meta.specs.Resources.{of_plural}
use Rattle.json_obj.specs.declared.refusals.ObjNo.{ObjNo}
use Rattle.json_obj.specs.declared.refusals.ObjNo.TheVariants as object_no
use Rattle.json_obj.specs.Objects.{IsTextOf, value_refusal, members_refusal, IsObjectOf, Stores}
use Rattle.up_store.specs.declared.writes.WriteAsk.{WriteAsk}
use Rattle.up_store.specs.declared.writes.WriteAsk.TheVariants.{Create, Replace, Remove}
use Rattle.up_store.specs.Transactions.{target_of, IsFirstRepeat, AreTransaction}
use Rattle.route_req.specs.declared.transactions.Operation.{Operation}
use Rattle.route_req.specs.declared.transactions.Operation.TheVariants as operation
use Rattle.up_store.specs.declared.transactions.TxNo.{TxNo}
use Rattle.up_store.specs.declared.transactions.TxNo.TheVariants as tx_no
use Rattle.route_req.specs.declared.transactions.ItemNo.{ItemNo}
use Rattle.route_req.specs.declared.transactions.ItemNo.TheVariants as item_no
use Rattle.route_req.specs.declared.transactions.TxTextNo.{TxTextNo}
use Rattle.route_req.specs.declared.transactions.TxTextNo.TheVariants.{NotJson, Float, TooDeep, NotList, Empty, TooManyItems, BadItem, BadObject, Repeated, Memory}

-- ---- the members of an item

-- what an item says at the member `name`, if it has that and it is a text
abbrev pub item_text : List ℕ → Data → Option (List ℕ)
item_text name d = option_and_then as_str (get name d)

-- the operation that a word stands for; capitals count
abbrev pub operation_named : List ℕ → Option Operation
operation_named text =
    if bytes_eq text (codes "create") then Some operation.Create else
    (if bytes_eq text (codes "replace") then Some operation.Replace else
    (if bytes_eq text (codes "remove") then Some operation.Remove else None))

-- the text, if it passes the test
abbrev pub checked : (List ℕ → Bool) → List ℕ → Option (List ℕ)
checked test text = if test text then Some text else None

-- the value, if it is an object
abbrev pub checked_object : Data → Option Data
checked_object d = if is_some (as_object d) then Some d else None

-- which write an item is, by its member `op`
abbrev pub operation_in : Data → Option Operation
operation_in d = option_and_then operation_named (item_text (codes "op") d)

-- of which resource an item's object is, by its member `resource`: the plural, as in paths
abbrev pub item_resource : Data → Option Resource
item_resource d = option_and_then of_plural (item_text (codes "resource") d)

-- in which namespace an item's object is, by its member `namespace`, which has to be in the grammar
abbrev pub namespace_in : Data → Option (List ℕ)
namespace_in d = option_and_then (checked is_namespace) (item_text (codes "namespace") d)

-- the name of the object that an item replaces or removes, by its member `name`, which has to be in the grammar
abbrev pub item_name : Data → Option (List ℕ)
item_name d = option_and_then (checked is_object_name) (item_text (codes "name") d)

-- what an item creates, or puts in place of another: its member `object`, which has to be a JSON object
abbrev pub object_in : Data → Option Data
object_in d = option_and_then checked_object (get (codes "object") d)

-- the members that an operation needs beside its resource and namespace
abbrev pub has_rest : Option Operation → Data → Bool
has_rest None d = false
has_rest (Some operation.Create) d = is_some (object_in d)
has_rest (Some operation.Replace) d = is_some (item_name d) && is_some (object_in d)
has_rest (Some operation.Remove) d = is_some (item_name d)

-- each member that it needs is there, and is what it has to be
abbrev pub is_item : Data → Bool
is_item d = is_some (item_resource d) && (is_some (namespace_in d) && has_rest (operation_in d) d)

-- ---- what an item asks for

-- the item is of a create of this object, in this namespace
pub record Creates (d : Data) (r : Resource) (ns : List ℕ) (o : Data) : Type 0 where
  pub op : operation_in d ≡ Some operation.Create
  pub resource : item_resource d ≡ Some r
  pub namespace : namespace_in d ≡ Some ns
  pub «object» : object_in d ≡ Some o

-- the item is of a replacement of the object with this name by this one, in this namespace
pub record Replaces (d : Data) (r : Resource) (ns name : List ℕ) (o : Data) : Type 0 where
  pub op : operation_in d ≡ Some operation.Replace
  pub resource : item_resource d ≡ Some r
  pub namespace : namespace_in d ≡ Some ns
  pub name_is : item_name d ≡ Some name
  pub «object» : object_in d ≡ Some o

-- the write that an item asks for; its members say what the method, the path and the body of a single write say
abbrev pub AsksItem : Data → WriteAsk → Type 0
AsksItem d (Create r obj) =
    (ns : List ℕ) × (o : Data) × Creates d r ns o × (members_refusal r ns None o ≡ None) × IsObjectOf r ns o obj
AsksItem d (Replace r obj given) =
    (ns : List ℕ) × (name : List ℕ) × (o : Data) × Replaces d r ns name o
    × (members_refusal r ns (Some name) o ≡ None) × Stores r ns o (obj, given)
AsksItem d (Remove r key) =
    (ns : List ℕ) × (name : List ℕ) × (operation_in d ≡ Some operation.Remove) × (item_resource d ≡ Some r)
    × (namespace_in d ≡ Some ns) × (item_name d ≡ Some name) × (key ≡ joined ns name)

-- an item's object can't be stored there, because of its kind or its metadata, as the body of a single write couldn't
abbrev pub RefusesItem : Data → ObjNo → Type 0
RefusesItem d why =
    ((r : Resource) × (ns : List ℕ) × (o : Data) × Creates d r ns o × (members_refusal r ns None o ≡ Some why))
    ⊎ ((r : Resource) × (ns : List ℕ) × (name : List ℕ) × (o : Data) × Replaces d r ns name o × (members_refusal r ns (Some name) o ≡ Some why))

-- each item asks for the write at its place
abbrev pub AskAll : List Data → List WriteAsk → Type 0
AskAll [] [] = Unit {0}
AskAll (d ∷ ds) (ask ∷ asks) = AsksItem d ask × AskAll ds asks
AskAll ds asks = ⊥

-- ---- the whole text

-- the body is one JSON text, of a value with no float that isn't too deep
abbrev pub IsJsonText : List ℕ → Data → Type 0
IsJsonText body d = IsTextOf body d × (value_refusal d ≡ None)

-- the body is one JSON text, a list of these items; it has no float and isn't too deep
abbrev pub IsList : List ℕ → List Data → Type 0
IsList body ds = (d : Data) × IsJsonText body d × (as_array d ≡ Some (items_of ds))

-- the body is one JSON text, a list of these items, of which there are 1 to 64; it has no float and isn't too deep
abbrev pub IsListOfItems : List ℕ → List Data → Type 0
IsListOfItems body ds = IsList body ds × (1 ≤ length ds) × (length ds ≤ 64)

-- the items before place i ask for writes, and this one stands there
abbrev pub ReachesItem : List Data → ℕ → Data → Type 0
ReachesItem ds i d = ((asks : List WriteAsk) × AskAll (take i ds) asks) × (slice_get ds i ≡ Some d)

-- the body lists these writes, each of another object, in this order
abbrev pub AsksTransaction : List ℕ → List WriteAsk → Type 0
AsksTransaction body asks = (ds : List Data) × IsListOfItems body ds × AskAll ds asks × AreTransaction asks

-- Why the text of a transaction is refused: the first of these that holds, in the order of `TxTextNo`.
abbrev pub RefusesText : List ℕ → TxTextNo → Type 0
RefusesText body NotJson = (d : Data) → ¬ (IsTextOf body d)
RefusesText body Float = (d : Data) × IsTextOf body d × (value_refusal d ≡ Some object_no.Float)
RefusesText body TooDeep = (d : Data) × IsTextOf body d × (value_refusal d ≡ Some object_no.TooDeep)
RefusesText body NotList = (d : Data) × IsJsonText body d × (as_array d ≡ None)
RefusesText body Empty = IsList body []
RefusesText body TooManyItems = (ds : List Data) × IsList body ds × (64 < length ds)
RefusesText body (BadItem i) = (ds : List Data) × (d : Data) × IsListOfItems body ds × ReachesItem ds i d × (is_item d ≡ false)
RefusesText body (BadObject i why) = (ds : List Data) × (d : Data) × IsListOfItems body ds × ReachesItem ds i d × RefusesItem d why
RefusesText body (Repeated i) =
    (ds : List Data) × (asks : List WriteAsk) × IsListOfItems body ds × AskAll ds asks × IsFirstRepeat (map target_of asks) i
RefusesText body Memory = Unit {0}

-- ---- how the refusals of the parts are told

abbrev pub placed : ℕ → ItemNo → TxTextNo
placed i item_no.Bad = BadItem i
placed i (item_no.Object why) = BadObject i why
placed i item_no.Memory = Memory

-- of the items alone
abbrev pub RefusesItems : List Data → TxTextNo → Type 0
RefusesItems ds (BadItem i) = (d : Data) × ReachesItem ds i d × (is_item d ≡ false)
RefusesItems ds (BadObject i why) = (d : Data) × ReachesItem ds i d × RefusesItem d why
RefusesItems ds Memory = Unit {0}
RefusesItems ds fault = ⊥

abbrev pub not_read : ObjNo → TxTextNo
not_read object_no.NotJson = NotJson
not_read object_no.Float = Float
not_read object_no.TooDeep = TooDeep
not_read fault = Memory

abbrev pub not_distinct : TxNo → TxTextNo
not_distinct tx_no.Empty = Empty
not_distinct tx_no.TooManyItems = TooManyItems
not_distinct (tx_no.Repeated i) = Repeated i
