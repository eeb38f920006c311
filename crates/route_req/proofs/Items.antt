-- The writes that items ask for, one item after the other, and what is told of a text whose items don't all ask for one.
use Rattle.std.proofs.Common.{◌≡◌, ℕ, suc, ◌+◌, ◌<◌, List, [], ◌∷◌, ◌++◌, length, map, take, get_or, false, Some, Result, Err, option_map, refl, sym, ap, subst, ◌∙◌, slice_get, arith}
use Rattle.std.proofs.lemmas.List.{map_more, take-map}
use Rattle.std.proofs.lemmas.Option.{slice_get-map, slice_get_read}
use Rattle.serde_json.specs.Data.{Data}
use Rattle.serde_json.specs.View.{view}
use Rattle.serde_json.specs.declared.value.Value.{Value}
use Rattle.json_obj.specs.declared.refusals.ObjNo.{ObjNo}
use Rattle.up_store.specs.Transactions.{target_of, IsFirstRepeat}
use Rattle.up_store.specs.declared.writes.WriteAsk.{WriteAsk}
use Rattle.up_store.specs.declared.transactions.TxNo.{TxNo}
use Rattle.up_store.specs.declared.transactions.TxNo.TheVariants as tx_no
use Rattle.route_req.specs.declared.transactions.ItemNo.{ItemNo}
use Rattle.route_req.specs.declared.transactions.ItemNo.TheVariants as item_no
use Rattle.route_req.specs.Texts.{AsksItem, RefusesItem, is_item, AskAll, IsListOfItems, RefusesItems, RefusesText, placed, not_distinct}

-- one item more
pub AskAll-push : (ds : List Data) (asks : List WriteAsk) (d : Data) (ask : WriteAsk) →
    AskAll ds asks → AsksItem d ask → AskAll (ds ++ d ∷ []) (asks ++ ask ∷ [])
AskAll-push [] [] d ask before this = (this, tt)
AskAll-push (x ∷ ds) (a ∷ asks) d ask before this = (before.0, AskAll-push ds asks d ask before.1 this)
AskAll-push ds asks d ask before this = absurd before

-- there are as many writes as items
pub AskAll-length : (ds : List Data) (asks : List WriteAsk) → AskAll ds asks → length ds ≡ length asks
AskAll-length [] [] all = refl
AskAll-length (d ∷ ds) (a ∷ asks) all = ap (λ n. suc n) (AskAll-length ds asks all.1)
AskAll-length ds asks all = absurd all

-- ---- along the values

-- the data at a place
pub data_at : (values : List Value) (i : ℕ) (v : Value) → i < length values → v ≡ get_or values i v → slice_get (map view values) i ≡ Some (view v)
data_at values i v h e = slice_get-map view values i ∙ ap (option_map view) (slice_get_read values (length values) i v refl h e)

-- a turn of the loop
pub AskAll-next : (values : List Value) (i : ℕ) (v : Value) (asks asks' : List WriteAsk) (ask : WriteAsk)
    → i < length values → v ≡ get_or values i v → AskAll (map view (take i values)) asks → AsksItem (view v) ask → asks' ≡ asks ++ ask ∷ []
    → AskAll (map view (take (i + 1) values)) asks'
AskAll-next values i v asks asks' ask h e before this pushed =
    let more : map view (take (i + 1) values) ≡ map view (take i values) ++ view v ∷ [] =
    map_more view values i v h ∙ ap (λ x. map view (take i values) ++ view x ∷ []) (sym e) in
    subst (λ ds. AskAll ds asks') (sym more) (subst (λ all. AskAll (map view (take i values) ++ view v ∷ []) all) (sym pushed) (AskAll-push (map view (take i values)) asks (view v) ask before this))

-- an item that is refused at its place, the items before it asking for writes
pub RefusesItems-placed : (values : List Value) (i : ℕ) (v : Value) (asks : List WriteAsk)
    → i < length values → v ≡ get_or values i v → AskAll (map view (take i values)) asks → (why : ItemNo)
    → (◌≡◌ {A = Result WriteAsk ItemNo} (Err why) (Err item_no.Bad) → is_item (view v) ≡ false)
    → ((fault : ObjNo) → ◌≡◌ {A = Result WriteAsk ItemNo} (Err why) (Err (item_no.Object fault)) → RefusesItem (view v) fault)
    → RefusesItems (map view values) (placed i why)
RefusesItems-placed values i v asks h e before item_no.Bad bad refused =
    (view v, ((asks, subst (λ ds. AskAll ds asks) (sym (take-map view i values)) before), data_at values i v h e), bad refl)
RefusesItems-placed values i v asks h e before (item_no.Object fault) bad refused =
    (view v, ((asks, subst (λ ds. AskAll ds asks) (sym (take-map view i values)) before), data_at values i v h e), refused fault refl)
RefusesItems-placed values i v asks h e before item_no.Memory bad refused = tt

-- ---- the whole

-- writes that are no transaction are refused for what is told
pub RefusesText-not_distinct : (body : List ℕ) (ds : List Data) (asks : List WriteAsk) → IsListOfItems body ds → AskAll ds asks → (why : TxNo)
    → (◌≡◌ {A = Result (List WriteAsk) TxNo} (Err why) (Err tx_no.Empty) → asks ≡ [])
    → (◌≡◌ {A = Result (List WriteAsk) TxNo} (Err why) (Err tx_no.TooManyItems) → 64 < length asks)
    → ((i : ℕ) → ◌≡◌ {A = Result (List WriteAsk) TxNo} (Err why) (Err (tx_no.Repeated i)) → IsFirstRepeat (map target_of asks) i)
    → RefusesText body (not_distinct why)
RefusesText-not_distinct body ds asks is all tx_no.Empty empty many twice =
    let none = ap length (empty refl) in
    absurd (omega (arith, is.1, AskAll-length ds asks all, none))
RefusesText-not_distinct body ds asks is all tx_no.TooManyItems empty many twice =
    absurd (omega (arith, is.2, AskAll-length ds asks all, many refl))
RefusesText-not_distinct body ds asks is all (tx_no.Repeated i) empty many twice = (ds, asks, is, all, twice i refl)
