-- The index and the map of lanes agree, and numbers that were not given out are free.
use Rattle.std.proofs.Common.{◌≡◌, ℕ, Bool, true, false, cond, List, [], ◌∷◌, map, Option, Some, None, nat_lt, not, ◌&&◌, option_map, refl, sym, ap, ◌∙◌}
use Rattle.std.specs.Prelude.{IsTrue, ◌||◌, nat_eq}
use Rattle.std.specs.Map.{lookup, set_value}
use Rattle.std.specs.Map.Calls.{RetainsPairs}
use Rattle.std.proofs.lemmas.Map.Steps.{set_value_same}
use Rattle.kube_meta.specs.declared.objects.Obj.{Obj}
use Rattle.select_all.specs.declared.selection.Selection.{Selection}
use Rattle.select_all.specs.Selecting.{holds}
use Rattle.select_all.specs.Streams.{TransitionData, object_of}
use Rattle.event_ring.specs.Events.{EventRows}
use Rattle.kube_meta.specs.Rows.{RowData}
use Rattle.watch_lane.specs.Index.{IndexData, is_listed, is_touched, lane_at}
use Rattle.watch_lane.proofs.IndexLemmas.{event_touches}
use Rattle.cache_hub.specs.OpenLanes.{OpenLaneData, AreChanged, IsIndexed, open_at}
use Rattle.cache_hub.specs.Due.{due, due_in, due_at, touches, transition_of}
use Rattle.cache_hub.proofs.SendLemmas.{none_is_some}
use Rattle.cache_hub.proofs.WaitingLemmas.{by_test}

abbrev pub selection_in : Option OpenLaneData → Option Selection
selection_in o = option_map (λ l. l.lane.selection) o

-- ---- values that were all written

pub mapped_lookup : (change : OpenLaneData → OpenLaneData) (test : ℕ → Bool) (lanes : List (ℕ × OpenLaneData)) → lookup test (map (λ e. (e.0, change e.1)) lanes) ≡ option_map change (lookup test lanes)
mapped_lookup change test [] = refl
mapped_lookup change test (e ∷ lanes) = by (test e.0) (mapped_lookup change test lanes)
  where
    by : (b : Bool) → lookup test (map (λ e. (e.0, change e.1)) lanes) ≡ option_map change (lookup test lanes) →
        cond b (Some (change e.1)) (lookup test (map (λ e. (e.0, change e.1)) lanes)) ≡ option_map change (cond b (Some e.1) (lookup test lanes))
    by true more = refl
    by false more = more

pub changed_by_map : (change : OpenLaneData → OpenLaneData) (lanes new : List (ℕ × OpenLaneData)) → new ≡ map (λ e. (e.0, change e.1)) lanes → AreChanged change lanes new
changed_by_map change lanes new is = λ id. ap (λ xs. open_at xs id) is ∙ mapped_lookup change (nat_eq id) lanes

-- ---- a lane that no event touches is told nothing

untouched : (s : Selection) (event : EventRows) → (holds s (object_of event.before) || holds s (object_of event.now)) ≡ false → transition_of s event ≡ None
untouched s event neither = by (holds s (object_of event.before)) (holds s (object_of event.now)) refl refl neither
  where
    by : (before now : Bool) → holds s (object_of event.before) ≡ before → holds s (object_of event.now) ≡ now → (before || now) ≡ false → transition_of s event ≡ None
    by false false was is h = rw was (rw is refl)
    by true now was is h = absurd (cc)
    by false true was is h = absurd (cc)

pub due_of : (lanes : List (ℕ × OpenLaneData)) (id : ℕ) (event : EventRows) (o : OpenLaneData) (line : TransitionData) → open_at lanes id ≡ Some o → Some line ≡ due o.lane event → due_at lanes id event ≡ Some line
due_of lanes id event o line is told = ap (λ l. due_in l event) is ∙ sym told

-- ---- lanes that were told

no_due : (b : Bool) (line : Option TransitionData) → line ≡ None → cond b line None ≡ None
no_due true line none = none
no_due false line none = refl

-- the lanes that the index doesn't answer are told nothing
pub untold : (index : IndexData) (lanes : List (ℕ × OpenLaneData)) (ids : List ℕ) (event : EventRows) (old new : Option Obj) → IsIndexed index lanes →
    old ≡ object_of event.before → new ≡ object_of event.now →
    ((id : ℕ) (s : Selection) → lane_at index.lanes id ≡ Some s → IsTrue (holds s old || holds s new) → IsTrue (is_listed ids id)) →
    (q : ℕ) → is_listed ids q ≡ false → due_at lanes q event ≡ None
untold index lanes ids event old new indexed was is listed q other = by (open_at lanes q) refl
  where
    none : (o : OpenLaneData) → lane_at index.lanes q ≡ Some o.lane.selection → due o.lane event ≡ None
    none o here = by_test (holds o.lane.selection old || holds o.lane.selection new)
        (λ touched. absurd (none_is_some (sym other ∙ listed q o.lane.selection here touched)))
        (λ neither. no_due (not o.lane.behind && nat_lt o.lane.mark event.rev) (transition_of o.lane.selection event)
        (untouched o.lane.selection event (ap (λ x. holds o.lane.selection x || holds o.lane.selection (object_of event.now)) (sym was) ∙ ap (λ x. holds o.lane.selection old || holds o.lane.selection x) (sym is) ∙ neither)))

    by : (o : Option OpenLaneData) → open_at lanes q ≡ o → due_in (open_at lanes q) event ≡ None
    by None is = ap (λ l. due_in l event) is
    by (Some o) is = ap (λ l. due_in l event) is ∙ none o (indexed q ∙ ap selection_in is)

-- the lanes that the index doesn't answer for one event are told nothing of another one that touches no others
pub untold_with : (index : IndexData) (lanes : List (ℕ × OpenLaneData)) (ids : List ℕ) (first event : EventRows) → IsIndexed index lanes →
    ((id : ℕ) → is_listed ids id ≡ touches index first id) → ((id : ℕ) → touches index event id ≡ true → touches index first id ≡ true) →
    (q : ℕ) → is_listed ids q ≡ false → due_at lanes q event ≡ None
untold_with index lanes ids first event indexed exact goes =
    untold index lanes ids event (object_of event.before) (object_of event.now) indexed refl refl
    (λ id s found selected. exact id ∙ goes id (event_touches s index.field (object_of event.before) (object_of event.now) (lane_at index.lanes id) found selected))

-- the lanes that the index answers for the objects of an event are those that it touches
pub touches_is : (index : IndexData) (event : EventRows) (old new : Option Obj) (ids : List ℕ) → old ≡ object_of event.before → new ≡ object_of event.now →
    ((id : ℕ) → is_listed ids id ≡ is_touched index.field old new (lane_at index.lanes id)) → (id : ℕ) → is_listed ids id ≡ touches index event id
touches_is index event old new ids was is exact id =
    exact id ∙ ap (λ x. is_touched index.field x new (lane_at index.lanes id)) was ∙ ap (λ x. is_touched index.field (object_of event.before) x (lane_at index.lanes id)) is

-- the object of a row that is shared
pub object_is : {A : Type 0} (row : A → RowData) (x : Option A) → option_map (λ s. (row s).obj) x ≡ object_of (option_map row x)
object_is row None = refl
object_is row (Some s) = refl

-- what `retain` leaves where its closure always answers `true` and writes g of each value, as long as something holds of what it captures
pub mapped_pairs : {F K X : Type 0} (T : F → K → X → Bool → X → F → Type 0) (g : X → X) (I : F → Type 0) →
    ((f : F) (k : K) (v : X) (b : Bool) (w : X) (f' : F) → I f → T f k v b w f' → (b ≡ true) × (w ≡ g v) × I f') →
    (f : F) (es kept : List (K × X)) → I f → RetainsPairs T f es kept → kept ≡ map (λ e. (e.0, g e.1)) es
mapped_pairs T g I each f [] kept holds r = r
mapped_pairs T g I each f (e ∷ es) kept holds r =
    let a = each f e.0 e.1 r.0 r.1 r.2 holds r.4 in
    let rest = mapped_pairs T g I each r.2 es r.3 a.2 r.5 in
    r.6 ∙ ap (λ b. cond b ((e.0, r.1) ∷ r.3) r.3) a.0 ∙ (λ i. (e.0, a.1 i) ∷ rest i)

-- a lane that was lent and given back as it was leaves all lanes as they were
pub kept_entries : (id : ℕ) (lanes : List (ℕ × OpenLaneData)) (lane later : OpenLaneData) (new : List (ℕ × OpenLaneData)) → later ≡ lane → lookup (nat_eq id) lanes ≡ Some lane →
    new ≡ set_value (nat_eq id) lanes later → new ≡ lanes
kept_entries id lanes lane later new same found written =
    written ∙ set_value_same (nat_eq id) lanes later (found ∙ ap (λ (x : OpenLaneData). Some x) (sym same))
