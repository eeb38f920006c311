-- A hub whose cache, or whose lanes, were changed stands for the log.
use Rattle.std.proofs.Common.{◌≡◌, ℕ, ◌≤◌, max, filter_map, List, [], Option, Some, None, option_map, Result, Ok, Err, IfOk, OnErr, refl, sym, ap, ◌∙◌, subst, arith}
use Rattle.kube_meta.specs.Rows.{RowData}
use Rattle.kube_meta.specs.declared.resources.Resource.{Resource}
use Rattle.rev_front.specs.Passes.{Pass, FitFrom}
use Rattle.rev_log.specs.Changes.{RevisionData}
use Rattle.rev_log.specs.Logs.{Log, Fits, end_of}
use Rattle.select_all.specs.declared.selection.Selection.{Selection}
use Rattle.select_all.specs.Streams.{TransitionData, transitions}
use Rattle.rev_log.proofs.FitLemmas.{numbered}
use Rattle.event_ring.specs.Events.{EventRows}
use Rattle.up_api.specs.Feeds.{PolledData, HistoryData, IsHistory, IsFed}
use Rattle.up_api.specs.Sections.{StandsAt, log_of}
use Rattle.cache_core.specs.Caches.{CacheData, IsCacheOf, held_events, log_at}
use Rattle.cache_core.specs.Feeding.{IsHistoryOf, Feeds}
use Rattle.cache_hub.specs.OpenLanes.{OpenLaneData, LanesData, GoesAlong, LaneCaughtUp, SetsLane, AreChanged, AreTold, Each, open_at, newly_open, caught_up, left_behind}
use Rattle.cache_hub.specs.Hubs.{HubData, StandsFor}
use Rattle.cache_hub.proofs.LaneLemmas.{IsGood, each_good, stands_by, mapped_is, each_set, each_changed_by, none_are, good_opened, good_caught, good_behind, are_ready, told_are_good}
use Rattle.cache_hub.specs.Due.{AreReady, transition_of}
use Rattle.cache_hub.specs.Catching.{CaughtData, AreInOrder, AreFirst, IsCaught}
use Rattle.cache_hub.proofs.CatchLemmas.{caught_by, caught_along}

-- ---- the time alone

pub ticked : (log : Log) (old : HubData) (time : ℕ) → StandsFor log old → StandsFor log (record old { cache = record old.cache { time = time } })
ticked log old time stands = record {
  cache = record {
    fitting = stands.cache.fitting;
    begun = stands.cache.begun;
    built = stands.cache.built;
    ended = stands.cache.ended;
    state = stands.cache.state;
    ring = stands.cache.ring;
  };
  of = stands.of;
  in_step = stands.in_step;
}

-- ---- the lanes alone

-- after a lane was opened, or was not
pub stands_opened : {A E : Type 0} (result : Result A E) (number : A → ℕ) (log : Log) (old : HubData) (later : LanesData) (s : Selection) (at : ℕ) →
    s.resource ≡ old.cache.resource →
    IfOk result (λ r. SetsLane old.lanes.all later.all (number r) (Some (newly_open s at old.cache.end old.lanes.room))) → OnErr result (later ≡ old.lanes) →
    StandsFor log old → StandsFor log (record old { lanes = later })
stands_opened (Ok r) number log old later s at of sets kept stands =
    stands_by log (record old { lanes = later }) stands.cache
    (each_set (IsGood log old.cache.resource old.cache.end) old.lanes.all later.all (number r) (Some (newly_open s at old.cache.end old.lanes.room)) sets
    (λ o here.
    let new : newly_open s at old.cache.end old.lanes.room ≡ o = cc in
    subst (IsGood log old.cache.resource old.cache.end) new (good_opened log old.cache.resource s at old.cache.end old.lanes.room of))
    (each_good log old stands))
stands_opened (Err e) number log old later s at of sets kept stands = subst (λ l. StandsFor log (record old { lanes = l })) (sym kept) stands

pub stands_closed : (log : Log) (old : HubData) (later : LanesData) (id : ℕ) → SetsLane old.lanes.all later.all id None →
    StandsFor log old → StandsFor log (record old { lanes = later })
stands_closed log old later id sets stands =
    stands_by log (record old { lanes = later }) stands.cache
    (each_set (IsGood log old.cache.resource old.cache.end) old.lanes.all later.all id None sets (λ o here. absurd (cc)) (each_good log old stands))

-- a lane that is changed, if it is there
set_changed : (fact : OpenLaneData → Type 0) (change : OpenLaneData → OpenLaneData) (old new : List (ℕ × OpenLaneData)) (id : ℕ) →
    SetsLane old new id (option_map change (open_at old id)) → ((o : OpenLaneData) → fact o → fact (change o)) → Each fact old → Each fact new
set_changed fact change old new id sets keeps each =
    each_set fact old new id (option_map change (open_at old id)) sets
    (λ o here. let was = mapped_is change (open_at old id) o here in subst fact was.2 (keeps was.0 (each id was.0 was.1))) each

pub stands_caught : (log : Log) (old : HubData) (later : LanesData) (id : Option ℕ) (upto : ℕ) → LaneCaughtUp id upto old.cache.end old.lanes later →
    StandsFor log old → StandsFor log (record old { lanes = later })
stands_caught log old later None upto caught stands = subst (λ l. StandsFor log (record old { lanes = l })) (sym caught) stands
stands_caught log old later (Some id) upto caught stands =
    stands_by log (record old { lanes = later }) stands.cache
    (set_changed (IsGood log old.cache.resource old.cache.end) (caught_up upto old.cache.end) old.lanes.all later.all id caught.0
    (good_caught log old.cache.resource upto old.cache.end) (each_good log old stands))

-- ---- a hub that was built

module _ (base : List RowData) (p : Pass RevisionData) where
  abbrev the_log : Log
  the_log = log_of base p

  -- the history that a hub is built from, of a pass whose entries fit
  pub history_of : (resource : Resource) (history : HistoryData) → FitFrom Fits p.first p.seen → IsHistory the_log p.floor resource history → IsHistoryOf the_log resource history
  history_of resource history fitting is = record { fitting = fitting; log_floor = p.floor; is = is }

  pub stands_at : (hub : HubData) (upto floor : ℕ) (resource : Resource) (history : HistoryData) → IsHistory the_log p.floor resource history → history.upto ≡ hub.cache.end →
      StandsFor (log_at the_log history.upto) hub → StandsAt (λ log. StandsFor log hub) base p hub.cache.end
  stands_at hub upto floor resource history is same stands =
      subst (λ e. StandsAt (λ log. StandsFor log hub) base p e) same record {
        begun = omega (arith, is.begun, is.ordered);
        within = is.within;
        stands = stands;
      }

  -- a new hub, which has no lanes
  pub stands_new : (resource : Resource) (history : HistoryData) (cache : CacheData) (rebuilds : ℕ) (lanes : LanesData) (room : ℕ) → FitFrom Fits p.first p.seen → IsHistory the_log p.floor resource history →
      ((log : Log) → IsHistoryOf log resource history → IsCacheOf (log_at log history.upto) cache) → cache.end ≡ history.upto → lanes ≡ record { room = room; all = [] } →
      StandsAt (λ log. StandsFor log (record { cache = cache; rebuilds = rebuilds; lanes = lanes })) base p cache.end
  stands_new resource history cache rebuilds lanes room fitting is built end empty =
      stands_at (record { cache = cache; rebuilds = rebuilds; lanes = lanes }) history.upto 0 resource history is (sym end)
      (stands_by (log_at the_log history.upto) (record { cache = cache; rebuilds = rebuilds; lanes = lanes }) (built the_log (history_of resource history fitting is))
      (subst (λ (l : LanesData). Each (IsGood (log_at the_log history.upto) cache.resource cache.end) l.all) (sym empty) (none_are (IsGood (log_at the_log history.upto) cache.resource cache.end))))

  -- what a cache that stands for the log is fed
  pub feeds_of : (now : HubData) (cache : CacheData) (rebuilds : ℕ) (lanes : LanesData) (polled : PolledData) → record { cache = cache; rebuilds = rebuilds; lanes = lanes } ≡ now → FitFrom Fits p.first p.seen →
      StandsAt (λ log. StandsFor log now) base p now.cache.end → polled.from ≡ now.cache.end → IsFed the_log now.cache.resource polled → Feeds the_log cache polled
  feeds_of now cache rebuilds lanes polled view fitting stands begins fed =
      let same : now.cache ≡ cache = ap (λ (h : HubData). h.cache) (sym view) in
      subst (λ c. Feeds the_log c polled) same record { fitting = fitting; stands = stands.stands.cache; begins = begins; fed = fed }

  pub ready_of : (now : HubData) (cache : CacheData) (rebuilds : ℕ) (lanes : LanesData) (events : List EventRows) (end : ℕ) → record { cache = cache; rebuilds = rebuilds; lanes = lanes } ≡ now → FitFrom Fits p.first p.seen →
      StandsAt (λ log. StandsFor log now) base p now.cache.end → cache.end ≤ end → events ≡ held_events the_log cache.resource cache.end end → AreReady the_log end events lanes.all
  ready_of now cache rebuilds lanes events end view fitting stands onward held =
      let whole : StandsAt (λ log. StandsFor log (record { cache = cache; rebuilds = rebuilds; lanes = lanes })) base p cache.end =
      subst (λ (h : HubData). StandsAt (λ log. StandsFor log h) base p h.cache.end) (sym view) stands in
      are_ready the_log cache.resource cache.end end events lanes.all (numbered p.first p.seen fitting).0 whole.begun onward whole.within held
      (each_good (log_at the_log cache.end) (record { cache = cache; rebuilds = rebuilds; lanes = lanes }) whole.stands)

  pub fed_stands : (now : HubData) (cache later : CacheData) (rebuilds : ℕ) (lanes told : LanesData) → record { cache = cache; rebuilds = rebuilds; lanes = lanes } ≡ now →
      StandsAt (λ log. StandsFor log now) base p now.cache.end → later.resource ≡ cache.resource → cache.end ≤ later.end → later.end ≤ end_of the_log →
      IsCacheOf (log_at the_log later.end) later → AreTold the_log later.end lanes.all told.all →
      StandsAt (λ log. StandsFor log (record { cache = later; rebuilds = rebuilds; lanes = told })) base p later.end
  fed_stands now cache later rebuilds lanes told view stands same onward reached cached told_are =
      let whole : StandsAt (λ log. StandsFor log (record { cache = cache; rebuilds = rebuilds; lanes = lanes })) base p cache.end =
      subst (λ (h : HubData). StandsAt (λ log. StandsFor log h) base p h.cache.end) (sym view) stands in
      let begun : p.first ≤ later.end = omega (arith, whole.begun, onward) in
      record {
        begun = begun;
        within = reached;
        stands = stands_by (log_at the_log later.end) (record { cache = later; rebuilds = rebuilds; lanes = told }) cached
            (subst (λ r. Each (IsGood (log_at the_log later.end) r later.end) told.all) (sym same)
            (told_are_good the_log cache.resource later.end lanes.all told.all begun reached whole.stands.of told_are));
      }

  pub rebuilt_stands : (now : HubData) (cache later : CacheData) (rebuilds more : ℕ) (lanes left : LanesData) (history : HistoryData) → record { cache = cache; rebuilds = rebuilds; lanes = lanes } ≡ now → FitFrom Fits p.first p.seen →
      StandsAt (λ log. StandsFor log now) base p now.cache.end → IsHistory the_log p.floor now.cache.resource history →
      ((log : Log) → IsHistoryOf log cache.resource history → IsCacheOf (log_at log history.upto) later) → later.end ≡ history.upto → later.resource ≡ cache.resource →
      AreChanged left_behind lanes.all left.all →
      StandsAt (λ log. StandsFor log (record { cache = later; rebuilds = more; lanes = left })) base p later.end
  rebuilt_stands now cache later rebuilds more lanes left history view fitting stands is built end same changed =
      let whole : StandsAt (λ log. StandsFor log (record { cache = cache; rebuilds = rebuilds; lanes = lanes })) base p cache.end =
      subst (λ (h : HubData). StandsAt (λ log. StandsFor log h) base p h.cache.end) (sym view) stands in
      let own : IsHistory the_log p.floor cache.resource history = subst (λ (h : HubData). IsHistory the_log p.floor h.cache.resource history) (sym view) is in
      stands_at (record { cache = later; rebuilds = more; lanes = left }) history.upto 0 cache.resource history own (sym end)
      (stands_by (log_at the_log history.upto) (record { cache = later; rebuilds = more; lanes = left }) (built the_log (history_of cache.resource history fitting own))
      (each_changed_by (IsGood (log_at the_log history.upto) later.resource later.end) (λ id. left_behind) lanes.all left.all changed
      (λ id o here. good_behind (log_at the_log history.upto) later.resource later.end o (whole.stands.of id o here ∙ sym same))))

-- ---- what a watcher is told that catches up

pub caught_of : (now : HubData) (cache : CacheData) (rebuilds : ℕ) (lanes : LanesData) (s : Selection) (at many all : ℕ) (lent : List EventRows) (caught : CaughtData) →
    record { cache = cache; rebuilds = rebuilds; lanes = lanes } ≡ now → s.resource ≡ now.cache.resource → cache.ring.floor ≤ at → all ≡ max at cache.end →
    ((log : Log) → IsCacheOf log cache → lent ≡ held_events log cache.resource at cache.end) →
    (AreInOrder at all lent → AreFirst many all (filter_map (transition_of s) lent) caught) →
    (log : Log) → StandsFor log now → IsCaught log s at now.cache.end many caught
caught_of now cache rebuilds lanes s at many all lent caught view of served all_is held first log stands =
    let own : StandsFor log (record { cache = cache; rebuilds = rebuilds; lanes = lanes }) = subst (StandsFor log) (sym view) stands in
    subst (λ (h : HubData). IsCaught log s at h.cache.end many caught) view
    (caught_by log cache.resource s at cache.end many lent caught (numbered log.first log.revisions own.cache.fitting).0
    (omega (arith, own.cache.begun, own.cache.ring.floor.from_base, served))
    (of ∙ ap (λ (h : HubData). h.cache.resource) (sym view)) (held log own.cache)
    (subst (λ n. AreInOrder at n lent → AreFirst many n (filter_map (transition_of s) lent) caught) all_is first))

-- a watch that goes along with the cache
along_of : (log : Log) (now : HubData) (id : ℕ) (s : Selection) (at many : ℕ) (lines : List TransitionData) → (place : Option OpenLaneData) → open_at now.lanes.all id ≡ place → GoesAlong s at place → lines ≡ [] → 1 ≤ many →
    StandsFor log now → IsCaught log s at now.cache.end many (record { upto = max at now.cache.end; lines = lines })
along_of log now id s at many lines None here goes none some stands = absurd goes
along_of log now id s at many lines (Some o) here goes none some stands =
    caught_along log s o.lane.mark at now.cache.end many lines goes.1.1
    (subst (λ x. transitions log x o.lane.mark now.cache.end ≡ []) goes.0 (stands.in_step id o here goes.1.0)) none some

pub along_as : (log : Log) (now : HubData) (cache : CacheData) (rebuilds : ℕ) (lanes : LanesData) (id : ℕ) (s : Selection) (at many upto : ℕ) (lines : List TransitionData) →
    record { cache = cache; rebuilds = rebuilds; lanes = lanes } ≡ now → GoesAlong s at (open_at lanes.all id) → upto ≡ max at cache.end → lines ≡ [] → 1 ≤ many →
    StandsFor log now → IsCaught log s at now.cache.end many (record { upto = upto; lines = lines })
along_as log now cache rebuilds lanes id s at many upto lines view goes upto_is none some stands =
    subst (λ (h : HubData). IsCaught log s at h.cache.end many (record { upto = upto; lines = lines })) view
    (subst (λ n. IsCaught log s at cache.end many (record { upto = n; lines = lines })) (sym upto_is)
    (along_of log (record { cache = cache; rebuilds = rebuilds; lanes = lanes }) id s at many lines (open_at lanes.all id) refl goes none some (subst (StandsFor log) (sym view) stands)))
