-- What polls and histories make of a cache.
use Rattle.std.proofs.Common.{◌≡◌, ℕ, zero, suc, Some, true, filter_map, ◌+◌, ◌-◌, ◌<◌, ◌≤◌, inl, inr, List, [], ◌∷◌, ◌++◌, append-nil, append_assoc, length, get_or, take, drop, drop-cons, map, IsTrue, refl, sym, ap, ◌∙◌, subst, arith, Less, Equal}
use Rattle.std.specs.Prelude.{All}
use Rattle.std.specs.List.{AllByRecursion, slice_get}
use Rattle.std.specs.Cmp.Lexicographic.{slice_cmp}
use Rattle.std.specs.List.Sorted.{IsStrictlySortedBy}
use Rattle.std.specs.Ordering.{nat_cmp, ordering_then}
use Rattle.std.proofs.lemmas.Bool.{eqb-true}
use Rattle.std.proofs.lemmas.List.{length-map, length-take, map-append, take-append-drop}
use Rattle.std.proofs.lemmas.List.Elements.{All-cons, All-nil, All-head, All-tail}
use Rattle.kube_meta.specs.declared.resources.Resource.{Resource}
use Rattle.kube_meta.specs.Resources.{place_of, same_resource}
use Rattle.kube_meta.specs.Rows.{RowData}
use Rattle.rev_log.specs.Changes.{ChangeData, RevisionData, change_cmp, IsRevision}
use Rattle.rev_log.specs.Logs.{Log, end_of, upto, grown}
use Rattle.rev_log.specs.States.{IsStateAt}
use Rattle.rev_log.proofs.FitLemmas.{numbered}
use Rattle.rev_log.proofs.GrowthLemmas.{states_stay}
use Rattle.select_all.specs.Floors.{IsFloorOk}
use Rattle.select_all.specs.Streams.{events}
use Rattle.select_all.proofs.FloorSteps.{floors_wait, floors_are_kept}
use Rattle.select_all.proofs.OrderLaws.{same_number}
use Rattle.select_all.proofs.StreamLaws.{events_join, events_stay, no_events, between-none}
use Rattle.event_ring.specs.Events.{EventRows}
use Rattle.up_api.specs.Feeds.{PolledData, part_of, parts_between}
use Rattle.cache_core.specs.Caches.{CacheData, AreFitting, IsCacheOf, held_event, held_events, log_at}
use Rattle.cache_core.specs.Feeding.{Feeds}
use Rattle.cache_core.specs.Steps.{change_event, part_events, with_events, IsGroup, MayFollow, HasFollowed, IsFedTo, HasCome, Keeps}
use Rattle.cache_core.proofs.HeadLemmas.{IsNextPart, next_part, next_state, no_part_left, quiet_state}
use Rattle.cache_core.proofs.RingLemmas.{floor_upto, ring_upto, ring_goes_on, push_rises}

-- ---- the events of a part may be pushed

pub keys_above : (resource : Resource) (c : ChangeData) (cs : List ChangeData) → IsTrue (same_resource c.resource resource) → All (λ d. IsTrue (same_resource d.resource resource)) cs →
    AllByRecursion (λ d. change_cmp c d ≡ Less) cs → AllByRecursion (λ k. slice_cmp nat_cmp c.key k ≡ Less) (map (λ d. d.key) cs)
keys_above resource c [] here of above = tt
keys_above resource c (d ∷ cs) here of above =
    let there : same_resource d.resource resource ≡ true = All-head (λ e. IsTrue (same_resource e.resource resource)) d cs of in
    let places : place_of c.resource ≡ place_of d.resource = eqb-true (place_of c.resource) (place_of resource) here ∙ sym (eqb-true (place_of d.resource) (place_of resource) there) in
    let tie : nat_cmp (place_of c.resource) (place_of d.resource) ≡ Equal = ap (λ n. nat_cmp n (place_of d.resource)) places ∙ same_number (place_of d.resource) in
    (sym (ap (λ o. ordering_then o (slice_cmp nat_cmp c.key d.key)) tie) ∙ above.0, keys_above resource c cs here (All-tail (λ e. IsTrue (same_resource e.resource resource)) d cs of) above.1)

pub keys_rise : (resource : Resource) (cs : List ChangeData) → All (λ d. IsTrue (same_resource d.resource resource)) cs → IsStrictlySortedBy change_cmp cs → IsStrictlySortedBy (slice_cmp nat_cmp) (map (λ d. d.key) cs)
unfolding IsStrictlySortedBy
keys_rise resource [] of rising = tt
keys_rise resource (c ∷ cs) of rising = (
  keys_above resource c cs (All-head (λ e. IsTrue (same_resource e.resource resource)) c cs of) (All-tail (λ e. IsTrue (same_resource e.resource resource)) c cs of) rising.0,
  keys_rise resource cs (All-tail (λ e. IsTrue (same_resource e.resource resource)) c cs of) rising.1,
)

pub events_keys : (rows : List RowData) (rev : ℕ) (cs : List ChangeData) → map (λ (e : EventRows). e.key) (map (change_event rows rev) cs) ≡ map (λ d. d.key) cs
events_keys rows rev [] = refl
events_keys rows rev (c ∷ cs) = ap (λ ks. c.key ∷ ks) (events_keys rows rev cs)

pub all_numbered : (rows : List RowData) (rev : ℕ) (cs : List ChangeData) → All (λ (e : EventRows). e.rev ≡ rev) (map (change_event rows rev) cs)
all_numbered rows rev [] = All-nil (λ (e : EventRows). e.rev ≡ rev)
all_numbered rows rev (c ∷ cs) = All-cons (λ (e : EventRows). e.rev ≡ rev) (change_event rows rev c) (map (change_event rows rev) cs) refl (all_numbered rows rev cs)

unfoldable pub group_of : (resource : Resource) (rows : List RowData) (last : ℕ) (part : RevisionData) → last < part.rev → IsRevision part → All (λ d. IsTrue (same_resource d.resource resource)) part.changes → 0 < length part.changes → IsGroup last (part_events rows part)
group_of resource rows last part above is of some =
    let many = length-map part.changes (change_event rows part.rev) in
    record {
      rev = part.rev;
      above = above;
      some = omega (arith, many, some);
      few = omega (arith, many, is.few);
      numbered = all_numbered rows part.rev part.changes;
      rising = subst (IsStrictlySortedBy (slice_cmp nat_cmp)) (sym (events_keys rows part.rev part.changes)) (keys_rise resource part.changes of is.rising);
    }

-- ---- one revision of a poll

pub next_fed : (log : Log) (cache : CacheData) (part : RevisionData) (rest : List RevisionData) (upto : ℕ) → IsFedTo log cache (part ∷ rest) upto → IsNextPart log cache.resource cache.end upto part rest
next_fed log cache part rest upto fed =
    next_part log cache.resource cache.end upto fed.fitting (omega (arith, fed.begun, fed.built)) fed.onward fed.within part rest (sym fed.left)

pub may_follow : (log : Log) (cache : CacheData) (part : RevisionData) (rest : List RevisionData) (upto : ℕ) → IsFedTo log cache (part ∷ rest) upto → MayFollow cache part
may_follow log cache part rest upto fed =
    let next = next_fed log cache part rest upto fed in
    record {
      ring = ring_upto log cache.resource cache.base cache.end cache.ring (numbered log.first log.revisions fed.fitting).0 fed.built fed.ring;
      above = next.above;
      some = next.some;
      is = next.is;
      of = next.of;
    }

pub has_followed : (log : Log) (cache new : CacheData) (part : RevisionData) (rest : List RevisionData) (upto : ℕ) → IsFedTo log cache (part ∷ rest) upto → HasFollowed cache part new →
    IsFedTo log new rest upto × (cache.end ≤ new.end) × (held_events log cache.resource cache.end new.end ≡ part_events cache.rows part)
has_followed log cache new part rest upto fed follows =
    let next = next_fed log cache part rest upto fed in
    let told : held_events log cache.resource cache.end part.rev ≡ part_events cache.rows part = next.events_are cache.rows fed.state.exact in
    let after : CacheData = record cache { end = part.rev; rows = with_events cache.rows (part_events cache.rows part); ring = new.ring } in
    let onward : IsFedTo log after rest upto = record {
      fitting = fed.fitting;
      begun = fed.begun;
      built = omega (arith, fed.built, next.above);
      onward = next.within;
      within = fed.within;
      state = next_state log cache.resource cache.end upto part rest cache.rows fed.state next;
      ring = ring_goes_on log cache.resource cache.base cache.end part.rev cache.time cache.ring new.ring (part_events cache.rows part) (numbered log.first log.revisions fed.fitting).0 fed.built
          (omega (arith, next.above)) fed.ring (group_of cache.resource cache.rows cache.end part next.above next.is next.of next.some) told follows.ring;
      left = next.rest_are;
    } in
    let all : IsFedTo log after rest upto × (cache.end ≤ after.end) × (held_events log cache.resource cache.end after.end ≡ part_events cache.rows part) =
    (onward, omega (arith, next.above), told) in
    subst (λ (d : CacheData). IsFedTo log d rest upto × (cache.end ≤ d.end) × (held_events log cache.resource cache.end d.end ≡ part_events cache.rows part)) (sym follows.is) all

-- and it changes nothing else
pub followed_keeps : (cache new : CacheData) (part : RevisionData) → MayFollow cache part → HasFollowed cache part new → Keeps cache new
followed_keeps cache new part may follows =
    let windows : (new.ring.window ≡ cache.ring.window) × (new.ring.window_max ≡ cache.ring.window_max) × (new.ring.fresh_ms ≡ cache.ring.fresh_ms) = elim follows.ring.fits [
      | inl same ↦ (ap (λ r. r.window) follows.ring.pushed_is ∙ ap (λ r. r.window) same, ap (λ r. r.window_max) follows.ring.pushed_is ∙ ap (λ r. r.window_max) same, ap (λ r. r.fresh_ms) follows.ring.pushed_is ∙ ap (λ r. r.fresh_ms) same)
      | inr fit ↦ (ap (λ r. r.window) follows.ring.pushed_is ∙ ap (λ r. r.window) fit, ap (λ r. r.window_max) follows.ring.pushed_is ∙ ap (λ r. r.window_max) fit, ap (λ r. r.fresh_ms) follows.ring.pushed_is ∙ ap (λ r. r.fresh_ms) fit)
    ] in
    record {
      stays = record { resource = ap (λ d. d.resource) follows.is; time = ap (λ d. d.time) follows.is; window = windows.0; window_max = windows.1; fresh_ms = windows.2 };
      base = ap (λ d. d.base) follows.is;
      floor = push_rises cache.end cache.time cache.ring new.ring (part_events cache.rows part) may.ring (group_of cache.resource cache.rows cache.end part may.above may.is may.of may.some) follows.ring;
    }

pub keeps_refl : (cache : CacheData) → Keeps cache cache
keeps_refl cache = record { stays = record { resource = refl; time = refl; window = refl; window_max = refl; fresh_ms = refl }; base = refl; floor = omega arith }

pub keeps_on : (a b c : CacheData) → Keeps a b → Keeps b c → Keeps a c
keeps_on a b c first second = record {
  stays = record {
    resource = second.stays.resource ∙ first.stays.resource;
    time = second.stays.time ∙ first.stays.time;
    window = second.stays.window ∙ first.stays.window;
    window_max = second.stays.window_max ∙ first.stays.window_max;
    fresh_ms = second.stays.fresh_ms ∙ first.stays.fresh_ms;
  };
  base = second.base ∙ first.base;
  floor = omega (arith, first.floor, second.floor);
}

-- what was told so far, and the events of one more revision
pub told_on : (log : Log) (resource : Resource) (a b c : ℕ) (told fresh more new : List EventRows) → a ≤ b → b ≤ c →
    fresh ≡ told ++ held_events log resource a b → held_events log resource b c ≡ more → new ≡ fresh ++ more → new ≡ told ++ held_events log resource a c
told_on log resource a b c told fresh more new first second was are now =
    now ∙ ap (λ es. es ++ more) was ∙ append_assoc told (held_events log resource a b) more
    ∙ ap (λ es. told ++ es) (ap (λ es. held_events log resource a b ++ es) (sym are) ∙ sym (map-append held_event (events log resource a b) (events log resource b c)) ∙ ap (map held_event) (events_join log resource a b c first second))

-- ---- beginnings of a log

log_parts : (log : Log) (at : ℕ) → grown (log_at log at) (drop (at - log.first) log.revisions) ≡ log
log_parts log at i = record log { revisions = take-append-drop (at - log.first) log.revisions i }

log_at-end : (log : Log) (at : ℕ) → log.first ≤ at → at ≤ end_of log → end_of (log_at log at) ≡ at
log_at-end log at begun within = omega (arith, begun, within, length-take (at - log.first) log.revisions)

-- what a fed cache was, and what it is at the end of what it was fed
pub is_fed : (log : Log) (cache : CacheData) (polled : PolledData) → Feeds log cache polled → IsFedTo log cache polled.revisions polled.upto
is_fed log cache polled feeds =
    let short : Log = log_at log cache.end in
    let more = drop (cache.end - log.first) log.revisions in
    let whole = log_parts log cache.end in
    let within : cache.end ≤ end_of short = omega (arith, feeds.stands.ended) in
    record {
      fitting = feeds.fitting;
      begun = feeds.stands.begun;
      built = feeds.stands.built;
      onward = omega (arith, feeds.begins, feeds.fed.onward);
      within = feeds.fed.within;
      state = subst (λ l. IsStateAt l cache.resource cache.end cache.rows) whole ((states_stay short more cache.resource cache.end cache.rows within).0 feeds.stands.state);
      ring = record {
        floor = subst (λ l. IsFloorOk l cache.resource cache.ring.window cache.ring.window_max cache.base cache.end cache.ring.floor) whole
            ((floors_are_kept short more cache.resource cache.ring.window cache.ring.window_max cache.base cache.end cache.ring.floor within).0 feeds.stands.ring.floor);
        events_are = feeds.stands.ring.events_are
            ∙ ap (map held_event) (sym (events_stay short more cache.resource cache.ring.floor cache.end (omega (arith, within))) ∙ ap (λ l. events l cache.resource cache.ring.floor cache.end) whole);
      };
      left = feeds.fed.parts ∙ ap (λ n. parts_between log cache.resource n polled.upto) feeds.begins;
    }

pub is_cache : (log : Log) (cache : CacheData) (left : List RevisionData) (upto : ℕ) → IsFedTo log cache left upto → IsCacheOf (log_at log cache.end) cache
is_cache log cache left upto fed =
    let short : Log = log_at log cache.end in
    let more = drop (cache.end - log.first) log.revisions in
    let whole = sym (log_parts log cache.end) in
    let ends : end_of short ≡ cache.end = log_at-end log cache.end (omega (arith, fed.begun, fed.built)) (omega (arith, fed.onward, fed.within)) in
    let within : cache.end ≤ end_of short = omega (arith, ends) in
    record {
      fitting = fitting_at log cache.end fed.fitting;
      begun = fed.begun;
      built = fed.built;
      ended = sym ends;
      state = (states_stay short more cache.resource cache.end cache.rows within).1 (subst (λ l. IsStateAt l cache.resource cache.end cache.rows) whole fed.state);
      ring = record {
        floor = (floors_are_kept short more cache.resource cache.ring.window cache.ring.window_max cache.base cache.end cache.ring.floor within).1
            (subst (λ l. IsFloorOk l cache.resource cache.ring.window cache.ring.window_max cache.base cache.end cache.ring.floor) whole fed.ring.floor);
        events_are = fed.ring.events_are
            ∙ ap (map held_event) (ap (λ l. events l cache.resource cache.ring.floor cache.end) whole ∙ events_stay short more cache.resource cache.ring.floor cache.end (omega (arith, within)));
      };
    }
  where
    of_taken : (n : ℕ) (xs : List RevisionData) (i : ℕ) (x : RevisionData) → slice_get (take n xs) i ≡ Some x → slice_get xs i ≡ Some x
    of_taken zero xs i x found = absurd (cc)
    of_taken (suc n) [] i x found = found
    of_taken (suc n) (y ∷ xs) zero x found = found
    of_taken (suc n) (y ∷ xs) (suc i) x found = of_taken n xs i x found

    fitting_at : (log : Log) (at : ℕ) → AreFitting log → AreFitting (log_at log at)
    fitting_at log at fit i revision found = fit i revision (of_taken (at - log.first) log.revisions i revision found)

-- where no revision is left, it stands for the log up to the last number too
pub come_to : (log : Log) (cache : CacheData) (upto : ℕ) → IsFedTo log cache [] upto → IsFedTo log (record cache { end = upto }) [] upto × (held_events log cache.resource cache.end upto ≡ [])
come_to log cache upto fed =
    let q = no_part_left log cache.resource cache.end upto fed.onward (sym fed.left) in
    let floor_le = floor_upto log cache.resource cache.ring.window cache.ring.window_max cache.base cache.end cache.ring.floor fed.built fed.ring.floor in (
      record {
        fitting = fed.fitting;
        begun = fed.begun;
        built = omega (arith, fed.built, fed.onward);
        onward = omega arith;
        within = fed.within;
        state = quiet_state log cache.resource cache.end upto cache.rows fed.state q;
        ring = record {
          floor = floors_wait log cache.resource cache.ring.window cache.ring.window_max cache.base cache.end upto cache.ring.floor fed.onward q.count fed.ring.floor;
          events_are = fed.ring.events_are ∙ sym (append-nil (held_events log cache.resource cache.ring.floor cache.end))
              ∙ ap (λ es. held_events log cache.resource cache.ring.floor cache.end ++ map held_event es) (sym q.events)
              ∙ sym (map-append held_event (events log cache.resource cache.ring.floor cache.end) (events log cache.resource cache.end upto))
              ∙ ap (map held_event) (events_join log cache.resource cache.ring.floor cache.end upto floor_le fed.onward);
        };
        left = sym (ap (filter_map (part_of cache.resource)) (between-none log upto upto (omega arith)));
      },
      ap (map held_event) q.events,
    )

-- ---- the loop over a poll's revisions

pub come_first : (cache : CacheData) (told : List EventRows) (revisions : List RevisionData) (log : Log) (upto : ℕ) → IsFedTo log cache revisions upto → HasCome log cache cache told told revisions upto
come_first cache told revisions log upto fed = record {
  fed = fed;
  onward = omega arith;
  told_is = sym (append-nil told) ∙ ap (λ es. told ++ map held_event es) (sym (no_events log cache.resource cache.end cache.end (omega arith)));
}

-- the revision at a place, and those behind it
at_place : (revisions : List RevisionData) (i : ℕ) (part : RevisionData) → i < length revisions → part ≡ get_or revisions i part → drop i revisions ≡ part ∷ drop (i + 1) revisions
at_place revisions i part inside is =
    drop-cons revisions i part inside ∙ ap (λ r. r ∷ drop (suc i) revisions) (sym is) ∙ ap (λ n. part ∷ drop n revisions) {x = suc i} {y = i + 1} (omega arith)

fed_at : (log : Log) (upto : ℕ) (old cache : CacheData) (told fresh : List EventRows) (revisions : List RevisionData) (i : ℕ) (part : RevisionData) → i < length revisions → part ≡ get_or revisions i part →
    HasCome log old cache told fresh (drop i revisions) upto → IsFedTo log cache (part ∷ drop (i + 1) revisions) upto
fed_at log upto old cache told fresh revisions i part inside is come = subst (λ left. IsFedTo log cache left upto) (at_place revisions i part inside is) come.fed

pub may_follow_at : (log : Log) (upto : ℕ) (old cache : CacheData) (told fresh : List EventRows) (revisions : List RevisionData) (i : ℕ) (part : RevisionData) → i < length revisions → part ≡ get_or revisions i part →
    HasCome log old cache told fresh (drop i revisions) upto → MayFollow cache part
may_follow_at log upto old cache told fresh revisions i part inside is come =
    may_follow log cache part (drop (i + 1) revisions) upto (fed_at log upto old cache told fresh revisions i part inside is come)

pub come_next : (log : Log) (upto : ℕ) (old cache new : CacheData) (told fresh more : List EventRows) (revisions : List RevisionData) (i : ℕ) (part : RevisionData) → i < length revisions → part ≡ get_or revisions i part →
    cache.resource ≡ old.resource → HasCome log old cache told fresh (drop i revisions) upto → HasFollowed cache part new → more ≡ fresh ++ part_events cache.rows part →
    HasCome log old new told more (drop (i + 1) revisions) upto
come_next log upto old cache new told fresh more revisions i part inside is same come follows now =
    let all = has_followed log cache new part (drop (i + 1) revisions) upto (fed_at log upto old cache told fresh revisions i part inside is come) follows in
    record {
      fed = all.0;
      onward = omega (arith, come.onward, all.1);
      told_is = told_on log old.resource old.end cache.end new.end told fresh (part_events cache.rows part) more come.onward all.1 come.told_is
          (ap (λ r. held_events log r cache.end new.end) (sym same) ∙ all.2) now;
    }

-- ---- a poll

-- what a fed cache has come to stands for the log there
pub come_stands : (log : Log) (old new : CacheData) (told fresh : List EventRows) (left : List RevisionData) (upto : ℕ) → HasCome log old new told fresh left upto → IsCacheOf (log_at log new.end) new
come_stands log old new told fresh left upto come = is_cache log new left upto come.fed

-- and at the end of the poll it does up to the poll's end
pub come_ended : (log : Log) (new : CacheData) (upto : ℕ) → IsFedTo log new [] upto → IsCacheOf (log_at log upto) (record new { end = upto })
come_ended log new upto fed = is_cache log (record new { end = upto }) [] upto (come_to log new upto fed).0

pub told_ended : (log : Log) (old new : CacheData) (told fresh : List EventRows) (left : List RevisionData) (upto : ℕ) → new.resource ≡ old.resource → HasCome log old new told fresh left upto → IsFedTo log new [] upto →
    fresh ≡ told ++ held_events log old.resource old.end upto
told_ended log old new told fresh left upto same come fed =
    told_on log old.resource old.end new.end upto told fresh [] fresh come.onward fed.onward come.told_is
    (ap (λ r. held_events log r new.end upto) (sym same) ∙ (come_to log new upto fed).1) (sym (append-nil fresh))

pub told_to : (told fresh : List EventRows) (log : Log) (resource : Resource) (from a b : ℕ) → a ≡ b → fresh ≡ told ++ held_events log resource from a → fresh ≡ told ++ held_events log resource from b
told_to told fresh log resource from a b same is = subst (λ (n : ℕ). fresh ≡ told ++ held_events log resource from n) same is

-- what the loop over a poll's revisions begins with
pub fed_by : (log : Log) (cache : CacheData) (polled : PolledData) (slice : List RevisionData) → polled.revisions ≡ slice → Feeds log cache polled → IsFedTo log cache slice polled.upto
fed_by log cache polled slice are feeds = subst (λ (rs : List RevisionData). IsFedTo log cache rs polled.upto) are (is_fed log cache polled feeds)
