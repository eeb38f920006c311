-- What a cache that stands for the log up to its end tells whoever knows all that it knows.
use Rattle.std.proofs.Common.{◌≡◌, ℕ, ◌-◌, ◌≤◌, ◌<◌, max, inl, inr, List, length, drop, refl, ap, sym, ◌∙◌, subst, arith}
use Rattle.std.specs.Prelude.{IfErr, IfOk, IfSome, Option, None, Some, Result, Ok, Err, unwrap_or}
use Rattle.std.proofs.lemmas.List.{take-append-drop}
use Rattle.kube_meta.specs.Rows.{RowData}
use Rattle.kube_meta.specs.declared.resources.Resource.{Resource}
use Rattle.rev_front.specs.Passes.{Pass, end_from}
use Rattle.rev_log.specs.Changes.{RevisionData}
use Rattle.rev_log.specs.Logs.{Log, end_of, grown}
use Rattle.rev_log.specs.States.{IsStateAt}
use Rattle.rev_log.proofs.GrowthLemmas.{IsStateAt-grown}
use Rattle.select_all.specs.declared.selection.Selection.{Selection}
use Rattle.select_all.specs.Floors.{IsEvicted}
use Rattle.select_all.specs.Selecting.{selects}
use Rattle.select_all.specs.Streams.{transitions}
use Rattle.select_all.proofs.FloorSteps.{floors_evict, evictions_stay}
use Rattle.select_all.proofs.StreamLaws.{transitions_are_kept}
use Rattle.up_api.specs.Sections.{StandsAt, log_of, log_upto}
use Rattle.up_api.proofs.SectionLemmas.{log_upto-end}
use Rattle.cache_hub.specs.Catching.{CaughtData, IsCaught, RefusesCatch}
use Rattle.cache_hub.specs.declared.catching.CatchNo.{CatchNo}
use Rattle.cache_hub.specs.declared.catching.CatchNo.TheVariants.{Lost, Memory}
use Rattle.cache_hub.specs.Hubs.{StandsFor}
use Rattle.metrics.specs.declared.caches.CacheMetrics.{CacheMetrics}
use Rattle.client_api.specs.Metered.{IsCacheMetrics}
use Rattle.cached_client.specs.Knowing.{KnowsAllOf}
use Rattle.cached_client.specs.CacheStates.{CacheStateData, IsFollowing}
use Rattle.cached_client.specs.Watching.{IsLostAt}
use Rattle.cached_client.proofs.KnowingLemmas.{stands_known}

module _ (base : List RowData) (window : Option ℕ) (resource : Resource) (c now : CacheStateData) (view : c ≡ now) (q : Pass RevisionData)
    (follows : IsFollowing base window resource c) (knows : KnowsAllOf now.pass q) where
  abbrev end : ℕ
  end = c.hub.cache.end

  abbrev there : Log
  there = log_upto base q end

  abbrev rest : List RevisionData
  rest = drop (end - q.first) q.seen

  known : KnowsAllOf c.pass q
  known = subst (λ (x : CacheStateData). KnowsAllOf x.pass q) (sym view) knows

  stands : StandsAt (λ log. StandsFor log c.hub) base q end
  stands = stands_known base c.pass q end known follows.stands

  ends : now.hub.cache.end ≡ end
  ends = ap (λ (x : CacheStateData). x.hub.cache.end) (sym view)

  pub end_seen : now.hub.cache.end ≤ end_from q.first q.seen
  end_seen = omega (arith, ends, stands.within)

  -- the log that is seen goes on from what it was up to there
  goes-on : grown there rest ≡ log_of base q
  goes-on i = record (log_of base q) { revisions = take-append-drop (end - q.first) q.seen i }

  end-there : end_of there ≡ end
  end-there = log_upto-end base q end stands.begun stands.within

  -- what stood at a revision up to there
  state-there : (at : ℕ) (rows : List RowData) → at ≤ end → IsStateAt there c.hub.cache.resource at rows → IsStateAt (log_of base q) resource at rows
  state-there at rows low is =
      let grown_there : IsStateAt (grown there rest) c.hub.cache.resource at rows = IsStateAt-grown there rest c.hub.cache.resource at rows (omega (arith, low, end-there)) is in
      subst (λ (z : Log × Resource). IsStateAt z.0 z.1 at rows) {x = (grown there rest, c.hub.cache.resource)} {y = (log_of base q, resource)} (λ i. (goes-on i, follows.cache_is i)) grown_there

  pub state_seen : (at : ℕ) (rows : List RowData) → at ≤ now.hub.cache.end → ((log : Log) → StandsFor log c.hub → IsStateAt log c.hub.cache.resource at rows) → IsStateAt (log_of base q) resource at rows
  state_seen at rows low is = state-there at rows (omega (arith, low, ends)) (is there stands.stands)

  -- what a monitor is told of it
  pub metered_seen : (cache : CacheMetrics) → cache.end ≡ end → ((log : Log) → StandsFor log c.hub → (rows : List RowData) × IsStateAt log c.hub.cache.resource end rows × (cache.objects ≡ length rows)) →
      IsCacheMetrics base resource q cache
  metered_seen cache same objects =
      let found = objects there stands.stands in record {
        seen = omega (arith, same, stands.within);
        rows = found.0;
        state = subst (λ n. IsStateAt (log_of base q) resource n found.0) (sym same) (state-there end found.0 (omega arith) found.1);
        objects = found.2;
      }

  -- a position below the floor of the ring
  pub lost_below : (s : Selection) (at floor room : ℕ) → s.resource ≡ resource → floor ≡ c.hub.cache.ring.floor → room ≡ c.hub.cache.ring.window → at < floor →
      IsLostAt base (unwrap_or window room) s at q (Lost at floor)
  lost_below s at floor room of same kept_room below =
      let cache = c.hub.cache in
      let evicted : IsEvicted there q.floor cache.ring.window cache.resource at cache.ring.floor =
      floors_evict there q.floor cache.resource cache.ring.window cache.ring.window_max cache.base cache.end cache.ring.floor at (omega (arith, end-there)) (omega (arith, follows.built, known.floor_on)) stands.stands.cache.ring.floor (omega (arith, below, same)) in
      let grown_there : IsEvicted (grown there rest) q.floor cache.ring.window cache.resource at cache.ring.floor =
      evictions_stay there rest q.floor q.floor cache.ring.window cache.resource at cache.ring.floor (omega arith) evicted in (
        refl,
        below,
        subst (λ (z : Log × ℕ × Resource × ℕ). IsEvicted z.0 q.floor z.1 z.2 at z.3)
            {x = (grown there rest, cache.ring.window, cache.resource, cache.ring.floor)} {y = (log_of base q, unwrap_or window room, s.resource, floor)}
            (λ i. (goes-on i, (follows.window_is ∙ ap (unwrap_or window) (sym kept_room)) i, (follows.cache_is ∙ sym of) i, sym same i)) grown_there,
      )

  -- what a watch is told that catches up
  module _ (s : Selection) (at many : ℕ) (caught : CaughtData) (is : (log : Log) → StandsFor log c.hub → IsCaught log s at end many caught) where
    caught-there : IsCaught there s at end many caught
    caught-there = is there stands.stands

    -- the transitions up to there stay
    kept : (a b : ℕ) → b ≤ max a end → transitions there s a b ≡ transitions (log_of base q) s a b
    kept a b low =
        sym (transitions_are_kept (selects s) there rest s.resource a b (omega (arith, low, end-there))) ∙ ap (λ (log : Log). transitions log s a b) goes-on

    pub caught_seen : IsCaught (log_of base q) s at end many caught
    caught_seen = record {
      exact = caught-there.exact ∙ kept at caught.upto (elim caught-there.stops [
        | inl same ↦ omega (arith, same)
        | inr h ↦ omega (arith, h.2)
      ]);
      fewest = caught-there.fewest;
      stops = elim caught-there.stops [
        | inl same ↦ inl same
        | inr h ↦ inr (h.0, h.1, h.2, λ none. h.3 (kept caught.upto end (omega arith) ∙ none))
      ];
    }

  -- whatever is answered
  pub caught_ok : (s : Selection) (at many last : ℕ) (answer : Result CaughtData CatchNo) → last ≡ now.hub.cache.end → IfOk answer (λ caught. (log : Log) → StandsFor log c.hub → IsCaught log s at end many caught) →
      IfOk answer (IsCaught (log_of base q) s at last many)
  caught_ok s at many last (Ok caught) same is = subst (λ n. IsCaught (log_of base q) s at n many caught) (sym (same ∙ ends)) (caught_seen s at many caught is)
  caught_ok s at many last (Err fault) same is = tt

  pub along_some : (s : Selection) (at last : ℕ) (answer : Option CaughtData) → last ≡ now.hub.cache.end → IfSome answer (λ caught. (log : Log) (many : ℕ) → 1 ≤ many → StandsFor log c.hub → IsCaught log s at end many caught) →
      IfSome answer (λ caught. (many : ℕ) → 1 ≤ many → IsCaught (log_of base q) s at last many caught)
  along_some s at last (Some caught) same is = λ many some. subst (λ n. IsCaught (log_of base q) s at n many caught) (sym (same ∙ ends)) (caught_seen s at many caught (λ log stands. is log many some stands))
  along_some s at last None same is = tt

  pub lost_err : (s : Selection) (at room : ℕ) (answer : Result CaughtData CatchNo) → s.resource ≡ resource → room ≡ c.hub.cache.ring.window →
      IfErr answer (RefusesCatch c.hub.cache at) → IfErr answer (IsLostAt base (unwrap_or window room) s at q)
  lost_err s at room (Ok caught) of kept_room is = tt
  lost_err s at room (Err (Lost asked floor)) of kept_room is = (is.0, is.2, (lost_below s at floor room of is.1 kept_room (omega (arith, is))).2)
  lost_err s at room (Err Memory) of kept_room is = tt
