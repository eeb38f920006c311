-- Worlds go on from one to the next, and stay lawful as the log and its numbers grow.
use Rattle.std.proofs.Common.{◌≡◌, ℕ, ◌+◌, ◌≤◌, ◌^◌, List, [], ◌∷◌, ◌++◌, append_assoc, append-nil, length-append, refl, sym, ap, ◌∙◌, subst, arith}
use Rattle.kube_meta.specs.declared.resources.Resource.{Resource}
use Rattle.rev_front.specs.Passes.{Pass, IsWhole, Extends, FitFrom}
use Rattle.rev_front.proofs.Beginnings.{prefix_self, prefix_trans, prefix_grown, fit_push}
use Rattle.rev_front.proofs.Passing.{extends_self, extends_trans}
use Rattle.rev_log.specs.Changes.{RevisionData}
use Rattle.rev_log.specs.Logs.{Log, Fits, end_of, grown}
use Rattle.rev_log.proofs.FitLemmas.{are_logs}
use Rattle.select_all.specs.Selecting.{selects}
use Rattle.select_all.proofs.FloorSteps.{end-grows, floors_are_kept, evictions_stay}
use Rattle.select_all.proofs.ListingLaws.{listings_are_kept}
use Rattle.cache_world.specs.World.{CacheView, GivenData, ClientData, World, Party, whole_of, pass_of}
use Rattle.cache_world.specs.World.Party.{Store, Cache, Client}
use Rattle.cache_world.specs.Law.{IsWatch, IsGiven, IsCache, IsClient, IsKnowledge, IsLawful, GoesOn}
use Rattle.cache_world.proofs.PlaceLemmas.{each_some}
use Rattle.cache_world.proofs.PassLemmas.{store_knows, knows_on}
use Rattle.cache_world.proofs.WatchLemmas.{watch_grown}

-- ---- going on

log_on : (a b c : Log) (more further : List RevisionData) → b ≡ grown a more → c ≡ grown b further → c ≡ grown a (more ++ further)
log_on a b c more further first second =
    second ∙ ap (λ (l : Log). grown l further) first ∙ ap (λ (revisions : List RevisionData). record a { revisions = revisions }) (append_assoc a.revisions more further)

pub goes_trans : (a b c : World) → GoesOn a b → GoesOn b c → GoesOn a c
goes_trans a b c first second = record {
  log = (first.log.0 ++ second.log.0, log_on a.log b.log c.log first.log.0 second.log.0 first.log.1 second.log.1);
  floor = let x = first.floor in let y = second.floor in omega arith;
  generation = let x = first.generation in let y = second.generation in omega arith;
  windows = (second.windows.0 ∙ first.windows.0, second.windows.1 ∙ first.windows.1);
  passes = λ who. extends_trans (pass_of a who) (pass_of b who) (pass_of c who) (first.passes who) (second.passes who);
  ends = λ resource. let x = first.ends resource in let y = second.ends resource in omega arith;
  bases = λ resource. let x = first.bases resource in let y = second.bases resource in omega arith;
  given = λ i. prefix_trans (a.clients i).given (b.clients i).given (c.clients i).given (first.given i) (second.given i);
  losses = λ i. prefix_trans (a.clients i).losses (b.clients i).losses (c.clients i).losses (first.losses i) (second.losses i);
}

-- a step leads to a lawful world that goes on
abbrev pub Leads : World → World → Type 0
Leads world later = IsLawful later × GoesOn world later

-- ---- the log and its numbers grow

given_grown : (log : Log) (more : List RevisionData) (given : GivenData) → IsGiven log given → IsGiven (grown log more) given
given_grown log more given is = record {
  reached = let r = is.reached in omega (arith, end-grows log more);
  listing = listings_are_kept (selects given.selection) log more given.selection.resource given.at given.rows is.reached is.listing;
}

module _ (world : World) (more : List RevisionData) (floor generation : ℕ) where
  abbrev later : World
  later = record world { log = grown world.log more; floor = floor; generation = generation }

  module _ (is : IsLawful world) (floor_on : world.floor ≤ floor) (generation_on : world.generation ≤ generation) where
    cache_grown : (resource : Resource) (cache : CacheView) → IsCache world resource cache → IsCache later resource cache
    cache_grown resource cache c = record {
      begun = c.begun;
      kept = let k = c.kept in omega arith;
      ordered = c.ordered;
      within = let w = c.within in omega (arith, end-grows world.log more);
      floor_ok = (floors_are_kept world.log more resource world.window world.window_max cache.base cache.end cache.low c.within).0 c.floor_ok;
    }

    client_grown : (client : ClientData) → IsClient world client → IsClient later client
    client_grown client c = record {
      watch = each_some (λ watch. IsWatch world.log (world.caches watch.lane.selection.resource).end watch) (λ watch. IsWatch (grown world.log more) (world.caches watch.lane.selection.resource).end watch) client.watch
          (λ watch. watch_grown world.log more (world.caches watch.lane.selection.resource).end watch (is.caches watch.lane.selection.resource).within) c.watch;
      given = λ k d lt. given_grown world.log more _ (c.given k d lt);
      losses = λ k d lt. evictions_stay world.log more world.floor floor world.window _ _ _ floor_on (c.losses k d lt);
    }

    pass_grown : (pass : Pass RevisionData) → IsKnowledge (whole_of world) pass → IsKnowledge (whole_of later) pass
    pass_grown pass k = knows_on world later pass refl (prefix_grown world.log.revisions more) (end-grows world.log more) floor_on generation_on k

    passes_grown : IsWhole Fits (whole_of later) → (who : Party) → IsKnowledge (whole_of later) (pass_of later who)
    passes_grown whole Store = store_knows later 0 whole
    passes_grown whole (Cache resource) = pass_grown (world.caches resource).pass (is.passes (Cache resource))
    passes_grown whole (Client i) = pass_grown (world.clients i).pass (is.passes (Client i))

    passes_go : (who : Party) → Extends (pass_of world who) (pass_of later who)
    passes_go Store = record { log_is = refl; seat_is = refl; seen_on = prefix_grown world.log.revisions more; loads_on = prefix_self []; shown_on = end-grows world.log more; floor_on = floor_on; gen_on = generation_on }
    passes_go (Cache resource) = extends_self (world.caches resource).pass
    passes_go (Client i) = extends_self (world.clients i).pass

    pub grows : IsWhole Fits (whole_of later) → Leads world later
    grows whole = (
      record {
        log = are_logs (grown world.log more) whole.fitting is.log.base_rising is.log.base_old whole.bounded.0;
        whole = whole;
        passes = passes_grown whole;
        caches = λ resource. cache_grown resource (world.caches resource) (is.caches resource);
        clients = λ i. client_grown (world.clients i) (is.clients i);
      },
      record {
        log = (more, refl);
        floor = floor_on;
        generation = generation_on;
        windows = (refl, refl);
        passes = passes_go;
        ends = λ resource. omega arith;
        bases = λ resource. omega arith;
        given = λ i. prefix_self (world.clients i).given;
        losses = λ i. prefix_self (world.clients i).losses;
      },
    )

-- a write
pub writes : (world : World) (revision : RevisionData) → IsLawful world → end_of world.log + 1 ≤ 2 ^ 62 → Fits (end_of world.log + 1) revision → Leads world (record world { log = grown world.log (revision ∷ []) })
writes world revision is room fits =
    let whole = is.whole in
    let reached = whole.reached in
    let bounded = whole.bounded in
    let long = length-append world.log.revisions (revision ∷ []) in
    grows world (revision ∷ []) world.floor world.generation is (omega arith) (omega arith) (record {
      from = whole.from;
      reached = omega arith;
      bounded = (omega arith, bounded.1);
      fitting = fit_push Fits world.log.first world.log.revisions revision whole.fitting fits;
    })

-- a compaction, or a cut
pub raises : (world : World) (floor generation : ℕ) → IsLawful world → world.floor ≤ floor → floor ≤ end_of world.log → world.generation ≤ generation → generation ≤ 2 ^ 62 →
    Leads world (record world { floor = floor; generation = generation })
raises world floor generation is floor_on within generation_on bound =
    let whole = is.whole in
    let bounded = whole.bounded in
    let from = whole.from in
    let same = append-nil world.log.revisions in
    subst (λ (revisions : List RevisionData). Leads world (record world { log = record (world.log) { revisions = revisions }; floor = floor; generation = generation })) same
    (grows world [] floor generation is floor_on generation_on (record {
      from = omega arith;
      reached = omega (arith, ap (λ (revisions : List RevisionData). end_of (record (world.log) { revisions = revisions })) same);
      bounded = (subst (λ (revisions : List RevisionData). end_of (record (world.log) { revisions = revisions }) ≤ 2 ^ 62) (sym same) bounded.0, bound);
      fitting = subst (FitFrom Fits world.log.first) (sym same) whole.fitting;
    }))
