-- The log in which nothing was written, its history and its polls.
use Rattle.std.proofs.Common.{◌≡◌, ℕ, [], refl, sym, ap, ◌∙◌, subst, arith}
use Rattle.std.specs.Cmp.Lexicographic.{slice_cmp}
use Rattle.std.specs.Ordering.{nat_cmp}
use Rattle.kube_meta.specs.declared.resources.Resource.TheVariants.{Pods}
use Rattle.rev_log.specs.Logs.{Log}
use Rattle.event_ring.proofs.OrderLemmas.{sorted-none}
use Rattle.up_api.specs.Feeds.{PolledData, HistoryData}
use Rattle.cache_core.specs.Caches.{CacheData, AreFitting, IsCacheOf, log_at}
use Rattle.cache_core.specs.Feeding.{IsHistoryOf, Feeds}

abbrev pub empty_log : Log
empty_log = record { first = 1; base = []; revisions = [] }

none_fit : AreFitting empty_log
none_fit i revision found = absurd (cc)

pub empty_history : IsHistoryOf empty_log Pods (record { floor = 1; rows = []; revisions = []; upto = 1 })
empty_history = record {
  fitting = none_fit;
  log_floor = 1;
  is = record {
    begun = omega arith;
    kept = omega arith;
    ordered = omega arith;
    within = omega arith;
    state = record { rising = sorted-none (slice_cmp nat_cmp); exact = λ key. refl };
    parts = refl;
  };
}

pub empty_feeds : (history : HistoryData) (polled : PolledData) (cache : CacheData) → history ≡ record { floor = 1; rows = []; revisions = []; upto = 1 } → polled ≡ record { from = 1; upto = 1; revisions = [] } →
    cache.end ≡ history.upto → ((log : Log) → IsHistoryOf log Pods history → IsCacheOf (log_at log history.upto) cache) → Feeds empty_log cache polled
empty_feeds history polled cache is none end stands =
    let end_is : cache.end ≡ 1 = end ∙ ap (λ h. h.upto) is in
    let of : IsHistoryOf empty_log Pods history = subst (IsHistoryOf empty_log Pods) (sym is) empty_history in
    let all : Feeds empty_log cache (record { from = 1; upto = 1; revisions = [] }) = record {
      fitting = none_fit;
      stands = subst (λ (n : ℕ). IsCacheOf (log_at empty_log n) cache) (sym end) (stands empty_log of);
      begins = sym end_is;
      fed = record { onward = omega arith; within = omega arith; parts = refl };
    } in
    subst (Feeds empty_log cache) (sym none) all
