use Rattle.std.proofs.Common.{◌<◌, ◌≤◌, length, ap, sym, subst, arith}
use Rattle.std.specs.Prelude.{IfOk}
use Rattle.std.proofs.lemmas.Result.{IfOk-weaker}
use Rattle.cache_core.specs.Caches.{CacheData}
use Rattle.cached_client.proofs.WatchLemmas.{caught_within, told_caught}
use Rattle.cached_client.proofs.cache_state.CacheState.turn_by_ring.Goals as goal

pub returns-clause-told : goal.returns-clause-told
returns-clause-told g c =
    let pumped = c.in_ok-pump.ensures.pumped in
    IfOk-weaker c.catch_up.result _ _ (told_caught g.N.LogFacts.base c.args.selection.now c.args.turn.at c.pump.new.self.hub.cache.end c.args.turn.max c.args.told.now.shown c.catch_up.new.told
    c.requires.max (omega (arith, c.shown-shown.ensures.answer, pumped.reached, pumped.end_is)) c.catch_up.ensures.seen) c.catch_up.ensures.caught

pub returns-clause-within : goal.returns-clause-within
returns-clause-within g c =
    subst (λ n. IfOk c.catch_up.result (λ caught. 0 < length caught.lines → caught.upto ≤ n)) (sym (ap (λ (x : CacheData). x.end) c.catch_up.ensures.same.cache))
    (IfOk-weaker c.catch_up.result _ _ (caught_within _ c.args.selection.now c.args.turn.at c.pump.new.self.hub.cache.end c.args.turn.max) c.catch_up.ensures.caught)
