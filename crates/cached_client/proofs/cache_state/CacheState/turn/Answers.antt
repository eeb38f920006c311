use Rattle.std.proofs.Common.{arith}
use Rattle.std.proofs.lemmas.Result.{IfOk-weaker}
use Rattle.cached_client.proofs.WatchLemmas.{told_some}
use Rattle.cached_client.proofs.cache_state.CacheState.turn.Goals as goal

pub returns-clause-told : goal.returns-clause-told
returns-clause-told g c =
    let pumped = c.in_ok-pump.ensures.pumped in
    IfOk-weaker c.tell.result _ _ (told_some g.N.LogFacts.base c.args.selection.now c.args.turn.at c.pump.new.self.hub.cache.end c.args.turn.max c.args.told.now.shown c.tell.new.told
    c.requires.max (omega (arith, c.shown-shown.ensures.answer, pumped.reached, pumped.end_is)) c.tell.ensures.seen) c.tell.ensures.caught
