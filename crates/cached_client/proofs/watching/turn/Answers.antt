use Rattle.std.proofs.Common.{subst}
use Rattle.std.specs.Prelude.{IfOk}
use Rattle.std.proofs.lemmas.Result.{IfOk-weaker}
use Rattle.client_api.specs.Facts.{Watched}
use Rattle.client_api.specs.Turns.{IsWatchTurn}
use Rattle.cached_client.proofs.watching.turn.Goals as goal

pub returns-in-Some-clause-turn : goal.returns-in-Some-clause-turn
returns-in-Some-clause-turn g c =
    let window = (g.C.Caches.facts c.args.caches.now).window in
    let p = c.args.told.now in
    subst (λ (w : Watched). IfOk c.in-Some.took (λ took. IsWatchTurn g.N.LogFacts.base window p w took c.sent-sent.new.told)) c.watch.view_is
    (IfOk-weaker c.in-Some.took _ _ (λ took is. is window p) c.in-Some.ensures.turn)
