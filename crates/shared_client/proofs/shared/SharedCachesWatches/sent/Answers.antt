use Rattle.client_api.specs.Facts.{Watched}
use Rattle.shared_client.proofs.LaneLemmas.{received_as}
use Rattle.shared_client.proofs.shared.SharedCachesWatches.sent.Goals as goal

pub returns-in-Some-clause-turn : goal.returns-in-Some-clause-turn
returns-in-Some-clause-turn g c =
    let goes_on = c.in-Some.ensures.goes_on in
    let watched : Watched = record { selection = c.args.selection.now; position = c.args.position } in
    received_as g.N.LogFacts.base c.received.new.told (record { selection = c.in-Some.batch.selection; position = c.in-Some.batch.from }) watched c.received.result
    (λ i. record { selection = goes_on.1 i; position = goes_on.0 i }) c.received.ensures.turn
