use Rattle.std.proofs.Common.{◌∙◌, rules, sym}
use Rattle.cached_client.proofs.KnowingLemmas.{met_theirs}
use Rattle.shared_client.proofs.LaneLemmas.{turn_received}
use Rattle.shared_client.proofs.lanes.received.Goals as goal

pub returns-clause-turn : goal.returns-clause-turn
returns-clause-turn g c = λ window p.
    let b = c.batch.inside in
    turn_received g.N.LogFacts.base window p c.hear.new.self c.args.batch b.piece.value b.note _ _ c.in_ok-lines.lines c.batch.view_is c.batch.invariant (search rules) (search rules) c.in_ok-lines.ensures
    (met_theirs c.args.told.now b.note c.hear.new.self (c.shown-mine.ensures.name ∙ sym c.shown-theirs.ensures.name) c.hear.ensures.met)
