use Rattle.std.proofs.Common.{refl, ap, sym}
use Rattle.std.specs.Prelude.{⊤}
use Rattle.sess_turns.proofs.StreamLemmas.{goes-broken, goes-on}
use Rattle.sess_turns.proofs.stream.stream.Goals as goal

pub returns-in_err-open-clause-streamed : goal.returns-in_err-open-clause-streamed
returns-in_err-open-clause-streamed g c = λ readings first.
    goes-broken _ _ _ _ _ _ _ _ _ _ readings first ⊤ c.from_residual.result c.in_err-open.field-0.0 c.from_residual.ensures.1 refl refl c.in_err-open.ensures

pub returns-clause-streamed : goal.returns-clause-streamed
returns-clause-streamed g c = λ readings first.
    goes-on _ _ _ _ _ _ _ _ _ _ readings first
    (record { readings = g.T.Clock.readings c.args.clock.now; written = g.K.Sink.written c.open.new.sink; settled = g.K.Sink.settled c.open.new.sink; faults = g.K.Sink.faults c.open.new.sink })
    c.turns.result _ (sym (ap (λ b. b.at) c.begun.view_is)) refl c.in_ok-open.ensures c.turns.ensures.stops
