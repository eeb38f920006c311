use Rattle.sess_turns.proofs.StreamLemmas.{streamed-told}
use Rattle.sess_turns.proofs.stream.serve_stream.Goals as goal

pub returns-clause-streamed : goal.returns-clause-streamed
returns-clause-streamed g c =
    streamed-told _ _ _ _ _ _ _ _ (g.C.Client.facts c.args.client.now) _ _ _ _ _ _ _ _ c.tick.ensures.facts c.tick.ensures.pass
    c.end_watch.ensures.pass c.tick.ensures.whole (c.stream-answer.ensures.streamed _ c.now-start.ensures.noted)
