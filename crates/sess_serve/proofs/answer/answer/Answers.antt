use Rattle.std.proofs.Common.{refl, ap, inl, sym}
use Rattle.client_api.proofs.LawLemmas.{onwards_do_join}
use Rattle.sess_reply.specs.Replies.{unrouted}
use Rattle.sess_turns.proofs.AloneLemmas.{sole-same}
use Rattle.sess_serve.proofs.Replying.{did_of, sends, lacks, onward-is, facts-rest, facts-still, unless-memory}
use Rattle.sess_serve.proofs.WatchLemmas.{unrouted-is}
use Rattle.sess_serve.proofs.answer.answer.Goals as goal

pub returns-in-Memory-clause-answered : goal.returns-in-Memory-clause-answered
returns-in-Memory-clause-answered g c = lacks _ _ _ _ _ _ refl refl (onwards_do_join.0 _) (λ w. inl refl) refl _

pub returns-in_default-clause-answered : goal.returns-in_default-clause-answered
returns-in_default-clause-answered g c =
    sends _ _ _ _ _ _ c.by_reply.result c.send_unrouted.result c.by_reply.ensures (unrouted c.in-Err.fault)
    (unrouted-is _ _ c.in_default.not-Memory c.in-Err.ensures.refused) (sym c.tell_refused.ensures.pass) (onward-is _ _ (sym c.tell_refused.ensures.pass))
    (λ w. sole-same _ _ c.tell_refused.ensures.pass) (ap did_of c.tell_refused.ensures.facts) c.send_unrouted.ensures _

pub returns-in_default-clause-facts : goal.returns-in_default-clause-facts
returns-in_default-clause-facts g c = facts-rest (g.C.Client.facts c.args.client.now) (g.C.Client.facts c.tell_refused.new.client) (facts-still (g.C.Client.facts c.args.client.now) (g.C.Client.facts c.tell_refused.new.client) c.tell_refused.ensures.facts)

pub returns-in_default-clause-kept : goal.returns-in_default-clause-kept
returns-in_default-clause-kept g c = λ whole. unless-memory c.by_reply.result (c.tell_refused.ensures.kept whole)
