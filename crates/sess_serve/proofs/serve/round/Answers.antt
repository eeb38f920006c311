use Rattle.std.proofs.Common.{refl, ap, Option}
use Rattle.http_read.specs.declared.request.Req.{Req}
use Rattle.sess_serve.proofs.Rounds.{round-answered, round-clean, round-stopped}
use Rattle.sess_serve.proofs.Ending.{after-kept, after-flushed, after-settled, after-sink, after-source, after-reading, memory-anyway, stopped-source, stopped-sink}
use Rattle.sess_serve.proofs.Replying.{account_same, did_of, facts-rest, facts-still}
use Rattle.sess_serve.proofs.serve.round.Goals as goal

pub returns-in-Ok-Some-clause-round : goal.returns-in-Ok-Some-clause-round
returns-in-Ok-Some-clause-round g c =
    round-answered _ _ _ _ _ _ _ _ _ _ _ _ _ _ _ c.in-Ok-Some.req tt c.answer-came.result c.end_after.result (rw c.in-Ok-Some.field-0-is at c.in-Ok-Some.ensures.reads)
    c.answer-came.ensures.answered c.end_after.ensures

pub returns-in-Ok-Some-clause-kept : goal.returns-in-Ok-Some-clause-kept
returns-in-Ok-Some-clause-kept g c = λ w. after-kept c.answer-came.result c.in-Ok-Some.req.close c.end_after.result c.end_after.ensures _ (c.answer-came.ensures.kept w)

pub returns-in-Ok-Some-clause-reading : goal.returns-in-Ok-Some-clause-reading
returns-in-Ok-Some-clause-reading g c =
    after-reading c.answer-came.result c.in-Ok-Some.req.close c.end_after.result c.end_after.ensures c.in-Ok-Some.ensures.reads.refusal

pub returns-in-Ok-Some-clause-flushed : goal.returns-in-Ok-Some-clause-flushed
returns-in-Ok-Some-clause-flushed g c = after-flushed c.answer-came.result c.in-Ok-Some.req.close c.end_after.result c.end_after.ensures _ c.answer-came.ensures.answered.settled

pub returns-in-Ok-Some-clause-settled : goal.returns-in-Ok-Some-clause-settled
returns-in-Ok-Some-clause-settled g c = λ before. after-settled c.answer-came.result c.in-Ok-Some.req.close c.end_after.result c.end_after.ensures _ c.answer-came.ensures.answered.settled

pub returns-in-Ok-Some-clause-quiet_source : goal.returns-in-Ok-Some-clause-quiet_source
returns-in-Ok-Some-clause-quiet_source g c = after-source c.answer-came.result c.in-Ok-Some.req.close c.end_after.result c.end_after.ensures c.in-Ok-Some.ensures.quiet

pub returns-in-Ok-Some-clause-quiet_sink : goal.returns-in-Ok-Some-clause-quiet_sink
returns-in-Ok-Some-clause-quiet_sink g c = after-sink c.answer-came.result c.in-Ok-Some.req.close c.end_after.result c.end_after.ensures _ c.answer-came.ensures.answered.counts

pub returns-in-Ok-None-clause-round : goal.returns-in-Ok-None-clause-round
returns-in-Ok-None-clause-round g c = round-clean _ _ _ _ _ _ _ _ _ _ _ _ _ refl refl refl (rw c.in-Ok-None.field-0-is at c.in-Ok-None.ensures.reads)

pub returns-in-Err-clause-round : goal.returns-in-Err-clause-round
returns-in-Err-clause-round g c = round-stopped _ _ _ _ _ _ _ _ _ _ _ _ _ (account_same _ _ _ _ c.tell_refused.ensures.pass (ap did_of c.tell_refused.ensures.facts)) refl _ _ c.in-Err.fault c.stop.result c.in-Err.ensures.reads c.stop.ensures

pub returns-in-Err-clause-kept : goal.returns-in-Err-clause-kept
returns-in-Err-clause-kept g c = λ w. memory-anyway c.stop.result (c.tell_refused.ensures.kept w)

pub returns-in-Err-clause-facts : goal.returns-in-Err-clause-facts
returns-in-Err-clause-facts g c = facts-rest (g.C.Client.facts c.args.client.now) (g.C.Client.facts c.tell_refused.new.client) (facts-still (g.C.Client.facts c.args.client.now) (g.C.Client.facts c.tell_refused.new.client) c.tell_refused.ensures.facts)

pub returns-in-Err-clause-settled : goal.returns-in-Err-clause-settled
returns-in-Err-clause-settled g c = c.stop.ensures.settled

pub returns-in-Err-clause-quiet_source : goal.returns-in-Err-clause-quiet_source
returns-in-Err-clause-quiet_source g c = stopped-source _ (Option Req) c.in-Err.fault c.stop.ensures.written c.stop.result c.stop.ensures.stops c.in-Err.ensures.quiet

pub returns-in-Err-clause-quiet_sink : goal.returns-in-Err-clause-quiet_sink
returns-in-Err-clause-quiet_sink g c = stopped-sink c.stop.result _ c.stop.ensures.counts
