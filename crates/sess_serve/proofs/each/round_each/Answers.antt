use Rattle.std.proofs.Common.{◌≡◌, Option, refl, inl, inr}
use Rattle.kube_meta.specs.declared.resources.Resource.TheVariants.{Pods}
use Rattle.http_read.specs.declared.request.Req.{Req}
use Rattle.sess_serve.specs.Each.{resource_of}
use Rattle.sess_serve.proofs.Rounds.{round-answered, round-clean, round-stopped}
use Rattle.sess_serve.proofs.EachRounds.{only-of}
use Rattle.sess_serve.proofs.Ending.{after-kept, after-flushed, after-settled, after-sink, after-source, after-reading, memory-anyway, stopped-source, stopped-sink}
use Rattle.sess_serve.proofs.Replying.{account_same, facts-rest, facts-still}
use Rattle.sess_serve.proofs.each.round_each.Goals as goal

pub returns-in-Ok-Some-clause-round : goal.returns-in-Ok-Some-clause-round
returns-in-Ok-Some-clause-round g c = record {
  resource = resource_of c.in-Ok-Some.req;
  did = c.answer_each-came.ensures.answered.did;
  did_then = c.answer_each-came.ensures.answered.did_then;
  round = round-answered (λ req. resource_of req ≡ resource_of c.in-Ok-Some.req) _ _ _ _ _ _ _ _ _ _ _ _ _ _ c.in-Ok-Some.req refl c.answer_each-came.result c.end_after.result
      (rw c.in-Ok-Some.field-0-is at c.in-Ok-Some.ensures.reads) c.answer_each-came.ensures.answered.answered c.end_after.ensures;
  only = c.answer_each-came.ensures.answered.only;
}

pub returns-in-Ok-Some-clause-kept_pods : goal.returns-in-Ok-Some-clause-kept_pods
returns-in-Ok-Some-clause-kept_pods g c =
    λ w. after-kept c.answer_each-came.result c.in-Ok-Some.req.close c.end_after.result c.end_after.ensures _ (c.answer_each-came.ensures.kept_pods w)

pub returns-in-Ok-Some-clause-kept_config_maps : goal.returns-in-Ok-Some-clause-kept_config_maps
returns-in-Ok-Some-clause-kept_config_maps g c =
    λ w. after-kept c.answer_each-came.result c.in-Ok-Some.req.close c.end_after.result c.end_after.ensures _ (c.answer_each-came.ensures.kept_config_maps w)

pub returns-in-Ok-Some-clause-kept_deployments : goal.returns-in-Ok-Some-clause-kept_deployments
returns-in-Ok-Some-clause-kept_deployments g c =
    λ w. after-kept c.answer_each-came.result c.in-Ok-Some.req.close c.end_after.result c.end_after.ensures _ (c.answer_each-came.ensures.kept_deployments w)

pub returns-in-Ok-Some-clause-reading : goal.returns-in-Ok-Some-clause-reading
returns-in-Ok-Some-clause-reading g c =
    after-reading c.answer_each-came.result c.in-Ok-Some.req.close c.end_after.result c.end_after.ensures c.in-Ok-Some.ensures.reads.refusal

pub returns-in-Ok-Some-clause-flushed : goal.returns-in-Ok-Some-clause-flushed
returns-in-Ok-Some-clause-flushed g c =
    after-flushed c.answer_each-came.result c.in-Ok-Some.req.close c.end_after.result c.end_after.ensures _ c.answer_each-came.ensures.answered.answered.settled

pub returns-in-Ok-Some-clause-settled : goal.returns-in-Ok-Some-clause-settled
returns-in-Ok-Some-clause-settled g c =
    λ before. after-settled c.answer_each-came.result c.in-Ok-Some.req.close c.end_after.result c.end_after.ensures _ c.answer_each-came.ensures.answered.answered.settled

pub returns-in-Ok-Some-clause-quiet_source : goal.returns-in-Ok-Some-clause-quiet_source
returns-in-Ok-Some-clause-quiet_source g c = after-source c.answer_each-came.result c.in-Ok-Some.req.close c.end_after.result c.end_after.ensures c.in-Ok-Some.ensures.quiet

pub returns-in-Ok-Some-clause-quiet_sink : goal.returns-in-Ok-Some-clause-quiet_sink
returns-in-Ok-Some-clause-quiet_sink g c =
    after-sink c.answer_each-came.result c.in-Ok-Some.req.close c.end_after.result c.end_after.ensures _ c.answer_each-came.ensures.answered.answered.counts

pub returns-in-Ok-None-clause-round : goal.returns-in-Ok-None-clause-round
returns-in-Ok-None-clause-round g c = record {
  resource = Pods;
  did = (g.P.Client.facts c.args.clients.now.pods).did;
  did_then = (g.P.Client.facts c.args.clients.now.pods).did;
  round = round-clean (λ req. resource_of req ≡ Pods) _ _ _ _ _ _ _ _ _ _ _ _ refl refl refl (rw c.in-Ok-None.field-0-is at c.in-Ok-None.ensures.reads);
  only = only-of _ _ _ _ (inl refl) (inr refl) (inr refl);
}

pub returns-in-Err-clause-round : goal.returns-in-Err-clause-round
returns-in-Err-clause-round g c = record {
  resource = Pods;
  did = (g.P.Client.facts c.args.clients.now.pods).did;
  did_then = (g.P.Client.facts c.args.clients.now.pods).did;
  round = round-stopped (λ req. resource_of req ≡ Pods) _ _ _ _ _ _ _ _ _ _ _ _ (account_same _ _ _ _ c.tell_refused.ensures.pass refl) refl _ _ c.in-Err.fault c.stop.result
      c.in-Err.ensures.reads c.stop.ensures;
  only = only-of _ _ _ _ (inl refl) (inr refl) (inr refl);
}

pub returns-in-Err-clause-facts_pods : goal.returns-in-Err-clause-facts_pods
returns-in-Err-clause-facts_pods g c = facts-rest (g.P.Client.facts c.args.clients.now.pods) (g.P.Client.facts c.tell_refused.new.client) (facts-still (g.P.Client.facts c.args.clients.now.pods) (g.P.Client.facts c.tell_refused.new.client) c.tell_refused.ensures.facts)

pub returns-in-Err-clause-facts_config_maps : goal.returns-in-Err-clause-facts_config_maps
returns-in-Err-clause-facts_config_maps g c = refl

pub returns-in-Err-clause-facts_deployments : goal.returns-in-Err-clause-facts_deployments
returns-in-Err-clause-facts_deployments g c = refl

pub returns-in-Err-clause-kept_pods : goal.returns-in-Err-clause-kept_pods
returns-in-Err-clause-kept_pods g c = λ w. memory-anyway c.stop.result (c.tell_refused.ensures.kept w)

pub returns-in-Err-clause-kept_config_maps : goal.returns-in-Err-clause-kept_config_maps
returns-in-Err-clause-kept_config_maps g c = λ w. memory-anyway c.stop.result w

pub returns-in-Err-clause-kept_deployments : goal.returns-in-Err-clause-kept_deployments
returns-in-Err-clause-kept_deployments g c = λ w. memory-anyway c.stop.result w

pub returns-in-Err-clause-settled : goal.returns-in-Err-clause-settled
returns-in-Err-clause-settled g c = c.stop.ensures.settled

pub returns-in-Err-clause-quiet_source : goal.returns-in-Err-clause-quiet_source
returns-in-Err-clause-quiet_source g c = stopped-source _ (Option Req) c.in-Err.fault c.stop.ensures.written c.stop.result c.stop.ensures.stops c.in-Err.ensures.quiet

pub returns-in-Err-clause-quiet_sink : goal.returns-in-Err-clause-quiet_sink
returns-in-Err-clause-quiet_sink g c = stopped-sink c.stop.result _ c.stop.ensures.counts
