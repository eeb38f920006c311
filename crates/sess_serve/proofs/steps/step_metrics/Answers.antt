use Rattle.std.proofs.Common.{refl, ap, inl}
use Rattle.sess_reply.specs.Replies.{metered}
use Rattle.sess_serve.proofs.Replying.{did_of, lacks, sends, unless-memory}
use Rattle.sess_serve.proofs.steps.step_metrics.Goals as goal

pub returns-in-Ok-clause-replied : goal.returns-in-Ok-clause-replied
returns-in-Ok-clause-replied g c = λ s.
    sends _ _ _ _ _ _ c.by_reply.result c.send_metered.result c.by_reply.ensures (metered c.in-Ok.told) c.requires c.in-Ok.ensures.answer
    c.in-Ok.ensures.onward c.in-Ok.ensures.sole (ap did_of c.in-Ok.ensures.facts)
    c.send_metered.ensures

pub returns-in-Ok-clause-kept : goal.returns-in-Ok-clause-kept
returns-in-Ok-clause-kept g c = λ whole. unless-memory c.by_reply.result (c.in-Ok.ensures.kept whole)

pub returns-in-Err-clause-replied : goal.returns-in-Err-clause-replied
returns-in-Err-clause-replied g c = λ s. lacks _ _ _ _ _ _ refl refl c.in-Err.ensures.onward (λ w. inl (c.in-Err.ensures.sole w)) (ap did_of c.in-Err.ensures.facts)
