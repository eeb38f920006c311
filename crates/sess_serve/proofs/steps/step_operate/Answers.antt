use Rattle.std.proofs.Common.{sym, ap, ◌∙◌}
use Rattle.sess_reply.specs.Replies.{unoperated}
use Rattle.sess_turns.proofs.AloneLemmas.{sole-same}
use Rattle.sess_serve.proofs.Replying.{acts-none, did_of, sends, onward-is, unless-memory}
use Rattle.sess_serve.proofs.steps.step_operate.Goals as goal

pub returns-else-is_operable-clause-replied : goal.returns-else-is_operable-clause-replied
returns-else-is_operable-clause-replied g c = λ s.
    sends _ _ _ _ _ _ c.by_reply.result c.send_unoperated.result c.by_reply.ensures (unoperated c.args.ask) c.requires
    (sym c.is_operable.ensures ∙ c.if-is_operable.false, sym c.tell_refused.ensures.pass) (onward-is _ _ (sym c.tell_refused.ensures.pass))
    (λ w. sole-same _ _ c.tell_refused.ensures.pass) (ap did_of c.tell_refused.ensures.facts) c.send_unoperated.ensures

pub returns-else-is_operable-clause-kept : goal.returns-else-is_operable-clause-kept
returns-else-is_operable-clause-kept g c = λ whole. unless-memory c.by_reply.result (c.tell_refused.ensures.kept whole)

pub returns-else-is_operable-clause-facts : goal.returns-else-is_operable-clause-facts
returns-else-is_operable-clause-facts g c = acts-none (g.C.Client.facts c.args.client.now) (g.C.Client.facts c.tell_refused.new.client) c.tell_refused.ensures.facts
