use Rattle.std.proofs.Common.{refl, ap}
use Rattle.sess_reply.specs.Replies.{listed}
use Rattle.sess_serve.proofs.Replying.{did_of, lacks, lacks-read, sends-in, sole-told, unless-memory}
use Rattle.sess_serve.proofs.steps.step_list.Goals as goal

pub returns-then-is_told_read-clause-replied : goal.returns-then-is_told_read-clause-replied
returns-then-is_told_read-clause-replied g c = λ s.
    let told = rw c.if-is_told_read.true at c.is_told_read.ensures in
    sends-in _ _ _ _ _ _ c.form_of.result c.form_of.ensures c.by_reply.result c.send_listed.result c.by_reply.ensures
    (listed c.args.ask.now c.list-answer.result) c.requires (told, c.list-answer.ensures.answer) c.list-answer.ensures.onward
    (λ w. sole-told _ _ c.list-answer.result told (c.list-answer.ensures.sole w)) (ap did_of c.list-answer.ensures.facts)
    c.send_listed.ensures

pub returns-then-is_told_read-clause-kept : goal.returns-then-is_told_read-clause-kept
returns-then-is_told_read-clause-kept g c = λ whole.
    let told = rw c.if-is_told_read.true at c.is_told_read.ensures in
    unless-memory c.by_reply.result (c.list-answer.ensures.kept whole told)

pub returns-clause-replied : goal.returns-clause-replied
returns-clause-replied g c = λ s.
    let lacked = rw c.if-is_told_read.false at c.is_told_read.ensures in
    lacks _ _ _ _ _ _ refl refl c.list-answer.ensures.onward
    (λ w. lacks-read g.C.Client.base g.C.Client.mirror (g.C.Client.facts c.args.client.now) s _ _ c.args.req.now c.list-answer.result lacked (c.list-answer.ensures.sole w)) (ap did_of c.list-answer.ensures.facts)
