use Rattle.std.proofs.Common.{◌∙◌, refl, ap}
use Rattle.sess_reply.specs.Replies.{operated}
use Rattle.sess_serve.proofs.Replying.{acted_operated, acts-own, did_of, lacks, lacks-operate, sends, uncommanded_lacking, unless-memory}
use Rattle.sess_serve.proofs.steps.operate.Goals as goal

pub returns-then-is_told_operation-clause-replied : goal.returns-then-is_told_operation-clause-replied
returns-then-is_told_operation-clause-replied g c = λ s.
    let told = rw c.if-is_told_operation.true at c.is_told_operation.ensures in
    sends _ _ _ _ _ _ c.by_reply.result c.send_operated.result c.by_reply.ensures (operated c.args.ask c.operate-answer.result) c.requires.route
    (c.requires.operable, told, c.operate-answer.ensures.answer) c.operate-answer.ensures.onward c.operate-answer.ensures.sole
    (ap did_of c.operate-answer.ensures.facts ∙ acted_operated c.args.ask c.operate-answer.result _)
    c.send_operated.ensures

pub returns-then-is_told_operation-clause-kept : goal.returns-then-is_told_operation-clause-kept
returns-then-is_told_operation-clause-kept g c = λ whole.
    let told = rw c.if-is_told_operation.true at c.is_told_operation.ensures in
    unless-memory c.by_reply.result (c.operate-answer.ensures.kept whole told)

pub returns-else-is_told_operation-clause-replied : goal.returns-else-is_told_operation-clause-replied
returns-else-is_told_operation-clause-replied g c = λ s.
    let lacked = rw c.if-is_told_operation.false at c.is_told_operation.ensures in
    lacks _ _ _ _ _ _ refl refl c.operate-answer.ensures.onward
    (λ w. lacks-operate g.C.Client.base g.C.Client.mirror (g.C.Client.facts c.args.client.now) s _ _ c.args.req.now c.args.ask c.operate-answer.result lacked (c.operate-answer.ensures.sole w))
    (ap did_of c.operate-answer.ensures.facts ∙ uncommanded_lacking c.args.ask c.operate-answer.result _ _ lacked)

pub returns-then-is_told_operation-clause-facts : goal.returns-then-is_told_operation-clause-facts
returns-then-is_told_operation-clause-facts g c = acts-own (g.C.Client.facts c.args.client.now) (g.C.Client.facts c.operate-answer.new.self) _ c.operate-answer.ensures.facts

pub returns-else-is_told_operation-clause-facts : goal.returns-else-is_told_operation-clause-facts
returns-else-is_told_operation-clause-facts g c = acts-own (g.C.Client.facts c.args.client.now) (g.C.Client.facts c.operate-answer.new.self) _ c.operate-answer.ensures.facts
