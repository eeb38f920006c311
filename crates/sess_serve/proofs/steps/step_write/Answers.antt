use Rattle.std.proofs.Common.{◌∙◌, refl, ap}
use Rattle.sess_reply.specs.Replies.{wrote}
use Rattle.sess_serve.proofs.Replying.{acted_wrote, acts-own, did_of, lacks, lacks-write, sends, unless-memory, unpaid_lacking}
use Rattle.sess_serve.proofs.steps.step_write.Goals as goal

pub returns-then-is_told_write-clause-replied : goal.returns-then-is_told_write-clause-replied
returns-then-is_told_write-clause-replied g c = λ s.
    let told = rw c.if-is_told_write.true at c.is_told_write.ensures in
    sends _ _ _ _ _ _ c.by_reply.result c.send_written.result c.by_reply.ensures (wrote c.args.ask.now c.write-answer.result) c.requires
    (told, c.write-answer.ensures.answer) c.write-answer.ensures.onward c.write-answer.ensures.sole
    (ap did_of c.write-answer.ensures.facts ∙ acted_wrote c.args.ask.now c.write-answer.result _)
    c.send_written.ensures

pub returns-then-is_told_write-clause-kept : goal.returns-then-is_told_write-clause-kept
returns-then-is_told_write-clause-kept g c = λ whole.
    let told = rw c.if-is_told_write.true at c.is_told_write.ensures in
    unless-memory c.by_reply.result (c.write-answer.ensures.kept whole told)

pub returns-clause-replied : goal.returns-clause-replied
returns-clause-replied g c = λ s.
    let lacked = rw c.if-is_told_write.false at c.is_told_write.ensures in
    lacks _ _ _ _ _ _ refl refl c.write-answer.ensures.onward
    (λ w. lacks-write g.C.Client.base g.C.Client.mirror (g.C.Client.facts c.args.client.now) s _ _ _ c.args.ask.now c.write-answer.result c.requires lacked (c.write-answer.ensures.sole w))
    (ap did_of c.write-answer.ensures.facts ∙ unpaid_lacking c.write-answer.result _ _ lacked)

pub returns-then-is_told_write-clause-facts : goal.returns-then-is_told_write-clause-facts
returns-then-is_told_write-clause-facts g c = acts-own (g.C.Client.facts c.args.client.now) (g.C.Client.facts c.write-answer.new.self) _ c.write-answer.ensures.facts

pub returns-clause-facts : goal.returns-clause-facts
returns-clause-facts g c = acts-own (g.C.Client.facts c.args.client.now) (g.C.Client.facts c.write-answer.new.self) _ c.write-answer.ensures.facts
