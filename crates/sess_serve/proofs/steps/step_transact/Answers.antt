use Rattle.std.proofs.Common.{◌∙◌, refl, ap}
use Rattle.sess_reply.specs.Replies.{transacted}
use Rattle.up_store.specs.Transacting.{answers_in}
use Rattle.sess_serve.proofs.Replying.{acted_transacted, acts-own, did_of, told-in, lacks, lacks-transact, sends, unless-memory, unpaid_lacking}
use Rattle.sess_serve.proofs.steps.step_transact.Goals as goal

pub returns-then-is_told_transaction-clause-replied : goal.returns-then-is_told_transaction-clause-replied
returns-then-is_told_transaction-clause-replied g c = λ s.
    let told = rw c.if-is_told_transaction.true at c.is_told_transaction.ensures in
    sends _ _ _ _ _ _ c.by_reply.result c.send_transacted.result c.by_reply.ensures (transacted c.args.ask.now (answers_in c.transact-answer.result))
    c.requires (told-in c.transact-answer.result told, c.transact-answer.ensures.answer) c.transact-answer.ensures.onward c.transact-answer.ensures.sole
    (ap did_of c.transact-answer.ensures.facts ∙ acted_transacted c.args.ask.now c.transact-answer.result _)
    c.send_transacted.ensures

pub returns-then-is_told_transaction-clause-kept : goal.returns-then-is_told_transaction-clause-kept
returns-then-is_told_transaction-clause-kept g c = λ whole.
    let told = rw c.if-is_told_transaction.true at c.is_told_transaction.ensures in
    unless-memory c.by_reply.result (c.transact-answer.ensures.kept whole told)

pub returns-clause-replied : goal.returns-clause-replied
returns-clause-replied g c = λ s.
    let lacked = rw c.if-is_told_transaction.false at c.is_told_transaction.ensures in
    lacks _ _ _ _ _ _ refl refl c.transact-answer.ensures.onward
    (λ w. lacks-transact g.C.Client.base g.C.Client.mirror (g.C.Client.facts c.args.client.now) s _ _ _ c.args.ask.now (answers_in c.transact-answer.result)
    c.requires (ap answers_in lacked) (c.transact-answer.ensures.sole w))
    (ap did_of c.transact-answer.ensures.facts ∙ unpaid_lacking c.transact-answer.result _ _ lacked)

pub returns-then-is_told_transaction-clause-facts : goal.returns-then-is_told_transaction-clause-facts
returns-then-is_told_transaction-clause-facts g c = acts-own (g.C.Client.facts c.args.client.now) (g.C.Client.facts c.transact-answer.new.self) _ c.transact-answer.ensures.facts

pub returns-clause-facts : goal.returns-clause-facts
returns-clause-facts g c = acts-own (g.C.Client.facts c.args.client.now) (g.C.Client.facts c.transact-answer.new.self) _ c.transact-answer.ensures.facts
