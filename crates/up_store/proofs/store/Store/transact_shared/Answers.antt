-- What was accepted between two meetings.
use Rattle.std.proofs.Common.{subst}
use Rattle.up_store.specs.Replies.{IsTransactionReply}
use Rattle.up_store.specs.Transacting.{answers_in}
use Rattle.up_store.proofs.ReplyLemmas.{transaction-replied}
use Rattle.up_store.proofs.store.Store.transact_shared.Goals as goal

pub returns-clause-reply : goal.returns-clause-reply
returns-clause-reply g c =
    subst (λ asks. IsTransactionReply g.N.LogFacts.base g.N.LogFacts.mirror c.args.told.now asks (answers_in c.accept_all-answer.result) c.meet-2.new.told)
    c.items.ensures.value
    (subst (λ mirror. IsTransactionReply g.N.LogFacts.base mirror c.args.told.now c.items.result.now (answers_in c.accept_all-answer.result)
    c.meet-2.new.told) c.self.invariant.mirror_is
    (transaction-replied g.N.LogFacts.base c.self.inside.pen c.meet.new.pen c.accept_all-answer.new.pen c.args.told.now c.meet.new.told c.meet-2.new.told
    c.meet.ensures.same c.meet.ensures.met c.meet-2.ensures.met c.self.inside.mirror c.self.inside.history c.items.result.now
    (answers_in c.accept_all-answer.result)
    c.accept_all-answer.ensures.answer))
