-- What was accepted between two meetings.
use Rattle.std.proofs.Common.{subst}
use Rattle.up_store.specs.Replies.{IsWriteReply}
use Rattle.up_store.proofs.ReplyLemmas.{write-replied}
use Rattle.up_store.proofs.store.Store.write_shared.Goals as goal

pub returns-clause-reply : goal.returns-clause-reply
returns-clause-reply g c =
    subst (λ mirror. IsWriteReply g.N.LogFacts.base mirror c.args.told.now c.args.ask.now c.accept-answer.result c.meet-2.new.told) c.self.invariant.mirror_is
    (write-replied g.N.LogFacts.base c.self.inside.pen c.meet.new.pen c.accept-answer.new.pen c.args.told.now c.meet.new.told c.meet-2.new.told
    c.meet.ensures.same c.meet.ensures.met c.meet-2.ensures.met c.self.inside.mirror c.self.inside.history c.args.ask.now c.accept-answer.result
    c.accept-answer.ensures.answer)
