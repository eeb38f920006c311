-- What was added between two meetings.
use Rattle.up_store.proofs.ReplyLemmas.{anew-replied}
use Rattle.up_store.proofs.store.Store.begin_anew.Goals as goal

pub returns-clause-reply : goal.returns-clause-reply
returns-clause-reply g c =
    anew-replied g.N.LogFacts.base c.self.inside.pen c.meet.new.pen c.append_anew-answer.new.pen c.args.told.now c.meet.new.told c.meet-2.new.told
    c.meet.ensures.same c.meet.ensures.met c.meet-2.ensures.met c.args.from c.args.revisions.items c.args.to c.append_anew-answer.result c.append_anew-answer.ensures.answer
