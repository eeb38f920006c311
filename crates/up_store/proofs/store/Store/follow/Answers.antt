-- What was added between two meetings.
use Rattle.std.specs.Prelude.{max, ◌++◌}
use Rattle.up_store.specs.Hearing.{filled}
use Rattle.up_store.specs.Kept.{floor_behind}
use Rattle.up_store.proofs.ReplyLemmas.{follow-replied}
use Rattle.up_store.proofs.store.Store.follow.Goals as goal

pub returns-clause-reply : goal.returns-clause-reply
returns-clause-reply g c =
    follow-replied g.N.LogFacts.base c.self.inside.pen c.meet.new.pen c.append_following-answer.new.pen c.args.told.now c.meet.new.told c.meet-2.new.told
    c.meet.ensures.same c.meet.ensures.met c.meet-2.ensures.met c.args.from c.args.revisions.items c.args.to
    (max c.meet.new.pen.floor (floor_behind c.self.inside.history (c.meet.new.pen.log ++ filled c.args.from c.args.revisions.items c.args.to)))
    c.append_following-answer.result c.append_following-answer.ensures.answer
