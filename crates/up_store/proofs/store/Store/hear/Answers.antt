-- What was added between two meetings.
use Rattle.std.proofs.Common.{◌+◌, sym, ap, ◌∙◌}
use Rattle.rev_front.specs.Passes.{revision}
use Rattle.up_store.proofs.ReplyLemmas.{hear-replied}
use Rattle.up_store.proofs.store.Store.hear.Goals as goal

pub returns-clause-reply : goal.returns-clause-reply
returns-clause-reply g c =
    hear-replied g.N.LogFacts.base c.self.inside.pen c.meet.new.pen c.append-answer.new.pen c.args.told.now c.meet.new.told c.meet-2.new.told
    c.meet.ensures.same c.meet.ensures.met c.meet-2.ensures.met c.self.inside.history c.args.revision c.append-answer.result
    (c.requires.next ∙ ap (λ w. revision w + 1) (sym (c.meet.ensures.same ∙ ap (λ s. s.whole) c.self.view_is))) c.append-answer.ensures.answer
