use Rattle.std.proofs.Common.{ap, sym, ◌∙◌, Some}
use Rattle.rev_log.proofs.MapLemmas.{on_ok}
use Rattle.cache_core.proofs.UndoLemmas.{undone, none_there}
use Rattle.cache_core.proofs.writing.undo_at.Goals as goal

pub returns-in-Some : goal.returns-in-Some
returns-in-Some c =
    on_ok c.write.result
    (λ is. undone c.args.tree.now c.write.new.tree c.args.span.now c.args.at _ (sym c.in-Some.ensures ∙ ap (λ e. Some e) (sym c.event.view_is)) c.event.invariant.before_keyed is)
    c.write.ensures.done

pub returns-in-None : goal.returns-in-None
returns-in-None c = λ key row before. absurd (none_there c.args.span.now c.args.at c.requires (sym c.in-None.ensures))
