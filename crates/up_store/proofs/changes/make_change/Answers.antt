-- The row stands at its own key, which is the change's.
use Rattle.std.proofs.Common.{◌≡◌, Some, None, sym, ap, ◌∙◌, subst}
use Rattle.obj_tree.specs.Maps.{without}
use Rattle.rev_log.specs.Changes.{HasItsKey}
use Rattle.rev_log.proofs.MapLemmas.{on_ok}
use Rattle.up_store.specs.Shared.{shared_row, made_row}
use Rattle.up_store.proofs.StepLemmas.{stepped-other, stepped-written, stepped-removed}
use Rattle.up_store.proofs.changes.make_change.Goals as goal

pub returns-then-not-is_of-clause-done : goal.returns-then-not-is_of-clause-done
returns-then-not-is_of-clause-done c = stepped-other c.args.rows.now c.args.resource c.args.change.now c.args.rev (sym c.if-not-is_of.ensures)

pub returns-in-Some-clause-done : goal.returns-in-Some-clause-done
returns-in-Some-clause-done c =
    let made : Some c.in-Some.shown.value ≡ made_row c.args.rev c.args.change.now = sym (ap shared_row c.in-Some.is) ∙ c.requires in
    on_ok c.put.result
    (stepped-written c.args.rows.now c.put.new.rows c.args.resource c.args.change.now c.args.rev c.in-Some.shown.value (sym c.if-not-is_of.ensures) (subst HasItsKey c.change.view_is c.change.invariant) made)
    c.put.ensures.done

pub returns-in-None-clause-done : goal.returns-in-None-clause-done
returns-in-None-clause-done c =
    let made : None ≡ made_row c.args.rev c.args.change.now = sym (ap shared_row c.in-None.is) ∙ c.requires in
    let key : without c.args.rows.now c.change.inside.key ≡ without c.args.rows.now c.args.change.now.key = ap (without c.args.rows.now) (ap (λ change. change.key) c.change.view_is) in
    on_ok c.take_out.result
    (λ (gone : c.take_out.new.rows ≡ without c.args.rows.now c.change.inside.key).
    stepped-removed c.args.rows.now c.take_out.new.rows c.args.resource c.args.change.now c.args.rev (sym c.if-not-is_of.ensures) made (gone ∙ key))
    c.take_out.ensures.done
