-- The object stands at its own key, which is the change's.
use Rattle.std.proofs.Common.{◌≡◌, List, ℕ, Some, None, option_map, ap, sym, ◌∙◌, subst, cond, bytes_eq}
use Rattle.rev_log.specs.Changes.{HasItsKey}
use Rattle.rev_log.specs.Rows.{Follows}
use Rattle.rev_log.proofs.MapLemmas.{Follows-written, Follows-removed, on_ok}
use Rattle.rev_log.proofs.rows.make_change.Goals as goal

pub returns-in_ok-clone-in-Some-clause-done : goal.returns-in_ok-clone-in-Some-clause-done
returns-in_ok-clone-in-Some-clause-done c =
    let new : c.args.change.now.new ≡ Some c.in_ok-clone-in-Some.field-0.value =
    sym (ap (λ change. change.new) c.change.view_is) ∙ ap (option_map (λ obj. obj.value)) c.in-Some.is ∙ ap Some (sym c.in_ok-clone-in-Some.ensures.cases) in
    on_ok c.put.result
    (Follows-written c.args.rows.now c.put.new.rows c.args.resource c.args.change.now c.args.rev c.in_ok-clone-in-Some.field-0.value (sym c.if-not-is_of.ensures) new (subst HasItsKey c.change.view_is c.change.invariant))
    c.put.ensures.done

pub returns-in-None-clause-done : goal.returns-in-None-clause-done
returns-in-None-clause-done c =
    let new : c.args.change.now.new ≡ None =
    sym (ap (λ change. change.new) c.change.view_is) ∙ ap (option_map (λ obj. obj.value)) c.in-None.is in
    Follows-removed c.args.rows.now c.take_out.new.rows c.args.resource c.args.change.now c.args.rev (sym c.if-not-is_of.ensures) new
    (subst (λ (at : List ℕ). Follows c.args.rows.now c.take_out.new.rows (λ key old. cond (bytes_eq key at) None old)) (ap (λ change. change.key) c.change.view_is) c.take_out.ensures)
