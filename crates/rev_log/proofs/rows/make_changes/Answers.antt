-- One more change is one more step of the fold, and at the end they are all. Where one can't be made, those before it are.
use Rattle.std.proofs.Common.{◌≡◌, ◌<◌, ℕ, take, fold, length, get_or, ap, ◌∙◌, subst}
use Rattle.rev_log.specs.Rows.{Holds}
use Rattle.rev_log.specs.States.{row_after}
use Rattle.rev_log.proofs.MapLemmas.{Holds-same, fold_step, take_all}
use Rattle.rev_log.proofs.MapLemmas.{on_err}
use Rattle.rev_log.proofs.rows.make_changes.Goals as goal

pub loop-change-preserved : goal.loop-change-preserved
loop-change-preserved c = λ stands holds.
    let items : c.deref-change-items.result.now ≡ c.args.revision.now.changes = c.deref-change-items.ensures.value ∙ ap (λ revision. revision.changes) c.revision.view_is in
    let number : c.revision.inside.rev ≡ c.args.revision.now.rev = ap (λ revision. revision.rev) c.revision.view_is in
    let at : c.change-item.result ≡ get_or c.args.revision.now.changes c.loop-change.change-index c.change-item.result = rw (← items) c.change-item.is in
    let inside : c.loop-change.change-index < length c.args.revision.now.changes = rw (← items) c.loop-change-test.true in
    let step = c.in_ok-make_change.ensures.done (λ key. fold (row_after c.args.resource key c.args.revision.now.rev) (stands key) (take c.loop-change.change-index c.args.revision.now.changes)) (c.loop-change.invariant stands holds) in
    let numbered : Holds c.make_change.new.rows (λ key. row_after c.args.resource key c.args.revision.now.rev (fold (row_after c.args.resource key c.args.revision.now.rev) (stands key) (take c.loop-change.change-index c.args.revision.now.changes)) c.change-item.result) =
    subst (λ (n : ℕ). Holds c.make_change.new.rows (λ key. row_after c.args.resource key n (fold (row_after c.args.resource key c.args.revision.now.rev) (stands key) (take c.loop-change.change-index c.args.revision.now.changes)) c.change-item.result)) number step in
    Holds-same c.make_change.new.rows _ _ (λ key. fold_step (row_after c.args.resource key c.args.revision.now.rev) (stands key) c.args.revision.now.changes c.loop-change.change-index c.change-item.result inside at) numbered

pub returns-clause-done : goal.returns-clause-done
returns-clause-done c = λ stands holds.
    let items : c.deref-change-items.result.now ≡ c.args.revision.now.changes = c.deref-change-items.ensures.value ∙ ap (λ revision. revision.changes) c.revision.view_is in
    let whole : take c.loop-change.change-index c.args.revision.now.changes ≡ c.args.revision.now.changes =
    take_all c.args.revision.now.changes c.loop-change.change-index (rw (← items) c.loop-change-test.false) in
    Holds-same c.loop-change.rows _ _ (λ key. ap (fold (row_after c.args.resource key c.args.revision.now.rev) (stands key)) whole) (c.loop-change.invariant stands holds)

pub returns-in_err-make_change-clause-partly : goal.returns-in_err-make_change-clause-partly
returns-in_err-make_change-clause-partly c =
    on_err c.from_residual.result (c.loop-change.change-index, λ stands holds. c.in_err-make_change.ensures.kept (λ key. fold (row_after c.args.resource key c.args.revision.now.rev) (stands key) (take c.loop-change.change-index c.args.revision.now.changes)) (c.loop-change.invariant stands holds))
