-- The revision counts where its number is at most the given one.
use Rattle.std.proofs.Common.{◌≡◌, true, leb, refl, ap}
use Rattle.std.proofs.lemmas.Bool.{le-leb}
use Rattle.rev_log.specs.Rows.{row_next_upto}
use Rattle.rev_log.specs.States.{row_next}
use Rattle.rev_log.proofs.MapLemmas.{Follows-same, on_ok}
use Rattle.rev_log.proofs.states.apply_upto.Goals as goal

pub returns : goal.returns
returns c =
    let number : c.revision.inside.rev ≡ c.args.revision.now.rev = ap (λ revision. revision.rev) c.revision.view_is in
    let counts : leb c.args.revision.now.rev c.args.at ≡ true = le-leb c.args.revision.now.rev c.args.at (rw (← number) c.if-revision-at.false) in
    on_ok c.make_changes.result
    (Follows-same c.args.rows.now c.make_changes.new.rows (λ key row. row_next c.args.resource key row c.args.revision.now) (λ key row. row_next_upto c.args.resource c.args.at key row c.args.revision.now) (λ stands holds key. rw counts refl))
    c.make_changes.ensures.done
