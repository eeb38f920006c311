use Rattle.std.proofs.Common.{None, take}
use Rattle.rev_log.specs.States.{row_next}
use Rattle.rev_log.proofs.MapLemmas.{Holds-same, fold_step, on_ok}
use Rattle.body_check.specs.Moves.{standing}
use Rattle.body_check.proofs.judging.go_on.Goals as goal

pub returns-then-place-log : goal.returns-then-place-log
returns-then-place-log c =
    on_ok c.make_changes.result (λ done holds. Holds-same c.make_changes.new.rows _ _
    (λ key. fold_step (row_next c.args.resource key) None c.args.log.now c.args.place c.index-log-place.result c.if-place-log.true c.index-log-place.is)
    (done (standing c.args.resource (take c.args.place c.args.log.now)) holds))
    c.make_changes.ensures.done
