use Rattle.std.proofs.Common.{List, not, subst, ap, ◌∙◌}
use Rattle.std.specs.Prelude.{◌&&◌}
use Rattle.select_all.specs.declared.selection.Kind.TheVariants.{Added}
use Rattle.select_all.specs.Streams.{TransitionData}
use Rattle.mirror_log.specs.Intakes.{IntakeData, IsIntake, has, tells}
use Rattle.mirror_log.proofs.IntakeLemmas.{forgets}
use Rattle.mirror_log.proofs.intake.Intake.forget.Goals as goal

pub returns-clause-at : goal.returns-clause-at
returns-clause-at c = λ log at.
    let new : IntakeData = record { selection = c.self.inside.selection; most_gap = c.self.inside.most_gap; to = c.self.inside.to; keys = c.take_out.new.keys; kept = c.clear.new.self.items } in
    forgets c.args.self.now (subst IsIntake c.self.view_is c.self.invariant) log at new (ap (λ (i : IntakeData). i.to) c.self.view_is) c.clear.ensures.items
    (λ key.
    c.take_out.ensures key
    ∙ ap (λ (l : List TransitionData). has c.self.inside.keys key && not (tells Added l key)) c.deref.ensures.value
    ∙ ap (λ (i : IntakeData). has i.keys key && not (tells Added i.kept key)) c.self.view_is)
