use Rattle.std.proofs.Common.{◌≡◌, ℕ, List, not, subst, ap, ◌∙◌, is_some}
use Rattle.std.specs.Prelude.{◌&&◌}
use Rattle.rev_log.specs.Logs.{end_of}
use Rattle.rev_log.specs.States.{row_at}
use Rattle.select_all.specs.declared.selection.Kind.TheVariants.{Added}
use Rattle.select_all.specs.Streams.{TransitionData}
use Rattle.mirror_log.specs.Intakes.{IntakeData, IsIntake, has, tells}
use Rattle.mirror_log.proofs.IntakeLemmas.{when_known, stands}
use Rattle.mirror_log.proofs.intake.Intake.stands.Goals as goal

pub returns-then-contains : goal.returns-then-contains
returns-then-contains c = λ log at.
    let now : IntakeData = c.args.self.now in
    let key : List ℕ = c.args.key.now in
    let known : c.contains.result ≡ has now.keys key = c.contains.ensures ∙ ap (λ (i : IntakeData). has i.keys key) c.self.view_is in
    let told : c.tells.result ≡ tells Added now.kept key =
    c.tells.ensures ∙ ap (λ (l : List TransitionData). tells Added l key) c.deref.ensures.value ∙ ap (λ (i : IntakeData). tells Added i.kept key) c.self.view_is in
    when_known c.contains.result c.tells.result (is_some (row_at log now.selection.resource (end_of log) key)) c.if-contains.true
    (ap (λ b. b && not c.tells.result) known ∙ ap (λ b. has now.keys key && not b) told ∙ stands now (subst IsIntake c.self.view_is c.self.invariant) log at key)
