use Rattle.std.proofs.Common.{◌≡◌, ℕ, List, not, subst, ap, ◌∙◌, is_some, fold}
use Rattle.std.specs.Prelude.{◌&&◌}
use Rattle.rev_log.specs.Logs.{end_of}
use Rattle.rev_log.specs.States.{row_at}
use Rattle.select_all.specs.declared.selection.Kind.TheVariants.{Deleted}
use Rattle.select_all.specs.Listings.{row_told}
use Rattle.select_all.specs.Streams.{TransitionData}
use Rattle.mirror_log.specs.Intakes.{IntakeData, IsIntake, has, tells}
use Rattle.mirror_log.proofs.IntakeLemmas.{when_known, when_unknown, will_stand}
use Rattle.mirror_log.proofs.intake.Intake.will_stand.Goals as goal

pub returns-then-contains : goal.returns-then-contains
returns-then-contains c = λ log at.
    let now : IntakeData = c.args.self.now in
    let key : List ℕ = c.args.key.now in
    let known : c.contains.result ≡ has now.keys key = c.contains.ensures ∙ ap (λ (i : IntakeData). has i.keys key) c.self.view_is in
    let told : c.tells.result ≡ tells Deleted now.kept key =
    c.tells.ensures ∙ ap (λ (l : List TransitionData). tells Deleted l key) c.deref.ensures.value ∙ ap (λ (i : IntakeData). tells Deleted i.kept key) c.self.view_is in
    when_known c.contains.result c.tells.result (is_some (fold (row_told key) (row_at log now.selection.resource (end_of log) key) now.kept)) c.if-contains.true
    (ap (λ b. b && not c.tells.result) known ∙ ap (λ b. has now.keys key && not b) told ∙ will_stand now (subst IsIntake c.self.view_is c.self.invariant) log at key)

pub returns-else-contains : goal.returns-else-contains
returns-else-contains c = λ log at.
    let now : IntakeData = c.args.self.now in
    let key : List ℕ = c.args.key.now in
    let known : c.contains.result ≡ has now.keys key = c.contains.ensures ∙ ap (λ (i : IntakeData). has i.keys key) c.self.view_is in
    when_unknown c.contains.result (tells Deleted now.kept key) (is_some (fold (row_told key) (row_at log now.selection.resource (end_of log) key) now.kept)) c.if-contains.false
    (ap (λ b. b && not (tells Deleted now.kept key)) known ∙ will_stand now (subst IsIntake c.self.view_is c.self.invariant) log at key)
