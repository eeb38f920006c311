use Rattle.std.proofs.Common.{◌≡◌, ℕ, ◌+◌, ◌-◌, ◌∷◌, [], ◌++◌, List, not, refl, sym, subst, ap, ◌∙◌, append_assoc, arith}
use Rattle.std.specs.Prelude.{◌&&◌}
use Rattle.rev_front.specs.Passes.{quiets}
use Rattle.rev_log.specs.Changes.{RevisionData}
use Rattle.rev_log.specs.Logs.{end_of, grown, quiet_at}
use Rattle.select_all.specs.declared.selection.Kind.TheVariants.{Deleted}
use Rattle.select_all.specs.Streams.{TransitionData}
use Rattle.mirror_log.specs.Intakes.{IntakeData, IsIntake, IsAtEnd, has, tells}
use Rattle.mirror_log.proofs.IntakeLemmas.{commits, passed_over}
use Rattle.mirror_log.proofs.intake.Intake.commit.Goals as goal

pub returns-clause-at : goal.returns-clause-at
returns-clause-at c = λ log revision at told.
    let to : ℕ = c.args.self.now.to in
    let n : ℕ = c.args.upto - (to + 1) in
    let next : IntakeData = record { selection = c.self.inside.selection; most_gap = c.self.inside.most_gap; to = to + 1; keys = c.take_out.new.keys; kept = c.clear.new.self.items } in
    let new : IntakeData = record { selection = c.self.inside.selection; most_gap = c.self.inside.most_gap; to = c.args.upto; keys = c.take_out.new.keys; kept = c.clear.new.self.items } in
    let first : IsAtEnd c.args.self.now.selection.resource next (grown log (revision ∷ [])) =
    commits c.args.self.now (subst IsIntake c.self.view_is c.self.invariant) log at next revision told refl c.clear.ensures.items
    (λ key.
    c.take_out.ensures key
    ∙ ap (λ (l : List TransitionData). has c.self.inside.keys key && not (tells Deleted l key)) c.deref.ensures.value
    ∙ ap (λ (i : IntakeData). has i.keys key && not (tells Deleted i.kept key)) c.self.view_is) in
    let end : end_of (grown log (revision ∷ [])) ≡ to + 1 = sym first.end in
    let all : (log.revisions ++ revision ∷ []) ++ quiets quiet_at (end_of (grown log (revision ∷ []))) n ≡ log.revisions ++ revision ∷ quiets quiet_at (to + 1) n =
    append_assoc log.revisions (revision ∷ []) (quiets quiet_at (end_of (grown log (revision ∷ []))) n)
    ∙ ap (λ (m : ℕ). log.revisions ++ revision ∷ quiets quiet_at m n) end in
    subst (λ (revisions : List RevisionData). IsAtEnd c.args.self.now.selection.resource new (record log { revisions = revisions })) all
    (passed_over next new (grown log (revision ∷ [])) n (omega (arith, c.requires.onward)) c.clear.ensures.items c.clear.ensures.items (λ key. refl) first)
