use Rattle.std.proofs.Common.{◌≡◌, ◌+◌, map, All, sym, subst, ap, ◌∙◌}
use Rattle.rev_log.specs.Changes.{ChangeData, AreOfDistinctObjects}
use Rattle.mirror_law.specs.Mirrors.{change_told}
use Rattle.mirror_log.specs.Intakes.{IntakeData}
use Rattle.mirror_log.proofs.IntakeLemmas.{distinct_changes, numbered_changes}
use Rattle.mirror_log.proofs.intake.Intake.revision.Goals as goal

pub sorted-requires-clause-distinct : goal.sorted-requires-clause-distinct
sorted-requires-clause-distinct c =
    let same : c.in-Err.changes.items ≡ map (change_told c.self.inside.selection.resource) c.self.inside.kept.items =
    c.in-Err.ensures.refused.0 ∙ c.in_ok-changes.ensures ∙ ap (λ (i : IntakeData). map (change_told i.selection.resource) i.kept) (sym c.self.view_is) in
    subst AreOfDistinctObjects (sym same) (distinct_changes c.self.inside.selection.resource c.self.inside.kept.items c.self.invariant.distinct)

pub sorted-requires-clause-numbered : goal.sorted-requires-clause-numbered
sorted-requires-clause-numbered c =
    let same : c.in-Err.changes.items ≡ map (change_told c.self.inside.selection.resource) c.self.inside.kept.items =
    c.in-Err.ensures.refused.0 ∙ c.in_ok-changes.ensures ∙ ap (λ (i : IntakeData). map (change_told i.selection.resource) i.kept) (sym c.self.view_is) in
    subst (All (λ (change : ChangeData). change.rev ≡ c.self.inside.to + 1)) (sym same) (numbered_changes c.self.inside.selection.resource c.self.inside.to c.self.inside.kept.items c.self.invariant.next)
