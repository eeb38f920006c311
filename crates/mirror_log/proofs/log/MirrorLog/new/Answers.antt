use Rattle.std.proofs.Common.{◌≡◌, ◌⊎◌, ◌∙◌, List, [], ap, sym, subst}
use Rattle.kube_meta.specs.declared.resources.Resource.TheVariants.{Pods}
use Rattle.kube_meta.specs.Rows.{RowData}
use Rattle.rev_front.specs.Passes.{LogId, empty_log}
use Rattle.rev_log.specs.Changes.{RevisionData}
use Rattle.select_all.specs.declared.selection.Selection.{Selection}
use Rattle.up_store.specs.Stores.{StoreData}
use Rattle.mirror_log.specs.Intakes.{IsIntake, IsAtEnd}
use Rattle.mirror_law.specs.Mirrors.{opened_log}
use Rattle.mirror_log.proofs.LineLemmas.{opens}
use Rattle.mirror_log.proofs.log.MirrorLog.new.Goals as goal

pub new-requires-clause-pods : goal.new-requires-clause-pods
new-requires-clause-pods g c = subst (λ (l : List RowData). (c.args.selection.resource ≡ Pods) ⊎ (l ≡ [])) (sym c.deref.ensures.value) c.requires.pods

pub invariant_of-result : goal.invariant_of-result
invariant_of-result g c =
    let first : g.N.LogName.log.first ≡ c.args.base = ap (λ (name : LogId). name.first) (sym c.requires.name) ∙ c.requires.first in
    let none : c.in_ok-store.store.whole ≡ empty_log c.args.base = ap (λ (s : StoreData). s.whole) c.in_ok-store.ensures.store ∙ ap (empty_log {E = RevisionData}) first in
    opens g.N.LogFacts.base c.args.rows.items g.N.LogFacts.mirror c.in_ok-told.told c.in_ok-intake.intake c.args.base c.in_ok-store.store.whole
    c.requires.base c.requires.mirror c.requires.rising c.requires.old c.requires.within c.in_ok-told.ensures.pass none c.in_ok-intake.ensures.is.2 (subst IsIntake c.intake.view_is c.intake.invariant)
    (subst (λ (s : Selection). IsAtEnd s.resource c.in_ok-intake.intake (opened_log c.args.base c.args.rows.items)) (sym c.in_ok-intake.ensures.is.0)
    (subst (λ (l : List RowData). IsAtEnd c.args.selection.resource c.in_ok-intake.intake (opened_log c.args.base l)) c.deref.ensures.value c.in_ok-intake.ensures.at))
