use Rattle.std.proofs.Common.{sym, subst}
use Rattle.std.proofs.lemmas.List.Elements.{All-get_or}
use Rattle.kube_meta.specs.Words.{labels_word}
use Rattle.kube_meta.proofs.WordLemmas.{has_none, has_both}
use Rattle.label_select.specs.Meaning.{Holds}
use Rattle.label_select.proofs.selector.mask_of.Goals as goal

pub loop-requirement-init : goal.loop-requirement-init
loop-requirement-init c = λ labels chosen. has_none (labels_word labels)

pub loop-requirement-preserved : goal.loop-requirement-preserved
loop-requirement-preserved c = λ labels chosen.
    let d = c.requirement-item.result in
    let holds : Holds labels d =
    subst (Holds labels) (sym c.requirement-item.is) (All-get_or (Holds labels) c.args.requirements.now c.loop-requirement.requirement-index d c.loop-requirement-test.true chosen) in
    has_both (labels_word labels) c.loop-requirement.mask c.mask-mask.result (c.loop-requirement.invariant labels chosen) (c.mask-mask.ensures labels holds)
