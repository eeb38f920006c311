use Rattle.std.proofs.Common.{sym, subst}
use Rattle.std.proofs.lemmas.List.Elements.{All-get_or}
use Rattle.kube_meta.specs.Words.{fields_word}
use Rattle.kube_meta.proofs.WordLemmas.{has_none, has_both}
use Rattle.field_select.specs.Meaning.{Holds}
use Rattle.field_select.proofs.selector.mask_of.Goals as goal

pub loop-term-init : goal.loop-term-init
loop-term-init c = λ fields key chosen. has_none (fields_word fields)

pub loop-term-preserved : goal.loop-term-preserved
loop-term-preserved c = λ fields key chosen.
    let d = c.term-item.result in
    let holds : Holds fields key d =
    subst (Holds fields key) (sym c.term-item.is) (All-get_or (Holds fields key) c.args.terms.now c.loop-term.term-index d c.loop-term-test.true chosen) in
    has_both (fields_word fields) c.loop-term.mask c.mask-mask.result (c.loop-term.invariant fields key chosen) (c.mask-mask.ensures fields key holds)
