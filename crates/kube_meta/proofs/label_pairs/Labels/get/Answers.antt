use Rattle.std.proofs.Common.{ap, sym, ◌∙◌, ◌≡◌, [], ◌<◌, length, get_or, Some, arith, bytes_eq}
use Rattle.std.proofs.lemmas.List.{get_or_default}
use Rattle.std.proofs.lemmas.Slice.Eq.{bytes_eq-Decides}
use Rattle.kube_meta.proofs.LabelLemmas.{value_present, value_absent}
use Rattle.kube_meta.proofs.label_pairs.Labels.get.Goals as goal

-- the first label of this name is the one that was lent
pub returns-then-eq : goal.returns-then-eq
returns-then-eq c =
    let labels = c.args.self.now in
    let name = c.args.name.now in
    let i = c.loop-known.known-index in
    let same : c.deref-known-items.result.now ≡ labels = c.deref-known-items.ensures.value ∙ c.self.view_is in
    let inside : i < length labels = omega (arith, c.loop-known-test.true, ap length same) in
    let at = c.loop-known-item.is ∙ ap (λ l. get_or l i c.loop-known-item.result) same
    ∙ get_or_default labels i c.loop-known-item.result ([], []) inside in
    let passes = c.if-eq.ensures ∙ ap (λ t. bytes_eq t name) c.as_str.ensures in
    let has = sym (ap (λ pair. pair.0) at) ∙ (bytes_eq-Decides c.loop-known-item.result.0 name).0 (sym passes) in
    ap Some (ap (λ pair. pair.1) at) ∙ sym (value_present labels name i inside has c.loop-known.invariant)

-- no label has the name
pub returns : goal.returns
returns c =
    let same = c.deref-known-items.ensures.value ∙ c.self.view_is in
    sym (value_absent _ _ (λ j lt. c.loop-known.invariant j (omega (arith, lt, c.loop-known-test.false, ap length same))))
