use Rattle.std.proofs.Common.{◌≡◌, ℕ, true, List, sym, ap, subst, ◌∙◌}
use Rattle.kube_meta.specs.Labels.{value_at}
use Rattle.kube_meta.specs.Words.{label_bits, labels_word, has_bits}
use Rattle.kube_meta.proofs.WordLemmas.{has_none}
use Rattle.label_select.specs.Values.{HasOneOf}
use Rattle.label_select.specs.Meaning.{Holds}
use Rattle.label_select.proofs.MaskLaws.{has_value}
use Rattle.label_select.proofs.requirements.Requirement.mask.Goals as goal

-- the label has the one value
pub returns-in-Some : goal.returns-in-Some
returns-in-Some c = λ labels holds.
    let key = c.in-In.key in
    let value = c.in-Some.value.now in
    let asked : HasOneOf (value_at labels key) c.in-In.values = subst (Holds labels) c.in-In.is holds in
    let bits : c.label_bits.result ≡ label_bits key value =
    c.label_bits.ensures ∙ ap (λ (k : List ℕ). label_bits k c.as_str-in-Some.result.now) c.as_str.ensures ∙ ap (label_bits key) c.as_str-in-Some.ensures in
    subst (λ (mask : ℕ). has_bits (labels_word labels) mask ≡ true) (sym bits) (has_value labels key value c.in-In.values c.in-Some.ensures asked)

pub returns-in-None : goal.returns-in-None
returns-in-None c = λ labels holds. has_none (labels_word labels)

pub returns-in_default : goal.returns-in_default
returns-in_default c = λ labels holds. has_none (labels_word labels)
