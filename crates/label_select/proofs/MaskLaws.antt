-- The words of labels that a requirement asks for have the bits of the value that it wants.
use Rattle.std.proofs.Common.{◌≡◌, ℕ, zero, suc, true, List, [], ◌∷◌, Option, Some, None, sym, ap, subst, arith}
use Rattle.kube_meta.specs.Labels.{Pairs, value_at}
use Rattle.kube_meta.specs.Words.{label_bits, labels_word, has_bits}
use Rattle.kube_meta.proofs.WordLemmas.{label_had}
use Rattle.label_select.specs.Values.{HasOneOf}

-- what has one of one value has that
the_one : (found : Option (List ℕ)) (value : List ℕ) → HasOneOf found (value ∷ []) → found ≡ Some value
the_one None value has = absurd has
the_one (Some there) value (zero, lt, same) = ap Some (sym same)
the_one (Some there) value (suc k, lt, same) = absurd (omega arith)

pub has_value : (labels : Pairs) (key value : List ℕ) (values : List (List ℕ)) → values ≡ value ∷ [] → HasOneOf (value_at labels key) values → has_bits (labels_word labels) (label_bits key value) ≡ true
has_value labels key value values alone has =
    label_had labels key value (the_one (value_at labels key) value (subst (HasOneOf (value_at labels key)) alone has))
