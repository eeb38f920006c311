-- The words of listed fields that a term asks for have the bits of the value that it wants.
use Rattle.std.proofs.Common.{◌≡◌, ℕ, true, List, [], sym, subst, ◌∙◌, get_or}
use Rattle.std.proofs.lemmas.Option.{unwrap_or-slice_get}
use Rattle.kube_meta.specs.Words.{field_bits, fields_word, has_bits}
use Rattle.kube_meta.proofs.WordLemmas.{field_had}
use Rattle.field_select.specs.Meaning.{value_of}
use Rattle.field_select.specs.declared.terms.Field.TheVariants.{Listed}

pub has_value : (fields : List (List ℕ)) (key value : List ℕ) (place : ℕ) → value_of fields key (Listed place) ≡ value → has_bits (fields_word fields) (field_bits place value) ≡ true
has_value fields key value place is =
    let there : get_or fields place [] ≡ value = sym (unwrap_or-slice_get fields place []) ∙ is in
    subst (λ (v : List ℕ). has_bits (fields_word fields) (field_bits place v) ≡ true) there (field_had fields place)
