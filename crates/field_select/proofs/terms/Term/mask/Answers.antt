use Rattle.std.proofs.Common.{◌≡◌, ℕ, Bool, true, sym, ap, subst, ◌∙◌}
use Rattle.kube_meta.specs.Words.{field_bits, fields_word, has_bits}
use Rattle.kube_meta.proofs.WordLemmas.{has_none}
use Rattle.field_select.specs.Meaning.{Compares, value_of}
use Rattle.field_select.specs.declared.terms.Field.TheVariants.{Listed}
use Rattle.field_select.proofs.MaskLaws.{has_value}
use Rattle.field_select.proofs.terms.Term.mask.Goals as goal

pub returns-then-not-self : goal.returns-then-not-self
returns-then-not-self c = λ fields key holds. has_none (fields_word fields)

-- the field has the one value
pub returns-in-Listed : goal.returns-in-Listed
returns-in-Listed c = λ fields key holds.
    let term = c.args.self.now in
    let place = c.in-Listed.place in
    let equal : value_of fields key term.field ≡ term.value = subst (λ (b : Bool). Compares b (value_of fields key term.field) term.value) c.if-not-self.false holds in
    let has : value_of fields key (Listed place) ≡ term.value = ap (value_of fields key) (sym c.in-Listed.is) ∙ equal in
    let bits : c.field_bits.result ≡ field_bits place term.value = c.field_bits.ensures ∙ ap (field_bits place) c.as_str.ensures in
    subst (λ (mask : ℕ). has_bits (fields_word fields) mask ≡ true) (sym bits) (has_value fields key term.value place has)

pub returns-in-Name : goal.returns-in-Name
returns-in-Name c = λ fields key holds. has_none (fields_word fields)
