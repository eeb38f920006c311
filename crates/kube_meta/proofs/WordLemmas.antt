-- What words have: the bits of each label and of each listed field.
use Rattle.std.proofs.Common.{◌≡◌, ℕ, zero, suc, ◌<◌, Bool, true, false, cond, List, [], ◌∷◌, length, get_or, Some, refl, sym, ap, ◌∙◌, subst, inl, inr, max, arith, bytes_eq, bit_or}
use Rattle.std.specs.Prelude.{◌&&◌, fold}
use Rattle.std.specs.Int.{bit_at}
use Rattle.std.proofs.lemmas.Bool.{eqb-true, eq-eqb, cases_lt, cases_eq, cases_Bool, and_from, true≢false}
use Rattle.std.proofs.lemmas.List.{get_or_past}
use Rattle.std.proofs.lemmas.Nat.{or_comm}
use Rattle.std.proofs.lemmas.Nat.Bits.{bit_at_or, bit_at-zero, same_from_bits}
use Rattle.std.proofs.lemmas.Slice.Eq.{bytes_eq-Decides}
use Rattle.kube_meta.specs.declared.objects.Obj.{Obj}
use Rattle.kube_meta.specs.declared.words.Mask.{Mask}
use Rattle.kube_meta.specs.Labels.{Pairs, value_at}
use Rattle.kube_meta.specs.Words.{label_bits, field_bits, labels_word, first_fields_word, fields_word, has_bits, fits}

-- ---- bits that are joined

or_assoc : (a b c : ℕ) → bit_or (bit_or a b) c ≡ bit_or a (bit_or b c)
or_assoc a b c = same_from_bits (bit_or (bit_or a b) c) (bit_or a (bit_or b c)) (λ i.
    let left : bit_at (bit_or (bit_or a b) c) i ≡ max (max (bit_at a i) (bit_at b i)) (bit_at c i) = bit_at_or (bit_or a b) c i ∙ ap (λ n. max n (bit_at c i)) (bit_at_or a b i) in
    let right : bit_at (bit_or a (bit_or b c)) i ≡ max (bit_at a i) (max (bit_at b i) (bit_at c i)) = bit_at_or a (bit_or b c) i ∙ ap (λ n. max (bit_at a i) n) (bit_at_or b c i) in
    left ∙ max_assoc (bit_at a i) (bit_at b i) (bit_at c i) ∙ sym right)
  where
    max_assoc : (x y z : ℕ) → max (max x y) z ≡ max x (max y z)
    max_assoc x y z = omega arith

or_zero : (a : ℕ) → bit_or a 0 ≡ a
or_zero a = same_from_bits (bit_or a 0) a (λ i. bit_at_or a 0 i ∙ omega (arith, bit_at-zero i))

or_self : (a : ℕ) → bit_or a a ≡ a
or_self a = same_from_bits (bit_or a a) a (λ i. bit_at_or a a i ∙ omega arith)

from_has : (word mask : ℕ) → has_bits word mask ≡ true → bit_or word mask ≡ word
from_has word mask has = eqb-true (bit_or word mask) word has

to_has : (word mask : ℕ) → bit_or word mask ≡ word → has_bits word mask ≡ true
to_has word mask same = eq-eqb (bit_or word mask) word same

-- a mask of nothing
pub has_none : (word : ℕ) → has_bits word 0 ≡ true
has_none word = to_has word 0 (or_zero word)

-- two masks as one
pub has_both : (word one two : ℕ) → has_bits word one ≡ true → has_bits word two ≡ true → has_bits word (bit_or one two) ≡ true
has_both word one two first second =
    to_has word (bit_or one two) (sym (or_assoc word one two) ∙ ap (λ w. bit_or w two) (from_has word one first) ∙ from_has word two second)

-- more bits in the word
pub has_right : (more word mask : ℕ) → has_bits word mask ≡ true → has_bits (bit_or more word) mask ≡ true
has_right more word mask has = to_has (bit_or more word) mask (or_assoc more word mask ∙ ap (bit_or more) (from_has word mask has))

pub has_left : (word more mask : ℕ) → has_bits word mask ≡ true → has_bits (bit_or word more) mask ≡ true
has_left word more mask has = subst (λ (w : ℕ). has_bits w mask ≡ true) (or_comm more word) (has_right more word mask has)

pub has_self : (word : ℕ) → has_bits word word ≡ true
has_self word = to_has word word (or_self word)

-- what has all bits of a word has those that the word has
has_within : (joint word mask : ℕ) → has_bits joint word ≡ true → has_bits word mask ≡ true → has_bits joint mask ≡ true
has_within joint word mask joins has =
    to_has joint mask (ap (λ (w : ℕ). bit_or w mask) (sym (from_has joint word joins)) ∙ or_assoc joint word mask ∙ ap (bit_or joint) (from_has word mask has) ∙ from_has joint word joins)

-- so where it lacks a bit, the word does
pub lacks_within : (joint word mask : ℕ) → has_bits joint word ≡ true → has_bits joint mask ≡ false → has_bits word mask ≡ false
lacks_within joint word mask joins lacks = elim (cases_Bool (has_bits word mask)) [
  | inl has ↦ absurd (true≢false (sym (has_within joint word mask joins has) ∙ lacks))
  | inr not ↦ not
]

-- ---- labels

abbrev with_label : ℕ → (List ℕ × List ℕ) → ℕ
with_label word pair = bit_or word (label_bits pair.0 pair.1)

labels_keep : (labels : Pairs) (word mask : ℕ) → has_bits word mask ≡ true → has_bits (fold with_label word labels) mask ≡ true
labels_keep [] word mask has = has
labels_keep (pair ∷ labels) word mask has =
    labels_keep labels (with_label word pair) mask (has_left word (label_bits pair.0 pair.1) mask has)

labels_have : (labels : Pairs) (word : ℕ) (name value : List ℕ) → value_at labels name ≡ Some value → has_bits (fold with_label word labels) (label_bits name value) ≡ true
labels_have [] word name value is = absurd cc
labels_have ((key, text) ∷ labels) word name value is = by (labels_have labels (with_label word (key, text)) name value) (bytes_eq name key) refl
  where
    by : (value_at labels name ≡ Some value → has_bits (fold with_label (with_label word (key, text)) labels) (label_bits name value) ≡ true) → (b : Bool) → bytes_eq name key ≡ b
        → has_bits (fold with_label (with_label word (key, text)) labels) (label_bits name value) ≡ true
    by later true here =
        let named : name ≡ key = (bytes_eq-Decides name key).0 here in
        let told : Some text ≡ Some value = sym (ap (λ (b : Bool). cond b (Some text) (value_at labels name)) here) ∙ is in
        let has : text ≡ value = cc in
        let bits : label_bits key text ≡ label_bits name value = ap (λ (k : List ℕ). label_bits k text) (sym named) ∙ ap (label_bits name) has in
        labels_keep labels (with_label word (key, text)) (label_bits name value)
        (subst (λ (mask : ℕ). has_bits (with_label word (key, text)) mask ≡ true) bits (has_right word (label_bits key text) (label_bits key text) (has_self (label_bits key text))))
    by later false other =
        later (sym (ap (λ (b : Bool). cond b (Some text) (value_at labels name)) other) ∙ is)

-- the word of labels has the bits of each
pub label_had : (labels : Pairs) (name value : List ℕ) → value_at labels name ≡ Some value → has_bits (labels_word labels) (label_bits name value) ≡ true
label_had labels name value is = labels_have labels 0 name value is

-- ---- listed fields

first_fields_have : (fields : List (List ℕ)) (n place : ℕ) → place < n → has_bits (first_fields_word fields n) (field_bits place (get_or fields place [])) ≡ true
first_fields_have fields zero place lt = absurd (omega arith)
first_fields_have fields (suc n) place lt = elim (cases_eq place n) [
  | inl last ↦ rw last (has_right (first_fields_word fields n) (field_bits n (get_or fields n [])) (field_bits n (get_or fields n [])) (has_self (field_bits n (get_or fields n []))))
  | inr before ↦ has_left (first_fields_word fields n) (field_bits n (get_or fields n [])) (field_bits place (get_or fields place [])) (first_fields_have fields n place (omega arith))
]

no_bits : (place : ℕ) → field_bits place [] ≡ 0
unfolding field_bits
no_bits place = refl

-- the word of fields has the bits of each, and those of a field that isn't there, of which there are none
pub field_had : (fields : List (List ℕ)) (place : ℕ) → has_bits (fields_word fields) (field_bits place (get_or fields place [])) ≡ true
field_had fields place = elim (cases_lt place (length fields)) [
  | inl within ↦ first_fields_have fields (length fields) place within
  | inr past ↦
      let absent : get_or fields place [] ≡ [] = get_or_past fields place [] past in
      let none : field_bits place (get_or fields place []) ≡ 0 = ap (field_bits place) absent ∙ no_bits place in
      subst (λ (mask : ℕ). has_bits (fields_word fields) mask ≡ true) (sym none) (has_none (fields_word fields))
]

-- ---- objects

pub fits_by : (mask : Mask) (obj : Obj) → has_bits (labels_word obj.labels) mask.labels ≡ true → has_bits (fields_word obj.fields) mask.fields ≡ true → fits mask obj ≡ true
unfolding fits
fits_by mask obj labels fields = and_from (has_bits (labels_word obj.labels) mask.labels) (has_bits (fields_word obj.fields) mask.fields) labels fields

-- where one of both lacks a bit, the object doesn't fit
pub labels_lack : (mask : Mask) (obj : Obj) → has_bits (labels_word obj.labels) mask.labels ≡ false → fits mask obj ≡ false
unfolding fits
labels_lack mask obj lacks = ap (λ (b : Bool). b && has_bits (fields_word obj.fields) mask.fields) lacks

and_false : (b : Bool) → (b && false) ≡ false
and_false true = refl
and_false false = refl

pub fields_lack : (mask : Mask) (obj : Obj) → has_bits (fields_word obj.fields) mask.fields ≡ false → fits mask obj ≡ false
unfolding fits
fields_lack mask obj lacks =
    ap (λ (b : Bool). has_bits (labels_word obj.labels) mask.labels && b) lacks ∙ and_false (has_bits (labels_word obj.labels) mask.labels)
