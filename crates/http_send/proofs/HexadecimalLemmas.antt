-- The digits of a number, written from the last to the first.
use Rattle.std.proofs.Common.{◌≡◌, ℕ, zero, suc, ◌+◌, ◌-◌, ◌/◌, ◌%◌, ◌<◌, ◌≤◌, Bool, false, cond, List, ◌∷◌, length, drop, ap, ◌∙◌, arith, eq-eqb, ne_eqb, drop_of_length-le}
use Rattle.std.proofs.lemmas.List.{drop-set}
use Rattle.std.specs.Fmt.{digit_glyph, digits_onto, digits}
use Rattle.std.proofs.Math.ListN.{set}
use Rattle.http_send.specs.Replies.{hexadecimal}

-- the whole text, before a digit was written
pub hexadecimal_onto : (n : ℕ) (out : List ℕ) → length out ≤ 64 → digits_onto 64 16 false n (drop 64 out) ≡ hexadecimal n
unfolding digits
hexadecimal_onto n out h = ap (digits_onto 64 16 false n) (drop_of_length-le out h)

-- the first digit is the last to be written
pub digits_onto_last : (i n : ℕ) (acc : List ℕ) → 0 < i → n / 16 ≡ 0
    → digits_onto i 16 false n acc ≡ digit_glyph false (n % 16) ∷ acc
digits_onto_last zero n acc h e = absurd (omega arith)
digits_onto_last (suc k) n acc h e =
    ap (λ (b : Bool). cond b (digit_glyph false (n % 16) ∷ acc) (digits_onto k 16 false (n / 16) (digit_glyph false (n % 16) ∷ acc))) (eq-eqb _ 0 e)

-- any other digit has more in front of it
pub digits_onto_more : (i n : ℕ) (acc : List ℕ) → 0 < i → (n / 16 ≡ 0 → ⊥)
    → digits_onto i 16 false n acc ≡ digits_onto (i - 1) 16 false (n / 16) (digit_glyph false (n % 16) ∷ acc)
digits_onto_more zero n acc h e = absurd (omega arith)
digits_onto_more (suc k) n acc h e =
    ap (λ (b : Bool). cond b (digit_glyph false (n % 16) ∷ acc) (digits_onto k 16 false (n / 16) (digit_glyph false (n % 16) ∷ acc))) (ne_eqb _ 0 e)
    ∙ ap (λ (j : ℕ). digits_onto j 16 false (n / 16) (digit_glyph false (n % 16) ∷ acc)) {x = k} {y = suc k - 1} (omega arith)

-- a digit that was written stands in front of those that were
pub drop-set_before : (out : List ℕ) (i x g : ℕ) → 0 < i → i ≤ length out → x ≡ g → drop (i - 1) (set out (i - 1) x) ≡ g ∷ drop i out
drop-set_before out i x g h k e =
    drop-set out (i - 1) x (omega arith) ∙ ap (λ (d : ℕ). d ∷ drop (i - 1 + 1) out) e ∙ ap (λ (m : ℕ). g ∷ drop m out) {x = i - 1 + 1} {y = i} (omega arith)
