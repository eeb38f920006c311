-- The digits of a number need no escape in a JSON string.
use Rattle.std.proofs.Common.{◌≡◌, ℕ, zero, suc, ◌<◌, ◌%◌, ◌/◌, List, [], ◌∷◌, ◌++◌, Bool, true, false, decimal, refl, ap, ◌∙◌, arith}
use Rattle.std.specs.Prelude.{◌==◌, if◌then◌else◌}
use Rattle.std.specs.Fmt.{digit_glyph, digits, digits_onto}
use Rattle.json.specs.Print.{escape, escape_byte}

escape_digit : (d : ℕ) → d < 10 → escape_byte (digit_glyph false d) ≡ digit_glyph false d ∷ []
unfolding escape_byte
escape_digit zero h = refl
escape_digit (suc zero) h = refl
escape_digit (suc (suc zero)) h = refl
escape_digit (suc (suc (suc zero))) h = refl
escape_digit (suc (suc (suc (suc zero)))) h = refl
escape_digit (suc (suc (suc (suc (suc zero))))) h = refl
escape_digit (suc (suc (suc (suc (suc (suc zero)))))) h = refl
escape_digit (suc (suc (suc (suc (suc (suc (suc zero))))))) h = refl
escape_digit (suc (suc (suc (suc (suc (suc (suc (suc zero)))))))) h = refl
escape_digit (suc (suc (suc (suc (suc (suc (suc (suc (suc zero))))))))) h = refl
escape_digit (suc (suc (suc (suc (suc (suc (suc (suc (suc (suc d)))))))))) h = absurd (omega arith)

abbrev IsPlain : List ℕ → Type 0
IsPlain text = escape text ≡ text

either_plain : (b : Bool) (xs ys : List ℕ) → IsPlain xs → IsPlain ys → IsPlain (if b then xs else ys)
either_plain true xs ys p q = p
either_plain false xs ys p q = q

one_more : (n : ℕ) (acc : List ℕ) → IsPlain acc → IsPlain (digit_glyph false (n % 10) ∷ acc)
one_more n acc plain =
    let small : n % 10 < 10 = omega arith in
    ap (λ x. x ++ escape acc) (escape_digit (n % 10) small) ∙ ap (λ x. digit_glyph false (n % 10) ∷ x) plain

digits_plain : (k n : ℕ) (acc : List ℕ) → IsPlain acc → IsPlain (digits_onto k 10 false n acc)
digits_plain zero n acc plain = plain
digits_plain (suc k) n acc plain =
    either_plain (n / 10 == 0) _ _ (one_more n acc plain) (digits_plain k (n / 10) _ (one_more n acc plain))

pub escape-decimal : (n : ℕ) → escape (decimal n) ≡ decimal n
unfolding digits
escape-decimal n = digits_plain 64 n [] refl
