-- The three kinds of bytes: blanks, signs and those of words.
use Rattle.std.proofs.Common.{◌≡◌, ℕ, ◌<◌, ◌≤◌, ◌⊎◌, inl, inr, Bool, true, false, eqb, List, [], ◌∷◌, length, get_or, take, drop, refl, sym, subst, ◌∙◌, arith}
use Rattle.std.specs.Prelude.{◌||◌}
use Rattle.std.proofs.lemmas.Bool.{eqb-true, ne_eqb}
use Rattle.label_select.specs.Pieces.{is_blank, is_sign, is_word_byte, begins, IsToken, sign_kind}

pub either : (x : Bool) → (x ≡ true) ⊎ (x ≡ false)
either true = inl refl
either false = inr refl

or_true : (x y : Bool) → (x || y) ≡ true → (x ≡ true) ⊎ (y ≡ true)
or_true true y e = inl refl
or_true false y e = inr e

or_false : (x y : Bool) → (x || y) ≡ false → x ≡ false
or_false true y e = absurd cc
or_false false y e = refl

at_byte : (P : ℕ → Type 0) (b n : ℕ) → eqb b n ≡ true → P n → P b
at_byte P b n e p = subst P (sym (eqb-true b n e)) p

-- what holds of each blank
pub blanks : (P : ℕ → Type 0) → P 32 → P 9 → P 10 → P 13 → (b : ℕ) → is_blank b ≡ true → P b
unfolding is_blank
blanks P p32 p9 p10 p13 b h =
    elim (or_true (((eqb b 32) || (eqb b 9)) || (eqb b 10)) (eqb b 13) h) [
      | inl h3 ↦ elim (or_true ((eqb b 32) || (eqb b 9)) (eqb b 10) h3) [
        | inl h2 ↦ elim (or_true (eqb b 32) (eqb b 9) h2) [
          | inl e ↦ at_byte P b 32 e p32
          | inr e ↦ at_byte P b 9 e p9
        ]
        | inr e ↦ at_byte P b 10 e p10
      ]
      | inr e ↦ at_byte P b 13 e p13
    ]

abbrev two : ℕ → Bool
two b = (eqb b 61) || (eqb b 33)

-- what holds of each sign
pub signs : (P : ℕ → Type 0) → P 61 → P 33 → P 44 → P 40 → P 41 → P 60 → P 62 → (b : ℕ) → is_sign b ≡ true → P b
unfolding is_sign
signs P p61 p33 p44 p40 p41 p60 p62 b h =
    elim (or_true ((((two b || eqb b 44) || eqb b 40) || eqb b 41) || eqb b 60) (eqb b 62) h) [
      | inl h6 ↦ elim (or_true (((two b || eqb b 44) || eqb b 40) || eqb b 41) (eqb b 60) h6) [
        | inl h5 ↦ elim (or_true ((two b || eqb b 44) || eqb b 40) (eqb b 41) h5) [
          | inl h4 ↦ elim (or_true (two b || eqb b 44) (eqb b 40) h4) [
            | inl h3 ↦ elim (or_true (two b) (eqb b 44) h3) [
              | inl h2 ↦ elim (or_true (eqb b 61) (eqb b 33) h2) [
                | inl e ↦ at_byte P b 61 e p61
                | inr e ↦ at_byte P b 33 e p33
              ]
              | inr e ↦ at_byte P b 44 e p44
            ]
            | inr e ↦ at_byte P b 40 e p40
          ]
          | inr e ↦ at_byte P b 41 e p41
        ]
        | inr e ↦ at_byte P b 60 e p60
      ]
      | inr e ↦ at_byte P b 62 e p62
    ]

pub blank_is_ascii : (b : ℕ) → is_blank b ≡ true → b < 128
blank_is_ascii b h = blanks (λ x. x < 128) (omega arith) (omega arith) (omega arith) (omega arith) b h

pub sign_is_ascii : (b : ℕ) → is_sign b ≡ true → b < 128
sign_is_ascii b h = signs (λ x. x < 128) (omega arith) (omega arith) (omega arith) (omega arith) (omega arith) (omega arith) (omega arith) b h

-- no blank begins a pair
pub blank_not_two : (b : ℕ) → is_blank b ≡ true → two b ≡ false
blank_not_two b h = blanks (λ x. two x ≡ false) refl refl refl refl b h

-- a byte that is no sign begins no pair
pub not_two : (b : ℕ) → is_sign b ≡ false → two b ≡ false
unfolding is_sign
not_two b h =
    let h6 = or_false ((((two b || eqb b 44) || eqb b 40) || eqb b 41) || eqb b 60) (eqb b 62) h in
    let h5 = or_false (((two b || eqb b 44) || eqb b 40) || eqb b 41) (eqb b 60) h6 in
    let h4 = or_false ((two b || eqb b 44) || eqb b 40) (eqb b 41) h5 in
    let h3 = or_false (two b || eqb b 44) (eqb b 40) h4 in
    or_false (two b) (eqb b 44) h3

-- a byte of a word is no blank and no sign
pub word_byte : (b : ℕ) → is_word_byte b ≡ true → (is_blank b ≡ false) × (is_sign b ≡ false)
word_byte b h =
    elim (either (is_blank b)) [
      | inl blank ↦ absurd (let e : false ≡ true = sym (rw blank refl) ∙ h in cc)
      | inr no_blank ↦ elim (either (is_sign b)) [
        | inl sign ↦ absurd (let e : false ≡ true = sym (rw (no_blank, sign) refl) ∙ h in cc)
        | inr no_sign ↦ (no_blank, no_sign)
      ]
    ]

-- a byte that is neither a blank nor part of a word is a sign
pub is_sign_else : (b : ℕ) → is_blank b ≡ false → is_word_byte b ≡ false → is_sign b ≡ true
is_sign_else b no_blank no_word =
    elim (either (is_sign b)) [
      | inl sign ↦ sign
      | inr no_sign ↦ absurd (let e : true ≡ false = sym (rw (no_blank, no_sign) refl) ∙ no_word in cc)
    ]

-- a byte that is not part of a word is ASCII
pub not_word_is_ascii : (b : ℕ) → is_word_byte b ≡ false → b < 128
not_word_is_ascii b no_word =
    elim (either (is_blank b)) [
      | inl blank ↦ blank_is_ascii b blank
      | inr no_blank ↦ sign_is_ascii b (is_sign_else b no_blank no_word)
    ]

pub sign_is_token : (b : ℕ) (rest : List ℕ) → is_sign b ≡ true → (two b ≡ true → begins (λ c. eqb c 61) rest ≡ false) → IsToken (sign_kind b) (b ∷ []) rest
sign_is_token b rest h pair =
    signs (λ x. (two x ≡ true → begins (λ c. eqb c 61) rest ≡ false) → IsToken (sign_kind x) (x ∷ []) rest)
    (λ p. (refl, p refl)) (λ p. (refl, p refl)) (λ p. refl) (λ p. refl) (λ p. refl) (λ p. refl) (λ p. refl) b h pair

pub first_sign : (bytes : List ℕ) → 0 < length bytes → begins is_blank bytes ≡ false → is_word_byte (get_or bytes 0 0) ≡ false → (two (get_or bytes 0 0) ≡ true → begins (λ c. eqb c 61) (drop 1 bytes) ≡ false)
    → IsToken (sign_kind (get_or bytes 0 0)) (take 1 bytes) (drop 1 bytes)
first_sign [] some no_blank no_word pair = absurd (omega arith)
first_sign (b ∷ bytes) some no_blank no_word pair = sign_is_token b bytes (is_sign_else b no_blank no_word) pair

-- the three ways in which no pair begins the bytes: by their first byte, by their second, and as there is none
pub no_two : (bytes : List ℕ) → (get_or bytes 0 0 ≡ 61 → ⊥) → (get_or bytes 0 0 ≡ 33 → ⊥) → two (get_or bytes 0 0) ≡ true → begins (λ c. eqb c 61) (drop 1 bytes) ≡ false
no_two bytes not_61 not_33 h =
    elim (or_true (eqb (get_or bytes 0 0) 61) (eqb (get_or bytes 0 0) 33) h) [
      | inl e ↦ absurd (not_61 (eqb-true _ _ e))
      | inr e ↦ absurd (not_33 (eqb-true _ _ e))
    ]

pub no_equal : (bytes : List ℕ) → (get_or bytes 1 0 ≡ 61 → ⊥) → two (get_or bytes 0 0) ≡ true → begins (λ c. eqb c 61) (drop 1 bytes) ≡ false
no_equal [] differs h = refl
no_equal (b ∷ []) differs h = refl
no_equal (b ∷ c ∷ bytes) differs h = ne_eqb c 61 differs

pub no_second : (bytes : List ℕ) → length bytes ≤ 1 → two (get_or bytes 0 0) ≡ true → begins (λ c. eqb c 61) (drop 1 bytes) ≡ false
no_second [] short h = refl
no_second (b ∷ []) short h = refl
no_second (b ∷ c ∷ bytes) short h = absurd (omega arith)
