-- How the tokens of a text are those of its parts.
use Rattle.std.proofs.Common.{◌≡◌, ℕ, suc, ◌+◌, true, false, List, [], ◌∷◌, ◌++◌, length, refl, sym, ap, subst, ◌∙◌, arith}
use Rattle.label_select.specs.declared.lexer.TokenKind.{TokenKind}
use Rattle.label_select.specs.declared.lexer.TokenKind.TheVariants.{Word, Equal, DoubleEqual, NotEqual, Not, Comma, Open, Close, Less, Greater}
use Rattle.label_select.specs.Pieces.{piece, is_blank, is_sign, is_word_byte, begins, Each, IsToken, sign_kind, is_pair, tokens_of}
use Rattle.label_select.proofs.Bytes.{word_byte, not_two, blank_not_two}

-- a blank gives no token
step_blank : (at b : ℕ) (bytes : List ℕ) → is_blank b ≡ true → tokens_of at (b ∷ bytes) ≡ tokens_of (at + 1) bytes
unfolding tokens_of
step_blank at b [] blank = rw blank refl
step_blank at b (c ∷ bytes) blank = rw (blank_not_two b blank, blank) refl

pub step_blanks : (at : ℕ) (blanks rest : List ℕ) → Each is_blank blanks → tokens_of at (blanks ++ rest) ≡ tokens_of (at + length blanks) rest
step_blanks at [] rest each = let e : at + 0 ≡ at = omega arith in rw e refl
step_blanks at (b ∷ blanks) rest each =
    let e : at + 1 + length blanks ≡ at + suc (length blanks) = omega arith in
    step_blank at b (blanks ++ rest) each.0 ∙ step_blanks (at + 1) blanks rest each.1 ∙ ap (λ n. tokens_of n rest) e

-- a sign is a token of its own, where it begins no pair
step_sign : (at b : ℕ) (rest : List ℕ) → is_blank b ≡ false → is_sign b ≡ true → begins (is_pair b) rest ≡ false → tokens_of at (b ∷ rest) ≡ piece (sign_kind b) (b ∷ []) at ∷ tokens_of (at + 1) rest
unfolding tokens_of
step_sign at b [] no_blank sign no_pair = rw (no_blank, sign) refl
step_sign at b (c ∷ rest) no_blank sign no_pair = rw (no_pair, no_blank, sign) refl

-- a longest run of word bytes is a token
step_word : (at : ℕ) (b : ℕ) (word rest : List ℕ) → Each is_word_byte (b ∷ word) → begins is_word_byte rest ≡ false → tokens_of at (b ∷ (word ++ rest)) ≡ piece Word (b ∷ word) at ∷ tokens_of (at + suc (length word)) rest
unfolding tokens_of
step_word at b [] [] each longest = let w = word_byte b each.0 in rw (w.0, w.1) refl
step_word at b [] (c ∷ rest) each longest = let w = word_byte b each.0 in rw (not_two b w.1, w.0, w.1, longest) refl
step_word at b (c ∷ word) rest each longest =
    let w = word_byte b each.0 in
    let e : at + 1 + suc (length word) ≡ at + suc (suc (length word)) = omega arith in
    rw (not_two b w.1, w.0, w.1, each.1.0, step_word (at + 1) c word rest each.1 longest, e) refl

begins_never : (rest : List ℕ) → begins (λ _. false) rest ≡ false
begins_never [] = refl
begins_never (b ∷ rest) = refl

-- what a token in front of the bytes behind it gives
abbrev Steps : TokenKind → ℕ → List ℕ → List ℕ → Type 0
Steps k at rest text = tokens_of at (text ++ rest) ≡ piece k text at ∷ tokens_of (at + length text) rest

step_of : (at b : ℕ) (rest : List ℕ) → (is_blank b ≡ false) × (is_sign b ≡ true) → begins (is_pair b) rest ≡ false → Steps (sign_kind b) at rest (b ∷ [])
step_of at b rest is no_pair = step_sign at b rest is.0 is.1 no_pair

abbrev IsSign : ℕ → Type 0
IsSign b = (is_blank b ≡ false) × (is_sign b ≡ true)

-- the seven signs
is-equal : IsSign 61
unfolding is_blank is_sign
is-equal = (refl, refl)

is-not : IsSign 33
unfolding is_blank is_sign
is-not = (refl, refl)

is-comma : IsSign 44
unfolding is_blank is_sign
is-comma = (refl, refl)

is-open : IsSign 40
unfolding is_blank is_sign
is-open = (refl, refl)

is-close : IsSign 41
unfolding is_blank is_sign
is-close = (refl, refl)

is-less : IsSign 60
unfolding is_blank is_sign
is-less = (refl, refl)

is-greater : IsSign 62
unfolding is_blank is_sign
is-greater = (refl, refl)

step_double : (at : ℕ) (rest : List ℕ) → Steps DoubleEqual at rest (61 ∷ 61 ∷ [])
unfolding tokens_of
step_double at rest = refl

step_not_equal : (at : ℕ) (rest : List ℕ) → Steps NotEqual at rest (33 ∷ 61 ∷ [])
unfolding tokens_of
step_not_equal at rest = refl

-- a token in front of the bytes behind it
pub step_token : (k : TokenKind) (at : ℕ) (text rest : List ℕ) → IsToken k text rest → tokens_of at (text ++ rest) ≡ piece k text at ∷ tokens_of (at + length text) rest
step_token Word at [] rest token = absurd (omega (arith, token.0))
step_token Word at (b ∷ word) rest token = step_word at b word rest token.1 token.2
step_token Equal at text rest token = subst (Steps Equal at rest) (sym token.0) (step_of at 61 rest is-equal token.1)
step_token DoubleEqual at text rest token = subst (Steps DoubleEqual at rest) (sym token) (step_double at rest)
step_token NotEqual at text rest token = subst (Steps NotEqual at rest) (sym token) (step_not_equal at rest)
step_token Not at text rest token = subst (Steps Not at rest) (sym token.0) (step_of at 33 rest is-not token.1)
step_token Comma at text rest token = subst (Steps Comma at rest) (sym token) (step_of at 44 rest is-comma (begins_never rest))
step_token Open at text rest token = subst (Steps Open at rest) (sym token) (step_of at 40 rest is-open (begins_never rest))
step_token Close at text rest token = subst (Steps Close at rest) (sym token) (step_of at 41 rest is-close (begins_never rest))
step_token Less at text rest token = subst (Steps Less at rest) (sym token) (step_of at 60 rest is-less (begins_never rest))
step_token Greater at text rest token = subst (Steps Greater at rest) (sym token) (step_of at 62 rest is-greater (begins_never rest))
