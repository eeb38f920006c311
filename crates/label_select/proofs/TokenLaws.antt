-- Each text has one list of tokens, and `tokens_of` computes it.
use Rattle.std.proofs.Common.{◌≡◌, ℕ, zero, suc, ◌+◌, ◌-◌, ◌<◌, ◌≤◌, inl, inr, Bool, true, false, eqb, List, [], ◌∷◌, ◌++◌, length, get_or, take, drop, refl, sym, ap, subst, ◌∙◌, arith, take-append-drop, length-append, length-take, length-drop, get_or-take, IsUtf8}
use Rattle.std.specs.Str.{IsCharBoundary}
use Rattle.std.proofs.lemmas.Bool.{eqb-true}
use Rattle.std.proofs.lemmas.List.{append-nil, nil_from_length}
use Rattle.std.proofs.lemmas.Str.{IsCharBoundary-start, IsCharBoundary-after_ascii}
use Rattle.label_select.specs.declared.lexer.TokenKind.{TokenKind}
use Rattle.label_select.specs.declared.lexer.TokenKind.TheVariants.{Word, Equal, DoubleEqual, NotEqual, Not, Comma, Open, Close, Less, Greater}
use Rattle.label_select.specs.Pieces.{Piece, piece, is_blank, is_sign, is_word_byte, begins, Each, IsToken, AreTokens, sign_kind, tokens_of}
use Rattle.label_select.proofs.Bytes.{either, sign_is_token, is_sign_else, blank_is_ascii, not_word_is_ascii}
use Rattle.label_select.proofs.Runs.{begins_dropped}
use Rattle.label_select.proofs.Steps.{step_blanks, step_token}

-- Only these are the tokens of the bytes.
pub tokens_unique : (ts : List Piece) (at : ℕ) (bytes : List ℕ) → AreTokens at bytes ts → tokens_of at bytes ≡ ts
unfolding tokens_of
tokens_unique [] at bytes each =
    let e = step_blanks at bytes [] each in
    ap (tokens_of at) (sym (append-nil bytes)) ∙ e
tokens_unique (t ∷ ts) at bytes (blanks, rest, parts, each, place, token, others) =
    ap (tokens_of at) parts ∙ step_blanks at blanks (t.text ++ rest) each ∙ ap (λ n. tokens_of n (t.text ++ rest)) (sym place) ∙ step_token t.kind t.at t.text rest token ∙ ap (λ x. t ∷ x) (tokens_unique ts (t.at + length t.text) rest others)

-- a longest run, and what follows it
record Split (is_such : ℕ → Bool) (bytes : List ℕ) : Type 0 where
  front : List ℕ
  back : List ℕ
  parts : bytes ≡ front ++ back
  each : Each is_such front
  longest : begins is_such back ≡ false

split_run : (is_such : ℕ → Bool) (bytes : List ℕ) → Split is_such bytes
split_run is_such [] = record { front = []; back = []; parts = refl; each = tt; longest = refl }
split_run is_such (b ∷ bytes) =
    let s = split_run is_such bytes in
    elim (either (is_such b)) [
      | inl such ↦ record { front = b ∷ s.front; back = s.back; parts = ap (λ (x : List ℕ). b ∷ x) s.parts; each = (such, s.each); longest = s.longest }
      | inr not_such ↦ record { front = []; back = b ∷ bytes; parts = refl; each = tt; longest = not_such }
    ]

-- the token at the front
record First (bytes : List ℕ) : Type 0 where
  kind : TokenKind
  text : List ℕ
  back : List ℕ
  parts : bytes ≡ text ++ back
  some : 0 < length text
  token : IsToken kind text back

first_pair : (b c : ℕ) (bytes : List ℕ) → is_sign b ≡ true → c ≡ 61 → First (b ∷ c ∷ bytes)
first_pair b c bytes sign equal =
    elim (either (eqb b 61)) [
      | inl e ↦ let b-is = eqb-true b 61 e in record { kind = DoubleEqual; text = 61 ∷ 61 ∷ []; back = bytes; parts = cc; some = omega arith; token = refl }
      | inr not_equal ↦ elim (either (eqb b 33)) [
        | inl e ↦ let b-is = eqb-true b 33 e in record { kind = NotEqual; text = 33 ∷ 61 ∷ []; back = bytes; parts = cc; some = omega arith; token = refl }
        | inr not_not ↦ record { kind = sign_kind b; text = b ∷ []; back = c ∷ bytes; parts = refl; some = omega arith; token = sign_is_token b (c ∷ bytes) sign (λ two. absurd (let e : false ≡ true = sym (rw (not_equal, not_not) refl) ∙ two in cc)) }
      ]
    ]

first_sign_of : (b : ℕ) (bytes : List ℕ) → is_sign b ≡ true → First (b ∷ bytes)
first_sign_of b [] sign = record { kind = sign_kind b; text = b ∷ []; back = []; parts = refl; some = omega arith; token = sign_is_token b [] sign (λ e. refl) }
first_sign_of b (c ∷ bytes) sign =
    elim (either (eqb c 61)) [
      | inl equal ↦ first_pair b c bytes sign (eqb-true c 61 equal)
      | inr apart ↦ record { kind = sign_kind b; text = b ∷ []; back = c ∷ bytes; parts = refl; some = omega arith; token = sign_is_token b (c ∷ bytes) sign (λ e. apart) }
    ]

first_of_bytes : (b : ℕ) (bytes : List ℕ) → is_blank b ≡ false → First (b ∷ bytes)
first_of_bytes b bytes no_blank =
    elim (either (is_word_byte b)) [
      | inl word ↦
          let s = split_run is_word_byte bytes in
          record { kind = Word; text = b ∷ s.front; back = s.back; parts = ap (λ (x : List ℕ). b ∷ x) s.parts; some = omega arith; token = (omega arith, (word, s.each), s.longest) }
      | inr no_word ↦ first_sign_of b bytes (is_sign_else b no_blank no_word)
    ]

abbrev Tokenized : ℕ → List ℕ → Type 0
Tokenized at bytes = (ts : List Piece) × AreTokens at bytes ts

after_blanks : (n at : ℕ) (bytes front back : List ℕ) → length bytes ≤ suc n → bytes ≡ front ++ back → Each is_blank front → begins is_blank back ≡ false → ((at : ℕ) (rest : List ℕ) → length rest ≤ n → Tokenized at rest) → Tokenized at bytes
after_blanks n at bytes front [] le parts each longest more = ([], subst (Each is_blank) (sym (parts ∙ append-nil front)) each)
after_blanks n at bytes front (b ∷ back) le parts each longest more =
    let f = first_of_bytes b back longest in
    let place = at + length front in
    let shorter : length f.back ≤ n = omega (arith, f.some, ap length parts, length-append front (b ∷ back), ap length f.parts, length-append f.text f.back) in
    let others = more (place + length f.text) f.back shorter in
    (piece f.kind f.text place ∷ others.0, (front, f.back, parts ∙ ap (λ (x : List ℕ). front ++ x) f.parts, each, refl, f.token, others.1))

tokenized : (n at : ℕ) (bytes : List ℕ) → length bytes ≤ n → Tokenized at bytes
tokenized zero at [] le = ([], tt)
tokenized zero at (b ∷ bytes) le = absurd (omega arith)
tokenized (suc n) at bytes le =
    let s = split_run is_blank bytes in
    after_blanks n at bytes s.front s.back le s.parts s.each s.longest (tokenized n)

-- What is computed are the tokens.
pub tokens_computed : (at : ℕ) (bytes : List ℕ) → AreTokens at bytes (tokens_of at bytes)
tokens_computed at bytes =
    let found = tokenized (length bytes) at bytes (omega arith) in
    subst (AreTokens at bytes) (sym (tokens_unique found.0 at bytes found.1)) found.1

-- ---- where a text may be cut

-- behind an ASCII byte
cut_after : (bytes text : List ℕ) (n m b : ℕ) → IsUtf8 bytes → n ≤ length bytes → take n bytes ≡ text → length text ≡ suc m → get_or text m 0 ≡ b → b < 128 → IsCharBoundary bytes n
cut_after bytes text n m b utf8 within front len last ascii =
    let n-is : n ≡ m + 1 = omega (arith, ap length front, length-take n bytes) in
    let last-is : get_or bytes m 0 ≡ b = sym (get_or-take n bytes m 0 (omega arith)) ∙ ap (λ (x : List ℕ). get_or x m 0) front ∙ last in
    subst (IsCharBoundary bytes) (sym n-is) (IsCharBoundary-after_ascii bytes m utf8 (omega arith) (omega (arith, last-is)))

each_at : (is_such : ℕ → Bool) (bytes : List ℕ) (m : ℕ) → m < length bytes → Each is_such bytes → is_such (get_or bytes m 0) ≡ true
each_at is_such [] m lt each = absurd (omega arith)
each_at is_such (b ∷ bytes) zero lt each = each.0
each_at is_such (b ∷ bytes) (suc m) lt each = each_at is_such bytes m (omega arith) each.1

pub cut_after_blanks : (bytes : List ℕ) (n : ℕ) → IsUtf8 bytes → n ≤ length bytes → Each is_blank (take n bytes) → IsCharBoundary bytes n
cut_after_blanks bytes zero utf8 within each = IsCharBoundary-start bytes utf8
cut_after_blanks bytes (suc m) utf8 within each =
    let len : length (take (suc m) bytes) ≡ suc m = omega (arith, length-take (suc m) bytes) in
    cut_after bytes (take (suc m) bytes) (suc m) m (get_or (take (suc m) bytes) m 0) utf8 within refl len refl (blank_is_ascii _ (each_at is_blank (take (suc m) bytes) m (omega arith) each))

cut_before_no_word : (bytes : List ℕ) (n : ℕ) → n ≤ length bytes → begins is_word_byte (drop n bytes) ≡ false → IsCharBoundary bytes n
cut_before_no_word bytes n within longest =
    (within, λ lt high. absurd (omega (arith, not_word_is_ascii (get_or bytes n 0) (sym (begins_dropped is_word_byte bytes n lt) ∙ longest))))

pub cut_after_token : (k : TokenKind) (bytes : List ℕ) (n : ℕ) → IsUtf8 bytes → n ≤ length bytes → IsToken k (take n bytes) (drop n bytes) → IsCharBoundary bytes n
cut_after_token Word bytes n utf8 within token = cut_before_no_word bytes n within token.2
cut_after_token Equal bytes n utf8 within token = cut_after bytes (61 ∷ []) n 0 61 utf8 within token.0 refl refl (omega arith)
cut_after_token DoubleEqual bytes n utf8 within token = cut_after bytes (61 ∷ 61 ∷ []) n 1 61 utf8 within token refl refl (omega arith)
cut_after_token NotEqual bytes n utf8 within token = cut_after bytes (33 ∷ 61 ∷ []) n 1 61 utf8 within token refl refl (omega arith)
cut_after_token Not bytes n utf8 within token = cut_after bytes (33 ∷ []) n 0 33 utf8 within token.0 refl refl (omega arith)
cut_after_token Comma bytes n utf8 within token = cut_after bytes (44 ∷ []) n 0 44 utf8 within token refl refl (omega arith)
cut_after_token Open bytes n utf8 within token = cut_after bytes (40 ∷ []) n 0 40 utf8 within token refl refl (omega arith)
cut_after_token Close bytes n utf8 within token = cut_after bytes (41 ∷ []) n 0 41 utf8 within token refl refl (omega arith)
cut_after_token Less bytes n utf8 within token = cut_after bytes (60 ∷ []) n 0 60 utf8 within token refl refl (omega arith)
cut_after_token Greater bytes n utf8 within token = cut_after bytes (62 ∷ []) n 0 62 utf8 within token refl refl (omega arith)

-- ---- one call of `next`

pub no_token : (at n : ℕ) (rest : List ℕ) → n ≤ length rest → Each is_blank (take n rest) → length (drop n rest) ≡ 0 → tokens_of at rest ≡ []
unfolding tokens_of
no_token at n rest within each none =
    let whole : take n rest ++ [] ≡ rest = ap (λ (x : List ℕ). take n rest ++ x) (sym (nil_from_length (drop n rest) none)) ∙ take-append-drop n rest in
    ap (tokens_of at) (sym whole) ∙ step_blanks at (take n rest) [] each

pub no_more : (at : ℕ) (rest : List ℕ) → length rest ≡ 0 → tokens_of at rest ≡ []
unfolding tokens_of
no_more at [] none = refl
no_more at (b ∷ rest) none = absurd (omega arith)

pub one_token : (end n m : ℕ) (rest : List ℕ) (k : TokenKind) (after text left : List ℕ) → length rest ≤ end → n ≤ length rest → Each is_blank (take n rest) → after ≡ drop n rest → m ≤ length after
    → IsToken k (take m after) (drop m after) → text ≡ take m after → left ≡ drop m after
    → tokens_of (end - length rest) rest ≡ piece k text (end - length after) ∷ tokens_of (end - length left) left
one_token end n m rest k after text left fits within each after-is in_after token text-is left-is =
    let len_after = ap length after-is ∙ length-drop n rest in
    let len_left = ap length left-is ∙ length-drop m after in
    let len_front : length (take n rest) ≡ n = omega (arith, length-take n rest) in
    let len_text : length text ≡ m = omega (arith, ap length text-is, length-take m after) in
    let whole : take n rest ++ after ≡ rest = ap (λ (x : List ℕ). take n rest ++ x) after-is ∙ take-append-drop n rest in
    let parts : text ++ left ≡ after = (λ i. text-is i ++ left-is i) ∙ take-append-drop m after in
    let here : end - length rest + length (take n rest) ≡ end - length after = omega arith in
    let next : end - length after + length text ≡ end - length left = omega arith in
    let token' : IsToken k text left = subst (λ (x : List ℕ). IsToken k x left) (sym text-is) (subst (IsToken k (take m after)) (sym left-is) token) in
    ap (tokens_of (end - length rest)) (sym whole) ∙ step_blanks (end - length rest) (take n rest) after each ∙ ap (λ i. tokens_of i after) here ∙ ap (tokens_of (end - length after)) (sym parts) ∙ step_token k (end - length after) text left token' ∙ ap (λ i. piece k text (end - length after) ∷ tokens_of i left) next
