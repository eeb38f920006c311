-- The heads of chunks are lines of chunks.
use Rattle.std.proofs.Common.{◌≡◌, ◌==◌, ℕ, zero, suc, ◌+◌, ◌*◌, ◌^◌, ◌/◌, ◌%◌, ◌<◌, ◌≤◌, Bool, true, false, cond, List, [], ◌∷◌, ◌++◌, None, length, refl, ap, ◌∙◌, arith, append-nil, length-append}
use Rattle.std.specs.Fmt.{digits, digits_onto, digit_glyph}
use Rattle.std.specs.Char.{is_ascii_hexdigit, digit_value}
use Rattle.std.specs.Str.Parse.{AllDigits}
use Rattle.std.proofs.lemmas.Bool.Decides.{nat_tests}
use Rattle.std.proofs.lemmas.Fmt.{digits_is_IsNumeral}
use Rattle.std.proofs.lemmas.List.Elements.{All-nil, All-cons}
use Rattle.httparse.specs.Grammar.{AllPass, ChunkLine, IsChunkLine, print_chunk_line, chunk_size}
use Rattle.http_send.specs.Replies.{hexadecimal, chunk_head_text}

-- 16 to the power
abbrev pow : ℕ → ℕ
pow zero = 1
pow (suc k) = 16 * pow k

few_onto : (fuel k n : ℕ) (acc : List ℕ) (upper : Bool) → n < 16 * pow k → length (digits_onto fuel 16 upper n acc) ≤ k + 1 + length acc
few_onto zero k n acc upper h = omega arith
few_onto (suc fuel) k n acc upper h =
    by_rest (n / 16) (digit_glyph upper (n % 16) ∷ acc) (digits_onto fuel 16 upper (n / 16) (digit_glyph upper (n % 16) ∷ acc)) k (n / 16 == 0) refl (omega arith) (omega (arith, h))
    (λ i small. few_onto fuel i (n / 16) (digit_glyph upper (n % 16) ∷ acc) upper small)
  where
    nonzero : (m : ℕ) → (m == 0) ≡ false → m ≡ 0 → ⊥
    nonzero m e z = grind (arith, nat_tests)

    by_rest : (m : ℕ) (one more : List ℕ) (k : ℕ) (b : Bool) → (m == 0) ≡ b → length one ≡ 1 + length acc → m < pow k → ((i : ℕ) → m < 16 * pow i → length more ≤ i + 1 + length one)
        → length (cond b one more) ≤ k + 1 + length acc
    by_rest m one more k true e l small later = omega (arith, l)
    by_rest m one more zero false e l small later = absurd (nonzero m e (omega (arith, small)))
    by_rest m one more (suc k) false e l small later = omega (arith, l, later k small)

-- a number has at most 16 hexadecimal digits
few : (n : ℕ) → n < 2 ^ 64 → length (hexadecimal n) ≤ 16
unfolding digits
few n h = omega (arith, few_onto 64 15 n [] false (omega (arith, h)))

hexdigit : (c : ℕ) → digit_value c < 16 → is_ascii_hexdigit c ≡ true
hexdigit c h = grind (arith, nat_tests)

hexdigits : (cs : List ℕ) → AllDigits 16 cs → AllPass is_ascii_hexdigit cs
hexdigits [] h = All-nil (λ b. is_ascii_hexdigit b ≡ true)
hexdigits (c ∷ cs) h = All-cons (λ b. is_ascii_hexdigit b ≡ true) c cs (hexdigit c h.0) (hexdigits cs h.1)

-- the line of a chunk with so much data
abbrev pub size_line : ℕ → ChunkLine
size_line n = record { digits = hexadecimal n; pad = []; extension = None }

pub size-printed : (n : ℕ) → print_chunk_line (size_line n) ≡ chunk_head_text n
unfolding print_chunk_line
size-printed n = ap (λ l. l ++ (13 ∷ 10 ∷ [])) (append-nil (hexadecimal n ++ []) ∙ append-nil (hexadecimal n))

pub size-is-line : (n : ℕ) → n < 2 ^ 64 → IsChunkLine (size_line n)
size-is-line n h =
    let numeral = digits_is_IsNumeral 16 false (omega arith) (omega arith) n (omega (arith, h)) in record {
      digits = (numeral.0.0, few n h, hexdigits (hexadecimal n) numeral.0.1);
      pad = All-nil _;
      extension = tt;
    }

pub size-is : (n : ℕ) → n < 2 ^ 64 → chunk_size (size_line n) ≡ n
size-is n h = (digits_is_IsNumeral 16 false (omega arith) (omega arith) n (omega (arith, h))).1

pub size-short : (n : ℕ) → n < 2 ^ 64 → length (print_chunk_line (size_line n)) ≤ 64
size-short n h = omega (arith, ap length (size-printed n), length-append (hexadecimal n) (13 ∷ 10 ∷ []), few n h)
