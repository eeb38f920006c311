-- What the bytes of messages tell.
use Rattle.std.proofs.Common.{◌≡◌, ℕ, ◌<◌, ◌≤◌, ◌^◌, cond, List, [], ◌∷◌, ◌++◌, length, take, drop, refl, sym, ap, ◌∙◌, arith, ne_eqb, append_assoc, ◌==◌, inl, inr}
use Rattle.std.specs.Prelude.{slice_index}
use Rattle.std.specs.Int.{w16, w64, from_be_bytes, to_be_bytes}
use Rattle.std.proofs.Math.Seq.{take-append_seam, drop-append_seam}
use Rattle.std.proofs.lemmas.Bool.{cases_lt, lt-ltb, le-ltb}
use Rattle.std.proofs.lemmas.List.Elements.{All-head, All-tail}
use Rattle.std.proofs.lemmas.Nat.{from_be_bytes-to_be_bytes_2, from_be_bytes-to_be_bytes_8}
use Rattle.ws_watch.specs.Messages.{length_text, text_byte, close_byte, message_head_text, messages_text}
use Rattle.ws_watch.specs.Laws.{HeadsTellLengths, BytesTellMessages}

-- the three forms of a length
length_text-short : (n : ℕ) → n < 126 → length_text n ≡ n ∷ []
length_text-short n h = rw (lt-ltb n 126 h)

length_text-middle : (n : ℕ) → 126 ≤ n → n < 65536 → length_text n ≡ 126 ∷ to_be_bytes w16 n
length_text-middle n low high = rw (le-ltb n 126 low, lt-ltb n 65536 high)

length_text-long : (n : ℕ) → 65536 ≤ n → length_text n ≡ 127 ∷ to_be_bytes w64 n
length_text-long n low =
    let far : 126 ≤ n = omega arith in
    rw (le-ltb n 126 far, le-ltb n 65536 low)

-- the length that stands in front of some bytes, and the bytes behind it
abbrev length_read : List ℕ → ℕ × List ℕ
length_read [] = (0, [])
length_read (n ∷ rest) =
    cond (n == 126) (from_be_bytes w16 (take 2 rest), drop 2 rest)
    (cond (n == 127) (from_be_bytes w64 (take 8 rest), drop 8 rest) (n, rest))

length_read-short : (n : ℕ) (after : List ℕ) → n < 126 → length_read (n ∷ after) ≡ (n, after)
length_read-short n after h =
    let not_middle : n ≡ 126 → ⊥ = λ e. omega arith in
    let not_long : n ≡ 127 → ⊥ = λ e. omega arith in
    rw (ne_eqb n 126 not_middle, ne_eqb n 127 not_long)

length_read-middle : (n : ℕ) (after : List ℕ) → n < 65536 → length_read (126 ∷ to_be_bytes w16 n ++ after) ≡ (n, after)
length_read-middle n after h = ap (λ (m : ℕ). (m, after)) (from_be_bytes-to_be_bytes_2 n h)

length_read-long : (n : ℕ) (after : List ℕ) → n < 2 ^ 64 → length_read (127 ∷ to_be_bytes w64 n ++ after) ≡ (n, after)
length_read-long n after h = ap (λ (m : ℕ). (m, after)) (from_be_bytes-to_be_bytes_8 n h)

-- a length is read back, whatever follows it
length_read-length_text : (n : ℕ) (after : List ℕ) → n < 2 ^ 64 → length_read (length_text n ++ after) ≡ (n, after)
length_read-length_text n after small = elim (cases_lt n 126) [
  | inl short ↦ ap (λ (l : List ℕ). length_read (l ++ after)) (length_text-short n short) ∙ length_read-short n after short
  | inr low ↦ elim (cases_lt n 65536) [
    | inl high ↦ ap (λ (l : List ℕ). length_read (l ++ after)) (length_text-middle n low high) ∙ length_read-middle n after high
    | inr far ↦ ap (λ (l : List ℕ). length_read (l ++ after)) (length_text-long n far) ∙ length_read-long n after small
  ]
]

pub heads_tell_lengths : HeadsTellLengths
heads_tell_lengths m n m_told n_told after other e =
    let lengths : length_text m ++ after ≡ length_text n ++ other = ap (drop 1) e in
    let both : (m, after) ≡ (n, other) =
    sym (length_read-length_text m after (omega arith)) ∙ ap length_read lengths ∙ length_read-length_text n other (omega arith) in
    (ap (λ (p : ℕ × List ℕ). p.0) both, ap (λ (p : ℕ × List ℕ). p.1) both)

-- the first message, and then the others
messages_text-cons : (line : List ℕ) (lines : List (List ℕ))
    → messages_text (line ∷ lines) ≡ message_head_text (length line) ++ (line ++ messages_text lines)
messages_text-cons line lines = simp append_assoc

-- two lists of one length that begin the same bytes are the same, and so is what follows them
same_length : (a b x y : List ℕ) → length a ≡ length b → a ++ x ≡ b ++ y → (a ≡ b) × (x ≡ y)
same_length a b x y lengths e = (
  sym (take-append_seam a x) ∙ ap (take (length a)) e ∙ ap (λ (n : ℕ). take n (b ++ y)) lengths ∙ take-append_seam b y,
  sym (drop-append_seam a x) ∙ ap (drop (length a)) e ∙ ap (λ (n : ℕ). drop n (b ++ y)) lengths ∙ drop-append_seam b y,
)

pub bytes_tell_messages : BytesTellMessages
bytes_tell_messages [] [] are other_are e = refl
bytes_tell_messages [] (other ∷ others) are other_are e =
    let first : close_byte ≡ text_byte = ap (λ (l : List ℕ). slice_index l 0) e in
    absurd (omega (arith, first))
bytes_tell_messages (line ∷ lines) [] are other_are e =
    let first : text_byte ≡ close_byte = ap (λ (l : List ℕ). slice_index l 0) e in
    absurd (omega (arith, first))
bytes_tell_messages (line ∷ lines) (other ∷ others) are other_are e =
    let told = λ (l : List ℕ). length l < 2 ^ 63 in
    let heads = heads_tell_lengths (length line) (length other) (All-head told line lines are) (All-head told other others other_are)
    (line ++ messages_text lines) (other ++ messages_text others)
    (sym (messages_text-cons line lines) ∙ e ∙ messages_text-cons other others) in
    let firsts = same_length line other (messages_text lines) (messages_text others) heads.0 heads.1 in
    let rests = bytes_tell_messages lines others (All-tail told line lines are) (All-tail told other others other_are) firsts.1 in
    ap (λ (l : List ℕ). l ∷ lines) firsts.0 ∙ ap (λ (ls : List (List ℕ)). other ∷ ls) rests
