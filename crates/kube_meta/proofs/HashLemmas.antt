-- Texts in pieces, and the numbers that bytes spell.
use Rattle.std.proofs.Common.{◌≡◌, ℕ, zero, suc, ◌+◌, ◌-◌, ◌*◌, ◌^◌, ◌<◌, ◌≤◌, List, [], ◌∷◌, length, take, drop, get_or, refl, ap, subst, ◌∙◌, arith, lit<}
use Rattle.std.proofs.lemmas.List.{take-take, drop-take, length-take-le, length-drop}
use Rattle.std.specs.Int.{from_be_bytes, w64}
use Rattle.std.specs.Simd.{first_chunks}
use Rattle.kube_meta.specs.Hashes.{spelled}

-- each is below 256
abbrev pub AreBytes : List ℕ → Type 0
AreBytes xs = (k : ℕ) → get_or xs k 0 < 256

pub bytes_first : (i : ℕ) (xs : List ℕ) → AreBytes xs → AreBytes (take i xs)
bytes_first zero xs bytes k = lit< tt
bytes_first (suc i) [] bytes k = lit< tt
bytes_first (suc i) (x ∷ xs) bytes zero = bytes 0
bytes_first (suc i) (x ∷ xs) bytes (suc k) = bytes_first i xs (λ j. bytes (suc j)) k

-- few bytes spell a small number
pub few_spell : (xs : List ℕ) → length xs < 8 → AreBytes xs → spelled xs < 2 ^ 56
few_spell [] few bytes = lit< tt
few_spell (a ∷ []) few bytes = omega (arith, bytes 0)
few_spell (a ∷ b ∷ []) few bytes = omega (arith, bytes 0, bytes 1)
few_spell (a ∷ b ∷ c ∷ []) few bytes = omega (arith, bytes 0, bytes 1, bytes 2)
few_spell (a ∷ b ∷ c ∷ d ∷ []) few bytes = omega (arith, bytes 0, bytes 1, bytes 2, bytes 3)
few_spell (a ∷ b ∷ c ∷ d ∷ e ∷ []) few bytes = omega (arith, bytes 0, bytes 1, bytes 2, bytes 3, bytes 4)
few_spell (a ∷ b ∷ c ∷ d ∷ e ∷ f ∷ []) few bytes = omega (arith, bytes 0, bytes 1, bytes 2, bytes 3, bytes 4, bytes 5)
few_spell (a ∷ b ∷ c ∷ d ∷ e ∷ f ∷ g ∷ []) few bytes = omega (arith, bytes 0, bytes 1, bytes 2, bytes 3, bytes 4, bytes 5, bytes 6)
few_spell (a ∷ b ∷ c ∷ d ∷ e ∷ f ∷ g ∷ h ∷ more) few bytes = absurd (omega arith)

-- eight bytes are read as the number that they spell
pub eight_spell : (xs : List ℕ) → length xs ≡ 8 → from_be_bytes w64 xs ≡ spelled xs
eight_spell [] many = absurd (omega arith)
eight_spell (a ∷ []) many = absurd (omega arith)
eight_spell (a ∷ b ∷ []) many = absurd (omega arith)
eight_spell (a ∷ b ∷ c ∷ []) many = absurd (omega arith)
eight_spell (a ∷ b ∷ c ∷ d ∷ []) many = absurd (omega arith)
eight_spell (a ∷ b ∷ c ∷ d ∷ e ∷ []) many = absurd (omega arith)
eight_spell (a ∷ b ∷ c ∷ d ∷ e ∷ f ∷ []) many = absurd (omega arith)
eight_spell (a ∷ b ∷ c ∷ d ∷ e ∷ f ∷ g ∷ []) many = absurd (omega arith)
eight_spell (a ∷ b ∷ c ∷ d ∷ e ∷ f ∷ g ∷ h ∷ []) many = omega arith
eight_spell (a ∷ b ∷ c ∷ d ∷ e ∷ f ∷ g ∷ h ∷ i ∷ more) many = absurd (omega arith)

-- pieces of the first bytes are pieces of all
pub chunks_within : (count m : ℕ) (xs : List ℕ) → count * 8 ≤ m → first_chunks 8 count (take m xs) ≡ first_chunks 8 count xs
chunks_within zero m xs le = refl
chunks_within (suc count) m xs le =
    let all : 8 + (m - 8) ≡ m = omega arith in
    let behind : drop 8 (take m xs) ≡ take (m - 8) (drop 8 xs) = subst (λ (k : ℕ). drop 8 (take k xs) ≡ take (m - 8) (drop 8 xs)) all (drop-take 8 (m - 8) xs) in
    ap (λ (c : List ℕ). c ∷ first_chunks 8 count (drop 8 (take m xs))) (take-take 8 m xs (omega arith))
    ∙ ap (λ (l : List ℕ). take 8 xs ∷ first_chunks 8 count l) behind
    ∙ ap (λ (l : List (List ℕ)). take 8 xs ∷ l) (chunks_within count (m - 8) (drop 8 xs) (omega arith))

-- each of them has eight bytes
pub chunk_long : (count i : ℕ) (xs : List ℕ) → count * 8 ≤ length xs → i < count → length (get_or (first_chunks 8 count xs) i []) ≡ 8
chunk_long zero i xs enough lt = absurd (omega arith)
chunk_long (suc count) zero xs enough lt = length-take-le 8 xs (omega arith)
chunk_long (suc count) (suc i) xs enough lt = chunk_long count i (drop 8 xs) (omega (arith, length-drop 8 xs)) (omega arith)
