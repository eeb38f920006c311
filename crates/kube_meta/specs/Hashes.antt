-- How a text becomes a number of 64 bits.
use Rattle.std.specs.Prelude.{ℕ, ◌+◌, ◌-◌, ◌*◌, ◌/◌, ◌%◌, ◌^◌, List, [], ◌∷◌, ◌++◌, length, drop, bit_xor, fold}
use Rattle.std.specs.Simd.{first_chunks}
use Rattle.kube_meta.specs.declared.hashes.TheConstants.{FACTOR}

-- what a hash becomes by one more number
abbrev pub stirred : ℕ → ℕ → ℕ
stirred hash number = (bit_xor hash number * FACTOR) % 2 ^ 64

-- a text in pieces of eight bytes, of which the last one is its last eight; a shorter text is one piece
abbrev pub pieces : List ℕ → List (List ℕ)
pieces text = first_chunks 8 ((length text - 1) / 8) text ++ drop (length text - 8) text ∷ []

-- the number that bytes spell, the first of them the greatest
abbrev pub spelled : List ℕ → ℕ
spelled bytes = fold (λ number byte. number * 256 + byte) 0 bytes

-- what a hash becomes by pieces, one after the other
abbrev pub stirred_by : ℕ → List (List ℕ) → ℕ
stirred_by hash pieces = fold (λ hash piece. stirred hash (spelled piece)) hash pieces

-- the hash of a text, begun with a seed
abbrev pub hash_of : ℕ → List ℕ → ℕ
hash_of seed text = stirred_by seed (pieces text)
