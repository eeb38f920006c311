-- The bytes of field selectors.
use Rattle.std.specs.Prelude.{◌≡◌, ◌<◌, slice_index, ℕ, Bool, true, false, not, ◌||◌, ◌==◌, List, [], ◌∷◌, Option, Some, None, if◌then◌else◌}
use Rattle.field_select.specs.declared.reader.Run.{Run}
use Rattle.field_select.specs.declared.reader.Run.TheVariants.{Commas, Name, Plain}

-- `\`, `,` and `=`, which a value has only behind a `\`
abbrev pub is_escaped : ℕ → Bool
is_escaped b = b == 92 || (b == 44 || b == 61)

-- whether a byte is part of such a run: commas; the name of a field; a value without escapes
unfoldable pub is_in : Run → ℕ → Bool
is_in Commas b = b == 44
is_in Name b = not (is_escaped b || b == 33)
is_in Plain b = not (is_escaped b)

-- each byte below n is such
abbrev pub EachBelow : (ℕ → Bool) → List ℕ → ℕ → Type 0
EachBelow is_such bytes n = (k : ℕ) → k < n → is_such (slice_index bytes k) ≡ true

-- whether the first byte is this one
abbrev pub begins_with : ℕ → List ℕ → Bool
begins_with c [] = false
begins_with c (b ∷ bytes) = b == c

-- the bytes, without such a first one
abbrev pub without : ℕ → List ℕ → List ℕ
without c [] = []
without c (b ∷ bytes) = if b == c then bytes else b ∷ bytes

-- the longest run at the front of the bytes
abbrev pub taken : (ℕ → Bool) → List ℕ → List ℕ
taken is_such [] = []
taken is_such (b ∷ bytes) = if is_such b then b ∷ taken is_such bytes else []

-- what stands behind it
abbrev pub left : (ℕ → Bool) → List ℕ → List ℕ
left is_such [] = []
left is_such (b ∷ bytes) = if is_such b then left is_such bytes else b ∷ bytes

-- A byte that may be escaped is given, and is stepped over; else the bytes don't begin with one.
abbrev pub Escapes : List ℕ → Option ℕ → List ℕ → Type 0
Escapes [] given new = given ≡ None
Escapes (b ∷ bytes) None new = is_escaped b ≡ false
Escapes (b ∷ bytes) (Some c) new = (is_escaped b ≡ true) × (b ≡ c) × (new ≡ bytes)
