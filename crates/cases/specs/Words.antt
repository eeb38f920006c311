-- Words of rows.
use Rattle.std.specs.Prelude.{◌≡◌, ℕ, ◌<◌, ◌^◌, ◌==◌, List, length}
use Rattle.std.specs.List.{position_or_len}
use Rattle.std.specs.Str.Parse.{IsNumeral, digits_value, without_leading_plus}

-- the number that a word says: decimal digits, maybe behind a plus, of a number below 2 ^ 64
abbrev pub Says : List ℕ → ℕ → Type 0
Says word n =
    IsNumeral 10 (without_leading_plus word) × (digits_value 10 (without_leading_plus word) ≡ n) × (n < 2 ^ 64)

-- a text has no `<`, and so stands for itself
abbrev pub HasNoMark : List ℕ → Type 0
HasNoMark text = position_or_len (λ b. b == 60) text ≡ length text
