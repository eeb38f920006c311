-- Texts without the blanks around them.
use Rattle.std.specs.Prelude.{ℕ, ◌<◌, List, reverse}
use Rattle.httparse.specs.Grammar.{skip_ows}
use Rattle.form_urlencoded.specs.Form.{IsPlain}

-- the bytes without the blanks at the end
abbrev pub last_blanks_off : List ℕ → List ℕ
last_blanks_off bytes = reverse (skip_ows (reverse bytes))

-- a byte of ASCII that stands for itself, in a path and in a query
abbrev pub IsItself : ℕ → Type 0
IsItself b = (b < 128) × IsPlain b
