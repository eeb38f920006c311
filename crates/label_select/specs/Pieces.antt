-- The tokens of a text.
use Rattle.std.specs.Prelude.{◌≡◌, ℕ, ◌+◌, ◌<◌, Bool, true, false, List, [], ◌∷◌, ◌++◌, length, ◌&&◌, ◌||◌, ◌==◌, if◌then◌else◌, codes}
use Rattle.std.specs.List.{AllByRecursion}
use Rattle.label_select.specs.declared.lexer.TokenKind.{TokenKind}
use Rattle.label_select.specs.declared.lexer.TokenKind.TheVariants.{Word, Equal, DoubleEqual, NotEqual, Not, Comma, Open, Close, Less, Greater}
use Rattle.label_select.specs.declared.lexer.Token.{Token}

-- A token without where it lies in memory: its kind, its bytes, and the place of its first byte.
pub record Piece : Type 0 where
  pub kind : TokenKind
  pub text : List ℕ
  pub at : ℕ

-- the token of this kind with this text, the first byte of which stands at `at`
abbrev pub piece : TokenKind → List ℕ → ℕ → Piece
piece kind text at = record { kind = kind; text = text; at = at }

-- what a token is seen as
abbrev pub piece_of : Token → Piece
piece_of t = piece t.kind t.text.now t.at

-- the number of a kind, by which kinds are compared
abbrev pub number_of : TokenKind → ℕ
number_of Word = 0
number_of Equal = 1
number_of DoubleEqual = 2
number_of NotEqual = 3
number_of Not = 4
number_of Comma = 5
number_of Open = 6
number_of Close = 7
number_of Less = 8
number_of Greater = 9

-- whether the two kinds are the same
abbrev pub is_kind : TokenKind → TokenKind → Bool
is_kind a b = number_of a == number_of b

-- SP, TAB, LF or CR: separates tokens
unfoldable pub is_blank : ℕ → Bool
is_blank b = b == 32 || b == 9 || b == 10 || b == 13

-- one of `=`, `!`, `,`, `(`, `)`, `<` and `>`
unfoldable pub is_sign : ℕ → Bool
is_sign b = b == 61 || b == 33 || b == 44 || b == 40 || b == 41 || b == 60 || b == 62

-- any other byte
abbrev pub is_word_byte : ℕ → Bool
is_word_byte b = if is_blank b then false else (if is_sign b then false else true)

-- whether the first byte is such
abbrev pub begins : (ℕ → Bool) → List ℕ → Bool
begins is_such [] = false
begins is_such (b ∷ bs) = is_such b

-- each byte is such
abbrev pub Each : (ℕ → Bool) → List ℕ → Type 0
Each is_such bytes = AllByRecursion (λ b. is_such b ≡ true) bytes

-- Where `rest` follows, the text is one token of this kind: a word is a longest run, and `==` and `!=`
-- are one token each.
abbrev pub IsToken : TokenKind → List ℕ → List ℕ → Type 0
IsToken Word text rest = (0 < length text) × Each is_word_byte text × (begins is_word_byte rest ≡ false)
IsToken Equal text rest = (text ≡ codes "=") × (begins (λ b. b == 61) rest ≡ false)
IsToken DoubleEqual text rest = text ≡ codes "=="
IsToken NotEqual text rest = text ≡ codes "!="
IsToken Not text rest = (text ≡ codes "!") × (begins (λ b. b == 61) rest ≡ false)
IsToken Comma text rest = text ≡ codes ","
IsToken Open text rest = text ≡ codes "("
IsToken Close text rest = text ≡ codes ")"
IsToken Less text rest = text ≡ codes "<"
IsToken Greater text rest = text ≡ codes ">"

-- These are the tokens of the bytes, read from the left, the first byte of which stands at `at`.
abbrev pub AreTokens : ℕ → List ℕ → List Piece → Type 0
AreTokens at bytes [] = Each is_blank bytes
AreTokens at bytes (t ∷ ts) =
    (blanks : List ℕ) × (rest : List ℕ) × (bytes ≡ blanks ++ (t.text ++ rest)) × Each is_blank blanks
    × (t.at ≡ at + length blanks) × IsToken t.kind t.text rest × AreTokens (t.at + length t.text) rest ts

-- the token of one byte that is neither a blank nor part of a word
abbrev pub sign_kind : ℕ → TokenKind
sign_kind b =
    if b == 61 then Equal
    else (if b == 33 then Not
    else (if b == 44 then Comma
    else (if b == 40 then Open
    else (if b == 41 then Close
    else (if b == 60 then Less
    else Greater)))))

-- `==` or `!=`
abbrev pub is_pair : ℕ → ℕ → Bool
is_pair b c = (b == 61 || b == 33) && c == 61

-- `==` or `!=`, by its first byte
abbrev pub pair_kind : ℕ → TokenKind
pair_kind b = if b == 61 then DoubleEqual else NotEqual

-- a word byte in front of the word that the tokens begin with
abbrev pub lengthened : ℕ → ℕ → List Piece → List Piece
lengthened at b [] = []
lengthened at b (t ∷ ts) = piece Word (b ∷ t.text) at ∷ ts

-- a byte in front of the tokens behind it, where no pair begins
abbrev pub in_front : ℕ → ℕ → Bool → List Piece → List Piece
in_front at b before_word ts =
    if is_blank b then ts
    else (if is_sign b then piece (sign_kind b) (b ∷ []) at ∷ ts
    else (if before_word then lengthened at b ts
    else piece Word (b ∷ []) at ∷ ts))

-- the same tokens, computed
unfoldable pub tokens_of : ℕ → List ℕ → List Piece
tokens_of at [] = []
tokens_of at (b ∷ []) = in_front at b false []
tokens_of at (b ∷ c ∷ bs) =
    if is_pair b c then piece (pair_kind b) (b ∷ c ∷ []) at ∷ tokens_of (at + 2) bs
    else in_front at b (is_word_byte c) (tokens_of (at + 1) (c ∷ bs))
