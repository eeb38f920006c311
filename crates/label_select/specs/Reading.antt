-- Reading a selector from left to right, with the first fault that is met and its place. `end` is the place
-- behind the last byte.
use Rattle.std.specs.Prelude.{◌≡◌, ℕ, zero, suc, ◌||◌, List, [], ◌∷◌, length, codes, Option, Some, None, is_some, unwrap_or, Result, Ok, Err, nat_lt, if◌then◌else◌}
use Rattle.std.specs.Str.{bytes_eq}
use Rattle.kube_meta.specs.Names.{is_label_key, is_label_value}
use Rattle.label_select.specs.declared.lexer.TokenKind.TheVariants.{Word, Equal, DoubleEqual, NotEqual, Not, Comma, Open, Close}
use Rattle.label_select.specs.declared.requirements.Requirement.{Requirement}
use Rattle.label_select.specs.declared.requirements.Requirement.TheVariants.{Exists, Absent, In, NotIn}
use Rattle.label_select.specs.declared.refusal.LabelNo.{LabelNo}
use Rattle.label_select.specs.declared.refusal.LabelNo.TheVariants.{Syntax, BadKey, BadValue, EmptySet, TooLong, Memory}
use Rattle.label_select.specs.Pieces.{Piece, is_kind, tokens_of}

infixl 10 ◌>>=◌
-- goes on with what was read; where a fault was met, that is what is answered, and nothing behind it is read
abbrev pub ◌>>=◌ : {A B : Type 0} → Result A LabelNo → (A → Result B LabelNo) → Result B LabelNo
(Ok x) >>= f = f x
(Err fault) >>= f = Err fault

-- what was refused is what reading refuses, unless memory ran out
abbrev pub Fails : {Y : Type 0} → LabelNo → Result Y LabelNo → Type 0
Fails Memory read = Unit {0}
Fails fault read = read ≡ Err fault

-- a value and the tokens behind it
abbrev pub Read : Type 0 → Type 0
Read A = Result (A × List Piece) LabelNo

-- where the tokens go on, or the text ends
abbrev pub place : ℕ → List Piece → ℕ
place end [] = end
place end (t ∷ ts) = t.at

-- the label key that the tokens begin with
unfoldable pub key_at : ℕ → List Piece → Read (List ℕ)
key_at end [] = Err (Syntax end)
key_at end (t ∷ ts) =
    if is_kind t.kind Word then (if is_label_key t.text then Ok (t.text, ts) else Err (BadKey t.at))
    else Err (Syntax t.at)

-- the label value that the tokens begin with: a word, or the empty text where none stands there
unfoldable pub value_at : ℕ → List Piece → Read (List ℕ)
value_at end [] = Ok ([], [])
value_at end (t ∷ ts) =
    if is_kind t.kind Word then (if is_label_value t.text then Ok (t.text, ts) else Err (BadValue t.at))
    else Ok ([], t ∷ ts)

-- The values of a set up to its `)`, where `word` is the word that was read since the last `,`, if there is one.
unfoldable pub values_at : ℕ → Option (List ℕ) → List Piece → Read (List (List ℕ))
values_at end word [] = Err (Syntax end)
values_at end word (t ∷ ts) =
    if is_kind t.kind Word then
    (if is_some word then Err (Syntax t.at)
    else (if is_label_value t.text then values_at end (Some t.text) ts else Err (BadValue t.at)))
    else (if is_kind t.kind Comma then (values_at end None ts >>= λ others. Ok (unwrap_or word [] ∷ others.0, others.1))
    else (if is_kind t.kind Close then Ok (unwrap_or word [] ∷ [], ts)
    else Err (Syntax t.at)))

-- behind the `(` at `at`
unfoldable pub inside_at : ℕ → ℕ → List Piece → Read (List (List ℕ))
inside_at at end [] = Err (Syntax end)
inside_at at end (t ∷ ts) = if is_kind t.kind Close then Err (EmptySet at) else values_at end None (t ∷ ts)

-- the values of the set that the tokens begin with: `(`, values joined by `,`, and `)`
unfoldable pub set_at : ℕ → List Piece → Read (List (List ℕ))
set_at end [] = Err (Syntax end)
set_at end (t ∷ ts) = if is_kind t.kind Open then inside_at t.at end ts else Err (Syntax t.at)

-- a requirement behind its key
unfoldable pub behind_key : List ℕ → ℕ → List Piece → Read Requirement
behind_key key end [] = Ok (Exists key, [])
behind_key key end (t ∷ ts) =
    if is_kind t.kind Equal || is_kind t.kind DoubleEqual then (value_at end ts >>= λ value. Ok (In key (value.0 ∷ []), value.1))
    else (if is_kind t.kind NotEqual then (value_at end ts >>= λ value. Ok (NotIn key (value.0 ∷ []), value.1))
    else (if is_kind t.kind Word then
    (if bytes_eq t.text (codes "in") then (set_at end ts >>= λ values. Ok (In key values.0, values.1))
    else (if bytes_eq t.text (codes "notin") then (set_at end ts >>= λ values. Ok (NotIn key values.0, values.1))
    else Err (Syntax t.at)))
    else Ok (Exists key, t ∷ ts)))

-- the requirement that the tokens begin with: `!` and a key; or a key, alone or before an operator and what it compares
unfoldable pub requirement_at : ℕ → List Piece → Read Requirement
requirement_at end [] = Err (Syntax end)
requirement_at end (t ∷ ts) =
    if is_kind t.kind Not then (key_at end ts >>= λ key. Ok (Absent key.0, key.1))
    else (key_at end (t ∷ ts) >>= λ key. behind_key key.0 end key.1)

-- a requirement, and what stands behind it: nothing, or `,` and others
unfoldable pub followed_by : (List Piece → Result (List Requirement) LabelNo) → Requirement → List Piece → Result (List Requirement) LabelNo
followed_by others r [] = Ok (r ∷ [])
followed_by others r (t ∷ ts) = if is_kind t.kind Comma then (others ts >>= λ rs. Ok (r ∷ rs)) else Err (Syntax t.at)

-- one requirement or more, at most so many
unfoldable pub requirements_at : ℕ → ℕ → List Piece → Result (List Requirement) LabelNo
requirements_at zero end ts = Err TooLong
requirements_at (suc more) end ts = requirement_at end ts >>= λ r. followed_by (requirements_at more end) r.0 r.1

-- the requirements of all tokens, joined by `,`, at most 64; no tokens are the empty selector
unfoldable pub selector_at : ℕ → List Piece → Result (List Requirement) LabelNo
selector_at end [] = Ok []
selector_at end (t ∷ ts) = requirements_at 64 end (t ∷ ts)

-- all of a text
unfoldable pub selector_of : List ℕ → Result (List Requirement) LabelNo
selector_of text = if nat_lt 8192 (length text) then Err TooLong else selector_at (length text) (tokens_of 0 text)
