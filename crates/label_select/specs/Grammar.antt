-- The grammar of label selectors, as relations between tokens and what they stand for.
use Rattle.std.specs.Prelude.{◌≡◌, ℕ, ◌<◌, ◌≤◌, ◌⊎◌, List, [], ◌∷◌, ◌++◌, length, codes}
use Rattle.kube_meta.specs.Names.{IsLabelKey, IsLabelValue}
use Rattle.label_select.specs.declared.lexer.TokenKind.TheVariants.{Word, Equal, DoubleEqual, NotEqual, Not, Comma, Open, Close}
use Rattle.label_select.specs.declared.requirements.Requirement.{Requirement}
use Rattle.label_select.specs.declared.requirements.Requirement.TheVariants.{Exists, Absent, In, NotIn}
use Rattle.label_select.specs.Pieces.{Piece, AreTokens}

-- the token is this word
abbrev pub IsWord : Piece → List ℕ → Type 0
IsWord t word = (t.kind ≡ Word) × (t.text ≡ word)

-- the token is a word, and this label key
abbrev pub IsKey : Piece → List ℕ → Type 0
IsKey t key = IsWord t key × IsLabelKey key

-- a value: a word, or nothing, which is the empty text
abbrev pub IsValue : List Piece → List ℕ → Type 0
IsValue [] value = value ≡ []
IsValue (t ∷ []) value = IsWord t value × IsLabelValue value
IsValue (t ∷ u ∷ ts) value = ⊥

-- one or more, joined by `,`
abbrev pub Joined : {A : Type 0} → (List Piece → A → Type 0) → List Piece → List A → Type 0
Joined Is ts [] = ⊥
Joined Is ts (x ∷ []) = Is ts x
Joined Is ts (x ∷ y ∷ ys) =
    (front : List Piece) × (comma : Piece) × (back : List Piece) × (ts ≡ front ++ comma ∷ back) × (comma.kind ≡ Comma) × Is front x × Joined Is back (y ∷ ys)

-- a set: `(`, values joined by `,`, and `)`; but no `()`
abbrev pub IsSet : List Piece → List (List ℕ) → Type 0
IsSet [] values = ⊥
IsSet (open' ∷ ts) values =
    (inner : List Piece) × (close : Piece) × (ts ≡ inner ++ close ∷ []) × (open'.kind ≡ Open) × (close.kind ≡ Close) × (0 < length inner) × Joined IsValue inner values

-- `=` or `==`
abbrev pub IsEquality : Piece → Type 0
IsEquality t = (t.kind ≡ Equal) ⊎ (t.kind ≡ DoubleEqual)

-- `!=`
abbrev pub IsInequality : Piece → Type 0
IsInequality t = t.kind ≡ NotEqual

-- one value, as behind an operator
abbrev pub IsOneValue : List Piece → List (List ℕ) → Type 0
IsOneValue ts values = (value : List ℕ) × IsValue ts value × (values ≡ value ∷ [])

-- a key alone
abbrev pub IsKeyAlone : List Piece → List ℕ → Type 0
IsKeyAlone (t ∷ []) key = IsKey t key
IsKeyAlone ts key = ⊥

-- `!` and a key
abbrev pub IsNotKey : List Piece → List ℕ → Type 0
IsNotKey (t ∷ u ∷ []) key = (t.kind ≡ Not) × IsKey u key
IsNotKey ts key = ⊥

-- a key, an operator and a value; or a key, this word and a set
abbrev pub IsTest : (Piece → Type 0) → List ℕ → List Piece → List ℕ → List (List ℕ) → Type 0
IsTest IsOperator word (t ∷ u ∷ ts) key values =
    IsKey t key × ((IsOperator u × IsOneValue ts values) ⊎ (IsWord u word × IsSet ts values))
IsTest IsOperator word ts key values = ⊥

-- a requirement
abbrev pub IsRequirement : List Piece → Requirement → Type 0
IsRequirement ts (Exists key) = IsKeyAlone ts key
IsRequirement ts (Absent key) = IsNotKey ts key
IsRequirement ts (In key values) = IsTest IsEquality (codes "in") ts key values
IsRequirement ts (NotIn key values) = IsTest IsInequality (codes "notin") ts key values

-- nothing, or requirements joined by `,`
abbrev pub AreRequirements : List Piece → List Requirement → Type 0
AreRequirements ts [] = ts ≡ []
AreRequirements ts (r ∷ rs) = Joined IsRequirement ts (r ∷ rs)

-- The text is a selector of these requirements: at most 64, in at most 8,192 bytes.
pub record IsSelector (text : List ℕ) (rs : List Requirement) : Type 0 where
  pub tokens : List Piece
  pub are_tokens : AreTokens 0 text tokens
  pub requirements : AreRequirements tokens rs
  pub few : length rs ≤ 64
  pub short : length text ≤ 8192
