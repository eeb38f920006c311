-- What a reader of tokens has left, and what its steps say of it.
use Rattle.std.specs.Prelude.{◌≡◌, ℕ, Bool, true, false, if◌then◌else◌, List, [], ◌∷◌, Option, Some, None, Result, Ok, Err}
use Rattle.label_select.specs.declared.lexer.Token.{Token}
use Rattle.label_select.specs.declared.lexer.TokenKind.{TokenKind}
use Rattle.label_select.specs.declared.lexer.TokenKind.TheVariants.{Word}
use Rattle.std.specs.Global.{Vec}
use Rattle.label_select.specs.declared.requirements.Requirement.{Requirement}
use Rattle.label_select.specs.declared.cursor.Cursor.{Cursor}
use Rattle.label_select.specs.declared.refusal.LabelNo.{LabelNo}
use Rattle.label_select.specs.Pieces.{Piece, piece_of, is_kind}
use Rattle.label_select.specs.Reading.{Fails, Read}

-- the next token, and those behind it
abbrev pub with_next : Option Token → List Piece → List Piece
with_next None after = []
with_next (Some t) after = piece_of t ∷ after

abbrev pub left : Cursor → List Piece
left cursor = with_next cursor.next cursor.after

-- What was read is what reading gives, and the tokens behind it are left.
abbrev pub Gives : {X : Type 0} → Result X LabelNo → List Piece → Read X → Type 0
Gives (Ok x) rest read = read ≡ Ok (x, rest)
Gives (Err fault) rest read = Fails fault read

abbrev pub Takes : {X : Type 0} → Cursor → Cursor → Result X LabelNo → (ℕ → List Piece → Read X) → Type 0
Takes old new result reader = (new.end ≡ old.end) × Gives result (left new) (reader old.end (left old))

-- Where the next token is of the kind, it is stepped over; else all are left.
abbrev pub StepsOver : List Piece → TokenKind → Bool → List Piece → Type 0
StepsOver [] kind answer new = (answer ≡ false) × (new ≡ [])
StepsOver (t ∷ ts) kind answer new = (answer ≡ is_kind t.kind kind) × (new ≡ (if is_kind t.kind kind then ts else t ∷ ts))

-- Where the next token is a word, it is given and stepped over; else all are left.
abbrev pub TakesWord : List Piece → Option Token → List Piece → Type 0
TakesWord [] answer new = (answer ≡ None) × (new ≡ [])
TakesWord (t ∷ ts) None new = (is_kind t.kind Word ≡ false) × (new ≡ t ∷ ts)
TakesWord (t ∷ ts) (Some token) new = (is_kind t.kind Word ≡ true) × (piece_of token ≡ t) × (new ≡ ts)

-- What was read is what reading gives.
abbrev pub Finds : Result (Vec Requirement) LabelNo → Result (List Requirement) LabelNo → Type 0
Finds (Ok requirements) read = read ≡ Ok requirements.items
Finds (Err fault) read = Fails fault read

-- The same of a selector, which is seen as the list of its requirements.
abbrev pub ReadsRequirements : Result (List Requirement) LabelNo → Result (List Requirement) LabelNo → Type 0
ReadsRequirements (Ok requirements) read = read ≡ Ok requirements
ReadsRequirements (Err fault) read = Fails fault read
