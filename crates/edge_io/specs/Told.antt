-- What an end tells of the bytes, or of the readings, that go through it. An end may tell nothing (`None`), as a
-- socket does, and then nothing is claimed of them.
use Rattle.std.specs.Prelude.{◌≡◌, List, [], ◌++◌, None, Some, Option, IsSome, ⊤}

-- what is still to come, after `taken` was put back in front of it
abbrev pub prepended : {A : Type 0} → List A → Option (List A) → Option (List A)
prepended taken None = None
prepended taken (Some rest) = Some (taken ++ rest)

-- what went out, after `more` went out behind it
abbrev pub appended : {A : Type 0} → Option (List A) → List A → Option (List A)
appended None more = None
appended (Some sofar) more = Some (sofar ++ more)

-- nothing more is to come, where that is told
abbrev pub IsExhausted : {A : Type 0} → Option (List A) → Type 0
IsExhausted None = ⊤
IsExhausted (Some rest) = rest ≡ []

-- where the list is told afterwards, it was told before and grew by `more`
abbrev pub Noted : {A : Type 0} → Option (List A) → Option (List A) → List A → Type 0
Noted old new more = IsSome new → new ≡ appended old more

-- a beginning of `text` went out, maybe all of it
abbrev pub AppendedSome : {A : Type 0} → Option (List A) → Option (List A) → List A → Type 0
AppendedSome {A} old new text = (sent : List A) × (rest : List A) × (text ≡ sent ++ rest) × (new ≡ appended old sent)
