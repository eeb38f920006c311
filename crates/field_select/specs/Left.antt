-- What a reader of bytes has left, and what its steps say of it.
use Rattle.std.specs.Prelude.{◌≡◌, ℕ, List, Result, Ok, Err}
use Rattle.std.specs.Global.{Vec}
use Rattle.field_select.specs.declared.reader.Reader.{Reader}
use Rattle.field_select.specs.declared.refusal.FieldNo.{FieldNo}
use Rattle.field_select.specs.declared.terms.Term.{Term}
use Rattle.field_select.specs.Reading.{Fails, Read}

-- What was read is what reading gives, and the bytes behind it are left.
abbrev pub Gives : {X : Type 0} → Result X FieldNo → List ℕ → Read X → Type 0
Gives (Ok x) rest read = read ≡ Ok (x, rest)
Gives (Err fault) rest read = Fails fault read

abbrev pub Takes : {X : Type 0} → Reader → Reader → Result X FieldNo → (ℕ → List ℕ → Read X) → Type 0
Takes old new result reader = (new.end ≡ old.end) × Gives result new.rest.now (reader old.end old.rest.now)

-- The same of all terms.
abbrev pub Finds : Result (Vec Term) FieldNo → Result (List Term) FieldNo → Type 0
Finds (Ok terms) read = read ≡ Ok terms.items
Finds (Err fault) read = Fails fault read

-- The same of a selector, which is seen as the list of its terms.
abbrev pub ReadsTerms : Result (List Term) FieldNo → Result (List Term) FieldNo → Type 0
ReadsTerms (Ok terms) read = read ≡ Ok terms
ReadsTerms (Err fault) read = Fails fault read
