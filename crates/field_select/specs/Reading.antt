-- Reading a field selector from left to right, with the first fault that is met and its place. `end` is the
-- place behind the last byte.
use Rattle.std.specs.Prelude.{◌≡◌, ℕ, zero, suc, ◌+◌, ◌-◌, Bool, true, false, ◌==◌, List, [], ◌∷◌, length, codes, Option, Some, None, Result, Ok, Err, option_map, nat_lt, bytes_eq, if◌then◌else◌}
use Rattle.kube_meta.specs.declared.resources.Resource.{Resource}
use Rattle.kube_meta.specs.Resources.{listed_fields_of}
use Rattle.field_select.specs.declared.refusal.FieldNo.{FieldNo}
use Rattle.field_select.specs.declared.refusal.FieldNo.TheVariants.{Syntax, TooLong, UnknownField, Memory}
use Rattle.field_select.specs.declared.reader.Run.TheVariants as runs
use Rattle.field_select.specs.declared.terms.Field.{Field}
use Rattle.field_select.specs.declared.terms.Field.TheVariants.{Name, Namespace, Listed}
use Rattle.field_select.specs.declared.terms.Term.{Term}
use Rattle.field_select.specs.Bytes.{is_in, is_escaped, begins_with, without, taken, left}

infixl 10 ◌>>=◌
-- goes on with what was read; where a fault was met, that is what is answered, and nothing behind it is read
abbrev pub ◌>>=◌ : {A B : Type 0} → Result A FieldNo → (A → Result B FieldNo) → Result B FieldNo
(Ok x) >>= f = f x
(Err fault) >>= f = Err fault

-- what was refused is what reading refuses, unless memory ran out
abbrev pub Fails : {Y : Type 0} → FieldNo → Result Y FieldNo → Type 0
Fails Memory read = Unit {0}
Fails fault read = read ≡ Err fault

-- a value and the bytes behind it
abbrev pub Read : Type 0 → Type 0
Read A = Result (A × List ℕ) FieldNo

-- the place of the first of these bytes
abbrev pub place : ℕ → List ℕ → ℕ
place end bytes = end - length bytes

-- a byte in front of a value
abbrev pub with_byte : ℕ → Read (List ℕ) → Read (List ℕ)
with_byte b read = read >>= λ value. Ok (b ∷ value.0, value.1)

-- a value up to a comma or the end; `behind` says that a `\` was read before the bytes
unfoldable pub value_at : ℕ → Bool → List ℕ → Read (List ℕ)
value_at end true [] = Err (Syntax (place end (92 ∷ [])))
value_at end true (b ∷ bytes) =
    if is_escaped b then with_byte b (value_at end false bytes)
    else Err (Syntax (place end (92 ∷ b ∷ bytes)))
value_at end false [] = Ok ([], [])
value_at end false (b ∷ bytes) =
    if b == 44 then Ok ([], b ∷ bytes)
    else (if b == 61 then Err (Syntax (place end (b ∷ bytes)))
    else (if b == 92 then value_at end true bytes
    else with_byte b (value_at end false bytes)))

-- the longest operator, whether it asks for equal values, and what stands behind it
unfoldable pub operator_at : List ℕ → Option (Bool × List ℕ)
operator_at [] = None
operator_at (b ∷ bytes) =
    if b == 61 then Some (true, without 61 bytes)
    else (if b == 33 then (if begins_with 61 bytes then Some (false, without 61 bytes) else None)
    else None)

-- the place of a name among some, the first of which stands at i
abbrev pub place_among : List (List ℕ) → ℕ → List ℕ → Option ℕ
place_among [] i name = None
place_among (x ∷ xs) i name = if bytes_eq name x then Some i else place_among xs (i + 1) name

-- the field of a resource that has this name
unfoldable pub field_named : Resource → List ℕ → Option Field
field_named resource name =
    if bytes_eq name (codes "metadata.name") then Some Name
    else (if bytes_eq name (codes "metadata.namespace") then Some Namespace
    else option_map (λ i. Listed i) (place_among (listed_fields_of resource) 0 name))

-- a term behind its operator, where it begins with a field
abbrev pub of_field : Option Field → ℕ → ℕ → Bool → List ℕ → Read Term
of_field None at end equal bytes = Err (UnknownField at)
of_field (Some field) at end equal bytes = value_at end false bytes >>= λ value. Ok (record { field = field; equal = equal; value = value.0 }, value.1)

-- a term behind the name of its field
abbrev pub behind_name : Resource → List ℕ → ℕ → ℕ → List ℕ → Option (Bool × List ℕ) → Read Term
behind_name resource name at end bytes None = Err (Syntax (place end bytes))
behind_name resource name at end bytes (Some found) = of_field (field_named resource name) at end found.0 found.1

-- the term that the bytes begin with: a field, an operator and a value
unfoldable pub term_at : Resource → ℕ → List ℕ → Read Term
term_at resource end bytes =
    let after = left (is_in runs.Name) bytes in
    behind_name resource (taken (is_in runs.Name) bytes) (place end bytes) end after (operator_at after)

-- a term in front of others
abbrev pub followed_by : Term → Result (List Term) FieldNo → Result (List Term) FieldNo
followed_by term others = others >>= λ terms. Ok (term ∷ terms)

-- terms, at most so many, where no comma stands first
unfoldable pub terms_at : Resource → ℕ → ℕ → List ℕ → Result (List Term) FieldNo
terms_at resource most end [] = Ok []
terms_at resource zero end (b ∷ bytes) = Err TooLong
terms_at resource (suc most) end (b ∷ bytes) =
    term_at resource end (b ∷ bytes) >>= λ term. followed_by term.0 (terms_at resource most end (left (is_in runs.Commas) term.1))

-- all of a text
unfoldable pub selector_of : Resource → List ℕ → Result (List Term) FieldNo
selector_of resource text =
    if nat_lt 8192 (length text) then Err TooLong
    else terms_at resource 64 (length text) (left (is_in runs.Commas) text)
