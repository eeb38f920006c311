-- How the body of a reply is framed, by its head (RFC 9112, section 6): in chunks, or counted.
use Rattle.std.specs.Prelude.{◌≡◌, ◌⊎◌, ℕ, List, [], ◌∷◌, map, Bool, true, false, Option, None, Some, option_and_then, codes, ⊤, if◌then◌else◌}
use Rattle.std.specs.Option.{option_map}
use Rattle.edge_io.specs.Told.{IsExhausted}
use Rattle.httparse.specs.Grammar.{ResponseHead, status_code}
use Rattle.httparse.specs.Spans.{name_and_value}
use Rattle.http_read.specs.Heads.{values_of, length_value}
use Rattle.line_stream.specs.Heads.{HasResponse, IsOpenHead, IsNoHead, HasCode, only, is_chunks}
use Rattle.line_stream.specs.declared.framing.Framing.{Framing}
use Rattle.line_stream.specs.declared.framing.Framing.TheVariants.{Counted, Chunked}
use Rattle.line_stream.specs.declared.refusal.LineNo.{LineNo}
use Rattle.line_stream.specs.declared.refusal.LineNo.TheVariants.{BadHead, Refused, BadChunk, Overlong, Unfinished, Spent, CutShort, ReadFault, Memory}

-- nothing is said
abbrev pub are_unsaid : {A : Type 0} → List A → Bool
are_unsaid [] = true
are_unsaid (value ∷ values) = false

-- by the values of the fields Transfer-Encoding and Content-Length: in chunks, and coded in no other way; or, where
-- nothing is said of a coding, counted by the only length, of 1 to 15 digits
abbrev pub framing_said : List (List ℕ) → List (List ℕ) → Option Framing
framing_said codings lengths =
    if is_chunks (only codings) then Some Chunked
    else (if are_unsaid codings then option_map Counted (option_and_then length_value (only lengths)) else None)

-- the same of a whole head, by its fields of these names
abbrev pub framing_in : ResponseHead → Option Framing
framing_in h =
    framing_said (values_of (codes "transfer-encoding") (map name_and_value h.fields))
    (values_of (codes "content-length") (map name_and_value h.fields))

-- a whole head of code 200, whose body is framed so
abbrev pub BeginsFramed : List ℕ → Framing → List ℕ → Type 0
BeginsFramed bytes framing after =
    (h : ResponseHead) × HasResponse bytes h after × (status_code h ≡ 200) × (framing_in h ≡ Some framing)

-- a whole head of code 200, whose body is framed in no way that is read
abbrev pub IsUnframed : List ℕ → Type 0
IsUnframed bytes =
    (h : ResponseHead) × (after : List ℕ) × HasResponse bytes h after × (status_code h ≡ 200) × (framing_in h ≡ None)

-- why bytes begin no body that is read; `left` is what is still to come
abbrev pub RefusesFramed : List ℕ → Option (List ℕ) → LineNo → Type 0
RefusesFramed bytes left BadHead = IsNoHead bytes ⊎ IsUnframed bytes
RefusesFramed bytes left (Refused code) = HasCode bytes code
RefusesFramed bytes left BadChunk = ⊥
RefusesFramed bytes left Overlong = ⊥
RefusesFramed bytes left Unfinished = ⊥
RefusesFramed bytes left Spent = ⊥
RefusesFramed bytes left CutShort = IsOpenHead bytes × IsExhausted left
RefusesFramed bytes left ReadFault = IsOpenHead bytes
RefusesFramed bytes left Memory = ⊤
