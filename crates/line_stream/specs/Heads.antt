-- The head of a response whose body is chunked (RFC 9112, sections 4 to 7). The grammar of heads is that of `httparse`.
use Rattle.std.specs.Prelude.{◌≡◌, ◌≢◌, ◌⊎◌, ℕ, ◌<◌, ◌≤◌, List, [], ◌∷◌, length, map, Bool, true, false, Option, None, Some, Result, Ok, Err, codes, ⊤}
use Rattle.std.specs.Str.{str_eq_ignore_ascii_case}
use Rattle.edge_io.specs.Told.{IsExhausted}
use Rattle.httparse.specs.Grammar.{ResponseHead, print_response, ReadsResponse, HasNoResponse, NeverHasResponse, MayBecomeResponse, status_code}
use Rattle.httparse.specs.Spans.{name_and_value, ResponseExceeds, ResponseOverflows}
use Rattle.http_read.specs.Heads.{most_head, most_fields, values_of}
use Rattle.http_read.specs.Requests.{front}
use Rattle.line_stream.specs.Readers.{ReaderData, LinesData}
use Rattle.line_stream.specs.declared.place.Place.TheVariants.{AtSize}
use Rattle.line_stream.specs.declared.refusal.LineNo.{LineNo}
use Rattle.line_stream.specs.declared.refusal.LineNo.TheVariants.{BadHead, Refused, BadChunk, Overlong, Unfinished, Spent, CutShort, ReadFault, Memory}

-- the bytes begin with a whole head that is within the limits, and `after` follows it
pub record HasResponse (bytes : List ℕ) (h : ResponseHead) (after : List ℕ) : Type 0 where
  pub reads : ReadsResponse bytes h after
  pub short : length (print_response h) ≤ most_head
  pub few_fields : length h.fields ≤ most_fields

-- the only one of some values
abbrev pub only : {A : Type 0} → List A → Option A
only [] = None
only (value ∷ []) = Some value
only (value ∷ another ∷ others) = None

-- the transfer coding is `chunked`, without regard to ASCII case
abbrev pub is_chunks : Option (List ℕ) → Bool
is_chunks None = false
is_chunks (Some coding) = str_eq_ignore_ascii_case coding (codes "chunked")

-- the body is in chunks, and coded in no other way: one field is named Transfer-Encoding, and its value is `chunked`
abbrev pub is_chunked : ResponseHead → Bool
is_chunked h = is_chunks (only (values_of (codes "transfer-encoding") (map name_and_value h.fields)))

-- more bytes may make the head whole
abbrev pub IsOpenHead : List ℕ → Type 0
IsOpenHead bytes = (length bytes < most_head) × HasNoResponse bytes × MayBecomeResponse bytes

-- no head can stand there, whatever follows; or none is whole in 16,384 bytes; or it has more than 64 fields
abbrev pub IsNoHead : List ℕ → Type 0
IsNoHead bytes =
    NeverHasResponse (front bytes) ⊎ ((most_head ≤ length bytes) × HasNoResponse (front bytes)
    ⊎ ResponseExceeds most_fields (front bytes) × ResponseOverflows most_fields (front bytes))

-- a whole head of code 200, whose body isn't in chunks alone
abbrev pub IsUnchunked : List ℕ → Type 0
IsUnchunked bytes =
    (h : ResponseHead) × (after : List ℕ) × HasResponse bytes h after × (status_code h ≡ 200) × (is_chunked h ≡ false)

-- a whole head of code 200, whose body is in chunks
abbrev pub BeginsChunks : List ℕ → List ℕ → Type 0
BeginsChunks bytes after =
    (h : ResponseHead) × HasResponse bytes h after × (status_code h ≡ 200) × (is_chunked h ≡ true)

-- a whole head of another code
abbrev pub HasCode : List ℕ → ℕ → Type 0
HasCode bytes code =
    (h : ResponseHead) × (after : List ℕ) × HasResponse bytes h after × (status_code h ≡ code) × (code ≢ 200)

-- why bytes begin with no whole head; `left` is what is still to come
abbrev pub LacksHead : List ℕ → Option (List ℕ) → LineNo → Type 0
LacksHead bytes left BadHead = IsNoHead bytes
LacksHead bytes left (Refused code) = ⊥
LacksHead bytes left BadChunk = ⊥
LacksHead bytes left Overlong = ⊥
LacksHead bytes left Unfinished = ⊥
LacksHead bytes left Spent = ⊥
LacksHead bytes left CutShort = IsOpenHead bytes × IsExhausted left
LacksHead bytes left ReadFault = IsOpenHead bytes
LacksHead bytes left Memory = ⊤

-- why bytes begin no chunked body; `left` is what is still to come
abbrev pub RefusesResponse : List ℕ → Option (List ℕ) → LineNo → Type 0
RefusesResponse bytes left BadHead = IsNoHead bytes ⊎ IsUnchunked bytes
RefusesResponse bytes left (Refused code) = HasCode bytes code
RefusesResponse bytes left BadChunk = ⊥
RefusesResponse bytes left Overlong = ⊥
RefusesResponse bytes left Unfinished = ⊥
RefusesResponse bytes left Spent = ⊥
RefusesResponse bytes left CutShort = IsOpenHead bytes × IsExhausted left
RefusesResponse bytes left ReadFault = IsOpenHead bytes
RefusesResponse bytes left Memory = ⊤

-- a reader at the beginning of a body, of which it keeps these bytes
abbrev pub at_body : Option ℕ → ℕ → List ℕ → ReaderData
at_body room most kept = record { kept = kept; place = AtSize; part = []; room = room; most = most }

-- what the reading of a head answers, over the bytes that were kept and those that were taken: the reader is at the
-- beginning of the body; or there is none, and all the bytes are kept
abbrev pub AnswersHead : LinesData → List ℕ → LinesData → Option (List ℕ) → Result (Unit {0}) LineNo → Type 0
AnswersHead old bytes new left (Ok u) =
    (after : List ℕ) × BeginsChunks bytes after × (new ≡ record old { at = at_body old.at.room old.at.most after })
AnswersHead old bytes new left (Err why) =
    RefusesResponse bytes left why × (new ≡ record old { at = record old.at { kept = bytes } })
