-- Records of a log that isn't known: a list, the body of a watch from its revision, and later lists.
use Rattle.std.specs.Prelude.{◌≡◌, ℕ, zero, suc, ◌+◌, ◌^◌, ◌<◌, ◌≤◌, Bool, true, false, ◌&&◌, nat_lt, List, [], ◌∷◌, ◌++◌, codes, length, All, Option, Some, None, option_map, option_and_then, bytes_eq, if◌then◌else◌, IsSomeAnd}
use Rattle.std.specs.List.{AllPairs, concat, slice_split, onto_first, after_first}
use Rattle.std.specs.Str.{is_utf8}
use Rattle.json.specs.Print.{quoted}
use Rattle.serde_json.specs.Data.{Data}
use Rattle.serde_json.specs.Read.{read}
use Rattle.kube_meta.specs.Resources.{plural_of}
use Rattle.kube_meta.specs.Rows.{RowData}
use Rattle.kube_meta.specs.declared.resources.Resource.{Resource}
use Rattle.watch_lines.specs.Pages.{IsPageText}
use Rattle.watch_lines.specs.Stored.{IsToldAt}
use Rattle.watch_rules.specs.Options.{initial_events, revision_number, revision_text, start_of}
use Rattle.watch_rules.specs.declared.ask.WatchAsk.{WatchAsk}
use Rattle.watch_rules.specs.declared.starts.Start.{Start}
use Rattle.watch_rules.specs.declared.starts.Start.TheVariants.{FromState, FromHere, FromRevision}
use Rattle.watch_record.specs.Asking.{is_asked, pairs_of, IsAskOf}
use Rattle.watch_record.specs.Headers.{texts_in}
use Rattle.watch_record.specs.Lines.{is_feed, first_line}
use Rattle.watch_record.specs.declared.between_refusal.BetweenNo.{BetweenNo}
use Rattle.watch_record.specs.declared.between_refusal.BetweenNo.TheVariants.{TooLong, BadHeader, NoBody, BadAsk, BadList, Memory}
use Rattle.watch_record.specs.declared.header.Header.{Header}

-- ---- what is known

-- a later list: its rows, the revision at which they stand, and its place among the record's lists, of which the first
-- has place 0
pub record LaterData : Type 0 where
  pub rows : List RowData
  pub at : ℕ
  pub place : ℕ

-- what the watch asks for, its revision, the rows of the list there, the texts of the body's lines, and the later lists,
-- in the order of their revisions
pub record BetweenData : Type 0 where
  pub ask : WatchAsk
  pub from : ℕ
  pub rows : List RowData
  pub texts : List (List ℕ)
  pub later : List LaterData

-- a row of a list that was read: of a revision from 1 to 2 ^ 62
abbrev pub IsRowRead : RowData → Type 0
IsRowRead row = IsToldAt row.rev

-- a later list as it was read: of a revision from that of the watch up to 2 ^ 62
pub record IsLaterRead (from : ℕ) (list : LaterData) : Type 0 where
  pub onward : from ≤ list.at
  pub within : list.at ≤ 2 ^ 62
  pub rows : All IsRowRead list.rows
  pub placed : 1 ≤ list.place

-- What holds of each: the watch starts from its revision, with no initial events; and the later lists stand at that
-- revision or later ones, in their order.
pub record IsBetweenRead (case : BetweenData) : Type 0 where
  pub starts : case.ask.start ≡ FromRevision case.from
  pub closes : case.ask.closing ≡ false
  pub from : IsToldAt case.from
  pub rows : All IsRowRead case.rows
  pub later : All (IsLaterRead case.from) case.later
  pub ordered : AllPairs (λ a b. a.at ≤ b.at) case.later

-- ---- the parts of its text

-- a text as a list, unless it is empty
abbrev pub some_text : List ℕ → List (List ℕ)
some_text [] = []
some_text (b ∷ text) = (b ∷ text) ∷ []

-- texts without the last, where that is empty
abbrev pub but_empty_last : List (List ℕ) → List (List ℕ)
but_empty_last [] = []
but_empty_last (text ∷ []) = some_text text
but_empty_last (text ∷ next ∷ texts) = text ∷ but_empty_last (next ∷ texts)

-- the lines of bytes; what stands behind the last line feed is one too, unless it is empty
abbrev pub all_lines : List ℕ → List (List ℕ)
all_lines bytes = but_empty_last (slice_split is_feed bytes)

-- the texts that empty lines part, each line with its line feed: an empty line ends a text, and what stands behind the
-- last is one, be it empty; `fresh` at the front of a line
abbrev pub texts_at : Bool → List ℕ → List (List ℕ)
texts_at fresh [] = [] ∷ []
texts_at fresh (b ∷ bytes) = if is_feed b && fresh then [] ∷ texts_at true bytes else onto_first b (texts_at (is_feed b) bytes)

-- the parts behind the header: the text of the first list, the lines of the body, and the texts of the later lists
pub record BetweenParts : Type 0 where
  pub first : List ℕ
  pub body : List (List ℕ)
  pub later : List (List ℕ)

-- the parts that texts are; none where no empty line ends the first
abbrev pub parts_in : List (List ℕ) → Option BetweenParts
parts_in [] = None
parts_in (first ∷ []) = None
parts_in (first ∷ body ∷ later) = Some (record { first = first; body = all_lines body; later = but_empty_last later })

-- the parts of bytes, behind their first line
abbrev pub between_parts : List ℕ → Option BetweenParts
between_parts bytes = parts_in (texts_at true (after_first is_feed bytes))

-- ---- its header: what was watched, and no number

-- the header of what was watched, as one that has numbers, which say nothing
abbrev pub watched : List ℕ × List ℕ × Resource → Header
watched texts = record { first = 1; floor = 1; window = 1; namespace = texts.0; query = texts.1; resource = texts.2 }

-- its text: compact, and with the members in the order of their names
abbrev pub watched_text : Header → List ℕ
watched_text h =
    concat (codes "{\"namespace\":" ∷ quoted h.namespace ∷ codes ",\"query\":" ∷ quoted h.query ∷ codes ",\"resource\":\"" ∷ plural_of h.resource
    ∷ codes "\"}" ∷ [])

-- what a value holds of it, if it holds all of it; it may hold more
abbrev pub watched_in : Data → Option Header
watched_in d = option_map watched (texts_in d)

-- the header, where its text is that line
abbrev pub watched_at : List ℕ → Header → Option Header
watched_at line h = if bytes_eq (watched_text h) line then Some h else None

-- the header that a line is; bytes whose first line is one are a record of this kind, or none
abbrev pub watched_of : List ℕ → Option Header
watched_of line = if is_utf8 line then option_and_then (watched_at line) (option_and_then watched_in (read line)) else None

-- the revision that a watch starts from, if it starts from one
abbrev pub revision_from : Start → Option ℕ
revision_from (FromState meaning) = None
revision_from (FromHere meaning) = None
revision_from (FromRevision rev) = Some rev

-- the revision from which the header asks for a watch, if it asks for one from a revision
abbrev pub asked_from : Header → Option ℕ
asked_from header =
    if is_asked header then revision_from (start_of (initial_events (pairs_of header)) (option_and_then revision_number (revision_text (pairs_of header))))
    else None

-- ---- what is read

-- how many bytes such a record has at most: 256 MiB
abbrev pub most_bytes : ℕ
most_bytes = 268435456

-- The text is the whole of a list: no page is to come behind it.
abbrev pub IsFullList : Resource → List ℕ → List RowData → ℕ → Type 0
IsFullList resource text rows at = IsPageText resource text rows at []

-- the list behind those that don't stand later
abbrev pub put : LaterData → List LaterData → List LaterData
put list [] = list ∷ []
put list (other ∷ more) = if nat_lt list.at other.at then list ∷ other ∷ more else other ∷ put list more

-- the texts are lists, which stand at this revision or later ones; each is put in the order of revisions, beside those
-- that are there
abbrev pub AreLaterOf : Resource → ℕ → ℕ → List (List ℕ) → List LaterData → List LaterData → Type 0
AreLaterOf resource from place [] before later = later ≡ before
AreLaterOf resource from place (text ∷ texts) before later =
    (rows : List RowData) × (at : ℕ) × IsFullList resource text rows at × (from ≤ at)
    × AreLaterOf resource from (place + 1) texts (put (record { rows = rows; at = at; place = place }) before) later

-- The parts are what was told of a watch with this header: this is known of it.
pub record IsBetweenIn (header : Header) (parts : BetweenParts) (case : BetweenData) : Type 0 where
  pub asked : asked_from header ≡ Some case.from
  pub ask : IsAskOf header case.ask
  pub first : IsFullList header.resource parts.first case.rows case.from
  pub texts_are : case.texts ≡ parts.body
  pub later : AreLaterOf header.resource case.from 1 parts.later [] case.later

-- The bytes are a record of what is known.
pub record IsBetweenOf (bytes : List ℕ) (case : BetweenData) : Type 0 where
  pub header : Header
  pub header_is : watched_of (first_line bytes) ≡ Some header
  pub short : length bytes ≤ most_bytes
  pub parts : BetweenParts
  pub parts_are : between_parts bytes ≡ Some parts
  pub is : IsBetweenIn header parts case

-- ---- why bytes are none: the first reason that holds

-- the text is no list that stands at the revision
abbrev pub IsNoFirst : Resource → List ℕ → ℕ → Type 0
IsNoFirst resource text from = (rows : List RowData) → ¬ (IsFullList resource text rows from)

-- the text is a list that stands at the revision or a later one
pub record IsSomeLater (resource : Resource) (from : ℕ) (text : List ℕ) : Type 0 where
  pub rows : List RowData
  pub at : ℕ
  pub onward : from ≤ at
  pub is : IsFullList resource text rows at

-- of the texts of later lists, this one is none, and those before it are
pub record IsBadLater (resource : Resource) (from : ℕ) (texts : List (List ℕ)) (place : ℕ) : Type 0 where
  pub before : List (List ℕ)
  pub bad : List ℕ
  pub behind : List (List ℕ)
  pub parted : texts ≡ before ++ bad ∷ behind
  pub place_is : place ≡ length before + 1
  pub good : All (IsSomeLater resource from) before
  pub none : ¬ (IsSomeLater resource from bad)

-- the list with this place is none, and those before it are lists
abbrev pub IsBadList : Resource → ℕ → BetweenParts → ℕ → Type 0
IsBadList resource from parts zero = IsNoFirst resource parts.first from
IsBadList resource from parts (suc n) = ((rows : List RowData) × IsFullList resource parts.first rows from) × IsBadLater resource from parts.later (suc n)

-- why the parts are none for a header; want of memory says nothing of them
abbrev pub AreNoParts : Header → BetweenParts → BetweenNo → Type 0
AreNoParts header parts BadHeader = ⊥
AreNoParts header parts TooLong = ⊥
AreNoParts header parts NoBody = ⊥
AreNoParts header parts BadAsk = asked_from header ≡ None
AreNoParts header parts (BadList list) = (from : ℕ) × (asked_from header ≡ Some from) × IsBadList header.resource from parts list
AreNoParts header parts Memory = Unit {0}

-- why bytes with this header, and these parts, if they have any, are no record
abbrev pub IsRefusedFor : List ℕ → Header → Option BetweenParts → BetweenNo → Type 0
IsRefusedFor bytes header parts BadHeader = ⊥
IsRefusedFor bytes header parts TooLong = most_bytes < length bytes
IsRefusedFor bytes header parts NoBody = (length bytes ≤ most_bytes) × (parts ≡ None)
IsRefusedFor bytes header parts BadAsk = (length bytes ≤ most_bytes) × IsSomeAnd parts (λ p. AreNoParts header p BadAsk)
IsRefusedFor bytes header parts (BadList list) = (length bytes ≤ most_bytes) × IsSomeAnd parts (λ p. AreNoParts header p (BadList list))
IsRefusedFor bytes header parts Memory = Unit {0}

-- why bytes with this header, if they have one, are no record
abbrev pub IsRefusedBy : List ℕ → Option Header → BetweenNo → Type 0
IsRefusedBy bytes None why = why ≡ BadHeader
IsRefusedBy bytes (Some header) why = IsRefusedFor bytes header (between_parts bytes) why

-- why bytes are no record; want of memory says nothing of them
abbrev pub IsNoBetween : List ℕ → BetweenNo → Type 0
IsNoBetween bytes why = IsRefusedBy bytes (watched_of (first_line bytes)) why

-- ---- what the parts of the reader do: for private clauses

-- the list that a text is: all revisions are within bounds, and it is one at no other revision
pub record IsListRead (resource : Resource) (text : List ℕ) (rows : List RowData) (at : ℕ) : Type 0 where
  pub is : IsFullList resource text rows at
  pub told : IsToldAt at
  pub rows_told : All IsRowRead rows
  pub one : (others : List RowData) (other : ℕ) → IsFullList resource text others other → other ≡ at

-- the first list, at the revision of the watch
pub record IsFirstRead (resource : Resource) (text : List ℕ) (rows : List RowData) (from : ℕ) : Type 0 where
  pub is : IsFullList resource text rows from
  pub told : IsToldAt from
  pub rows_told : All IsRowRead rows

-- what a header asks for, from this revision
pub record IsAskRead (header : Header) (ask : WatchAsk) (from : ℕ) : Type 0 where
  pub asked : asked_from header ≡ Some from
  pub is : IsAskOf header ask
  pub starts : ask.start ≡ FromRevision from
  pub closes : ask.closing ≡ false

-- the later lists of texts, in the order of their revisions
pub record AreLaterRead (resource : Resource) (from : ℕ) (texts : List (List ℕ)) (later : List LaterData) : Type 0 where
  pub are : AreLaterOf resource from 1 texts [] later
  pub read : All (IsLaterRead from) later
  pub ordered : AllPairs (λ a b. a.at ≤ b.at) later
