-- An opening in the bytes of a connection, and why there is none.
use Rattle.std.specs.Prelude.{◌≡◌, ◌≢◌, ◌⊎◌, ℕ, ◌≤◌, IsTrue, Bool, true, ◌&&◌, ◌-◌, List, [], ◌∷◌, ◌++◌, length, All, Option, Some, None, Result, Ok, Err, nat_le, if◌then◌else◌}
use Rattle.std.specs.List.{AllZip, list_all, slice_get}
use Rattle.std.specs.Option.{option_map_or}
use Rattle.std.specs.Cmp.Lexicographic.{slice_cmp}
use Rattle.std.specs.Ordering.{nat_cmp, is_lt}
use Rattle.kube_meta.specs.declared.resources.Resource.TheVariants.{Pods}
use Rattle.kube_meta.specs.Rows.{RowData, key_of}
use Rattle.line_stream.specs.Answers.{Faults}
use Rattle.line_stream.specs.Heads.{RefusesResponse}
use Rattle.line_stream.specs.Readers.{ReaderData, most_line, GoesOn, ReadsText}
use Rattle.line_stream.specs.Standing.{Stands}
use Rattle.line_stream.specs.declared.place.Place.TheVariants as place
use Rattle.line_stream.specs.declared.refusal.LineNo.{LineNo}
use Rattle.select_all.specs.declared.selection.Kind.TheVariants.{Added, Modified, Deleted}
use Rattle.select_all.specs.declared.selection.Selection.{Selection}
use Rattle.select_all.specs.Selecting.{selects}
use Rattle.watch_lines.specs.Laws.{as_read}
use Rattle.watch_lines.specs.Lines.{IsPeerLine, ReadsPeerLine}
use Rattle.watch_lines.specs.Stored.{IsToldAt}
use Rattle.watch_lines.specs.declared.peer_line.PeerLine.{PeerLine}
use Rattle.watch_lines.specs.declared.peer_line.PeerLine.TheVariants as peer
use Rattle.watch_rules.specs.Bodies.{Line, Told, Closing, initial, initial_lines}
use Rattle.mirror_link.specs.Openings.{OpeningData, AreOpened, opened_lines}
use Rattle.mirror_link.specs.OpeningRefusals.{reading_refusal}
use Rattle.mirror_link.specs.declared.link_refusal.LinkNo.{LinkNo}
use Rattle.mirror_link.specs.declared.link_refusal.LinkNo.TheVariants as no

-- the most bytes of data in which an opening has to end
abbrev pub most_opening : ℕ
most_opening = 1073741824

-- each text is that of its line
abbrev pub AreTexts : List (List ℕ) → List Line → Type 0
AreTexts texts lines = AllZip (λ text line. IsPeerLine Pods text (as_read line)) texts lines

-- ---- the next line

-- the key is above that of the last row
abbrev pub is_above_last : List RowData → List ℕ → Bool
is_above_last rows key = option_map_or (λ row. is_lt (slice_cmp nat_cmp (key_of row) key)) (slice_get rows (length rows - 1)) true

-- none of the rows is younger than a revision
abbrev pub are_upto : List RowData → ℕ → Bool
are_upto rows at = list_all (λ row. nat_le row.rev at) rows

-- what is wrong with what was read of a line's text, behind the events of these rows: anything but an event that adds a
-- selected object whose key is above that of the last row, or the bookmark that ends them, above which none is
abbrev pub opening_fault : Selection → List RowData → Option PeerLine → Option LinkNo
opening_fault s rows None = Some no.BadLine
opening_fault s rows (Some (peer.Told Added obj rev)) = if selects s obj && is_above_last rows obj.key then None else Some no.BadLine
opening_fault s rows (Some (peer.Told Modified obj rev)) = Some no.BadLine
opening_fault s rows (Some (peer.Told Deleted obj rev)) = Some no.BadLine
opening_fault s rows (Some (peer.Bookmark at closing)) = if closing && are_upto rows at then None else Some no.BadLine
opening_fault s rows (Some (peer.Error code)) = Some (no.Told code)

-- no line stands in the bytes, for this reason; the stream may have ended there
pub record HasNoNext (old : ReaderData) (bytes : List ℕ) (left : Option (List ℕ)) (why : LinkNo) (new : ReaderData) : Type 0 where
  pub goes : GoesOn old bytes new
  pub fault : ((fault : LineNo) × (why ≡ reading_refusal fault) × Faults new left fault)
      ⊎ ((why ≡ no.CutShort) × (new.room ≢ Some 0) × (new.place ≡ place.Over) × (new.part ≡ []))

-- a line stands there with which this is wrong
pub record HasBadNext (s : Selection) (rows : List RowData) (old : ReaderData) (bytes : List ℕ) (why : LinkNo) (new : ReaderData) : Type 0 where
  pub text : List ℕ
  pub read : ReadsText old bytes text new
  pub found : Option PeerLine
  pub reads : ReadsPeerLine Pods text found
  pub fault : opening_fault s rows found ≡ Some why

-- ---- a step

-- what a line's reading makes of the rows: it adds one; it ends them at a base; or it is refused
abbrev pub Adds : Selection → List RowData → Option PeerLine → Result (Option ℕ) LinkNo → List RowData → Type 0
Adds s rows found (Ok None) later =
    (row : RowData) × (found ≡ Some (as_read (Told (initial row)))) × (later ≡ rows ++ row ∷ [])
    × IsTrue (selects s row.obj) × (is_above_last rows (key_of row) ≡ true)
Adds s rows found (Ok (Some base)) later = (found ≡ Some (as_read (Closing base))) × (later ≡ rows) × (are_upto rows base ≡ true)
Adds s rows found (Err why) later = (why ≡ no.Memory) ⊎ (opening_fault s rows found ≡ Some why)

-- what the reading of one more line behind some rows answers: that it adds a row; that it ends them at a base; or why
-- neither
abbrev pub Steps : Selection → List RowData → ReaderData → List ℕ → Option (List ℕ) → Result (Option ℕ) LinkNo → List RowData → ReaderData → Type 0
Steps s rows old bytes left (Ok None) later new =
    (text : List ℕ) × (row : RowData) × ReadsText old bytes text new × IsPeerLine Pods text (as_read (Told (initial row)))
    × (later ≡ rows ++ row ∷ []) × IsTrue (selects s row.obj) × (is_above_last rows (key_of row) ≡ true)
Steps s rows old bytes left (Ok (Some base)) later new =
    (text : List ℕ) × ReadsText old bytes text new × IsPeerLine Pods text (as_read (Closing base)) × (later ≡ rows) × (are_upto rows base ≡ true)
Steps s rows old bytes left (Err why) later new =
    (why ≡ no.Memory) ⊎ (HasNoNext old bytes left why new ⊎ HasBadNext s rows old bytes why new)

-- ---- the bytes

-- the bytes so far are a head and the events of these rows, and the reader stands at their end
pub record HasRows (s : Selection) (bytes : List ℕ) (rows : List RowData) (reader : ReaderData) : Type 0 where
  pub texts : List (List ℕ)
  pub stands : Stands (Some most_opening) most_line bytes texts reader
  pub texts_are : AreTexts texts (initial_lines rows)
  pub rows_are : AreOpened s rows

-- the bytes are a head and the lines of an opening, whose reading goes on at their end, without a bound
pub record HasOpening (bytes : List ℕ) (opening : OpeningData) : Type 0 where
  pub texts : List (List ℕ)
  pub reader : ReaderData
  pub stands : Stands (Some most_opening) most_line bytes texts reader
  pub texts_are : AreTexts texts (opened_lines opening)
  pub reading : opening.reading ≡ record reader { room = None }

-- behind the events of some rows no line stands, for this reason; the stream may have ended there
pub record HasNoLine (s : Selection) (bytes : List ℕ) (left : Option (List ℕ)) (why : LinkNo) : Type 0 where
  pub rows : List RowData
  pub reader : ReaderData
  pub has : HasRows s bytes rows reader
  pub fault : ((fault : LineNo) × (why ≡ reading_refusal fault) × Faults reader left fault)
      ⊎ ((why ≡ no.CutShort) × (reader.room ≢ Some 0) × (reader.place ≡ place.Over) × (reader.part ≡ []))

-- behind them a line stands with which this is wrong
pub record HasBadLine (s : Selection) (bytes : List ℕ) (why : LinkNo) : Type 0 where
  pub rows : List RowData
  pub reader : ReaderData
  pub texts : List (List ℕ)
  pub text : List ℕ
  pub stands : Stands (Some most_opening) most_line bytes (texts ++ text ∷ []) reader
  pub texts_are : AreTexts texts (initial_lines rows)
  pub rows_are : AreOpened s rows
  pub found : Option PeerLine
  pub reads : ReadsPeerLine Pods text found
  pub fault : opening_fault s rows found ≡ Some why

-- the rows that the bytes have, and the base at which they stand
pub record HasRowsAt (s : Selection) (bytes : List ℕ) (rows : List RowData) (base : ℕ) (reader : ReaderData) : Type 0 where
  pub texts : List (List ℕ)
  pub stands : Stands (Some most_opening) most_line bytes texts reader
  pub texts_are : AreTexts texts (initial_lines rows ++ Closing base ∷ [])
  pub rows_are : AreOpened s rows
  pub old : All (λ row. row.rev ≤ base) rows
  pub told : IsToldAt base

-- the bytes begin no chunked body, for this reason
pub record HasNoHead (bytes : List ℕ) (left : Option (List ℕ)) (why : LinkNo) : Type 0 where
  pub fault : LineNo
  pub why_is : why ≡ reading_refusal fault
  pub refused : RefusesResponse bytes left fault

-- why the bytes, all that were taken, have no rows at a base: there was no memory; there is no head; behind some rows
-- no line stands, or one that may not stand there
abbrev pub HasNoRows : Selection → List ℕ → Option (List ℕ) → LinkNo → Type 0
HasNoRows s bytes left why = (why ≡ no.Memory) ⊎ (HasNoHead bytes left why ⊎ (HasNoLine s bytes left why ⊎ HasBadLine s bytes why))

-- and no opening: it wasn't asked for, and nothing was taken, or there are no rows
abbrev pub HasNoOpening : Selection → List ℕ → Option (List ℕ) → LinkNo → Type 0
HasNoOpening s bytes left why = ((why ≡ no.WriteFault) × (bytes ≡ [])) ⊎ HasNoRows s bytes left why

-- what the reading of an opening answers that took these bytes
abbrev pub Opens : Selection → List ℕ → Option (List ℕ) → Result OpeningData LinkNo → Type 0
Opens s bytes left (Ok opening) = HasOpening bytes opening
Opens s bytes left (Err why) = HasNoOpening s bytes left why

-- and that of its rows
abbrev pub ReadsRows : Selection → List ℕ → Option (List ℕ) → Result ℕ LinkNo → List RowData → ReaderData → Type 0
ReadsRows s bytes left (Ok base) rows reader = HasRowsAt s bytes rows base reader
ReadsRows s bytes left (Err why) rows reader = HasNoRows s bytes left why
