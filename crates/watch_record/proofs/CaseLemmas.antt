-- The faults of a header and of what stands behind it, and the record of the two.
use Rattle.std.proofs.Common.{◌≡◌, ℕ, suc, ◌+◌, Bool, true, false, ◌&&◌, List, [], ◌∷◌, Option, Some, None, IfSome, length, refl, sym, ap, ◌∙◌}
use Rattle.std.specs.Prelude.{bytes_eq, option_and_then, if◌then◌else◌, IsUtf8}
use Rattle.std.specs.Str.{is_utf8}
use Rattle.std.proofs.lemmas.Bool.{and_parts}
use Rattle.std.proofs.lemmas.Option.{none-some, same_Some}
use Rattle.std.proofs.lemmas.Str.{IsUtf8-from_is_utf8, is_utf8-from_IsUtf8}
use Rattle.serde_json.specs.Read.{read}
use Rattle.rev_log.specs.Changes.{RevisionData}
use Rattle.watch_rules.specs.declared.ask.WatchAsk.{WatchAsk}
use Rattle.watch_record.specs.Lines.{Parts}
use Rattle.watch_record.specs.Headers.{header_text, is_in_range, header_at, header_in, header_of}
use Rattle.watch_record.specs.Revisions.{AreRevisionsOf}
use Rattle.watch_record.specs.Reading.{ReadsLog}
use Rattle.watch_record.specs.Asking.{is_asked, IsAskOf}
use Rattle.watch_record.specs.Records.{has_floor, ask_fault, log_fault, text_fault, is_too_long, record_fault, IsReadOf}
use Rattle.watch_record.specs.declared.header.Header.{Header}
use Rattle.watch_record.specs.declared.records.Record.{Record}
use Rattle.watch_record.specs.declared.refusals.RecordNo.{RecordNo}
use Rattle.watch_record.specs.declared.refusals.RecordNo.TheVariants.{BadHeader, BadFloor, BadAsk}

-- a header is in range
at-range : (line : List ℕ) (h header : Header) → header_at line h ≡ Some header → is_in_range header ≡ true
at-range line h header e = by_test (bytes_eq (header_text h) line && is_in_range h) refl e
  where
    by_test : (b : Bool) → (bytes_eq (header_text h) line && is_in_range h) ≡ b → (if b then Some h else None) ≡ Some header → is_in_range header ≡ true
    by_test true is some = ap is_in_range (sym (same_Some h header some)) ∙ (and_parts (bytes_eq (header_text h) line) (is_in_range h) is).1
    by_test false is some = absurd (none-some header some)

pub in-range : (line : List ℕ) (header : Header) → header_of line ≡ Some header → is_in_range header ≡ true
in-range line header e = by_value (option_and_then header_in (read line)) e
  where
    by_value : (found : Option Header) → option_and_then (header_at line) found ≡ Some header → is_in_range header ≡ true
    by_value None some = absurd (none-some header some)
    by_value (Some h) some = at-range line h header some

-- ---- behind the header

same-length : (rev : ℕ) (lines : List (List ℕ)) (log : List RevisionData) → AreRevisionsOf rev lines log → length lines ≡ length log
same-length rev [] [] are = refl
same-length rev [] (r ∷ log) are = absurd are
same-length rev (l ∷ lines) [] are = absurd are
same-length rev (l ∷ lines) (r ∷ log) are = ap suc (same-length (rev + 1) lines log are.1)

abbrev pub IsLog : Header → List RevisionData → List (List ℕ) → Option Parts → Type 0
IsLog header log body found = IfSome found (λ (parts : Parts). ReadsLog header.first parts.log log × (body ≡ parts.body))

abbrev pub HasFault : Header → Option RecordNo → Option Parts → Type 0
HasFault header fault found = IfSome found (λ (parts : Parts). log_fault header parts.log ≡ fault)

later-fault : (header : Header) (log : List RevisionData) (parts : Parts) → ReadsLog header.first parts.log log → log_fault header parts.log ≡ ask_fault header (length log)
later-fault header log parts reads = rw reads.good (ap (ask_fault header) (same-length (header.first + 1) parts.log log reads.log_is))

pub floor-fault : (header : Header) (log : List RevisionData) (body : List (List ℕ)) (found : Option Parts) → IsLog header log body found
    → has_floor header (length log) ≡ false → HasFault header (Some BadFloor) found
floor-fault header log body None is wrong = tt
floor-fault header log body (Some parts) is wrong = later-fault header log parts is.0 ∙ rw wrong refl

pub asking-fault : (header : Header) (log : List RevisionData) (body : List (List ℕ)) (found : Option Parts) → IsLog header log body found
    → has_floor header (length log) ≡ true → is_asked header ≡ false → HasFault header (Some BadAsk) found
asking-fault header log body None is floor wrong = tt
asking-fault header log body (Some parts) is floor wrong = later-fault header log parts is.0 ∙ rw (floor, wrong) refl

-- what a record is made of
pub record IsMadeOf (header : Header) (log : List RevisionData) (ask : WatchAsk) (lines : List (List ℕ)) (case : Record) : Type 0 where
  pub first_is : case.first ≡ header.first
  pub floor_is : case.floor ≡ header.floor
  pub window_is : case.window ≡ header.window
  pub log_is : case.log.items ≡ log
  pub ask_is : case.ask ≡ ask
  pub lines_are : case.lines.items ≡ lines

pub read-case : (header : Header) (log : List RevisionData) (ask : WatchAsk) (lines body : List (List ℕ)) (case : Record) (found : Option Parts) → IsLog header log body found
    → has_floor header (length log) ≡ true → is_asked header ≡ true → IsAskOf header ask → lines ≡ body → IsMadeOf header log ask lines case
    → IfSome found (λ (parts : Parts). (log_fault header parts.log ≡ None) × IsReadOf header parts case)
read-case header log ask lines body case None is floor asked asks same made = tt
read-case header log ask lines body case (Some parts) is floor asked asks same made = (
  later-fault header log parts is.0 ∙ rw (floor, asked) refl,
  record {
    first_is = made.first_is;
    floor_is = made.floor_is;
    window_is = made.window_is;
    log = rw made.log_is is.0.log_is;
    ask = rw made.ask_is asks;
    lines = made.lines_are ∙ same ∙ is.1;
  },
)

-- ---- the whole

pub of-text : (bytes : List ℕ) → is_too_long bytes ≡ false → IsUtf8 bytes → record_fault bytes ≡ text_fault bytes
of-text bytes short utf8 = rw (short, is_utf8-from_IsUtf8 bytes utf8) refl

pub no-text : (bytes : List ℕ) → is_too_long bytes ≡ false → ¬ (IsUtf8 bytes) → record_fault bytes ≡ Some BadHeader
no-text bytes short wrong = rw (short, fails (is_utf8 bytes) (λ e. wrong (IsUtf8-from_is_utf8 bytes e))) refl
  where
    fails : (b : Bool) → (b ≡ true → ⊥) → b ≡ false
    fails true no_way = absurd (no_way refl)
    fails false no_way = refl
