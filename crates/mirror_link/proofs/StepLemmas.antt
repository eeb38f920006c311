-- The reading of an opening, line by line.
use Rattle.std.proofs.Common.{◌≡◌, ℕ, ◌<◌, List, [], ◌∷◌, ◌++◌, length, Option, Some, None, Result, Ok, Err, sym, ap, ◌∙◌, subst, inl, inr, arith}
use Rattle.std.specs.Prelude.{IsTrue}
use Rattle.std.specs.List.Sorted.{IsStrictlySortedBy}
use Rattle.std.proofs.lemmas.List.Elements.{All-push, All-nil}
use Rattle.kube_meta.specs.declared.resources.Resource.TheVariants.{Pods}
use Rattle.kube_meta.specs.Rows.{RowData}
use Rattle.line_stream.proofs.StandLemmas.{bodies-begin, parts-go-on, lines-go-on}
use Rattle.edge_io.specs.Told.{prepended}
use Rattle.edge_io.proofs.ToldLemmas.{prepended-prepended}
use Rattle.line_stream.specs.Heads.{AnswersHead, BeginsChunks, RefusesResponse, at_body}
use Rattle.line_stream.specs.declared.refusal.LineNo.{LineNo}
use Rattle.mirror_link.specs.OpeningRefusals.{reading_refusal}
use Rattle.line_stream.specs.Readers.{LinesData, ReaderData, most_line, ReadsText, Spends}
use Rattle.select_all.specs.declared.selection.Selection.{Selection}
use Rattle.select_all.specs.Selecting.{selects}
use Rattle.watch_lines.specs.Laws.{as_read}
use Rattle.watch_lines.specs.Lines.{IsPeerLine, ReadsPeerLine}
use Rattle.watch_lines.specs.Stored.{IsStored}
use Rattle.watch_lines.specs.declared.peer_line.PeerLine.{PeerLine}
use Rattle.watch_rules.specs.Bodies.{Told, Closing, initial, initial_lines}
use Rattle.mirror_link.specs.Reading.{most_opening, AreTexts, Adds, Steps, HasRows, HasRowsAt, HasNoRows}
use Rattle.mirror_link.specs.declared.link_refusal.LinkNo.{LinkNo}
use Rattle.mirror_link.proofs.RowLemmas.{rising_push, all_upto, map_push, zip_push}

-- a line that was read, and what it makes of the rows
pub stepped : (s : Selection) (rows : List RowData) (old : ReaderData) (bytes : List ℕ) (left : Option (List ℕ)) (text : List ℕ) (new : ReaderData) (found : Option PeerLine)
    (result : Result (Option ℕ) LinkNo) (later : List RowData) → ReadsText old bytes text new → ReadsPeerLine Pods text found → Adds s rows found result later → Steps s rows old bytes left result later new
stepped s rows old bytes left text new found (Ok None) later read reads adds =
    (text, adds.0, read, subst (ReadsPeerLine Pods text) adds.1 reads, adds.2, adds.3, adds.4)
stepped s rows old bytes left text new found (Ok (Some base)) later read reads adds =
    (text, read, subst (ReadsPeerLine Pods text) adds.0 reads, adds.1, adds.2)
stepped s rows old bytes left text new found (Err why) later read reads adds = elim adds [
  | inl memory ↦ inl memory
  | inr fault ↦ inr (inr (record { text = text; read = read; found = found; reads = reads; fault = fault }))
]

-- behind the head
pub rows_begin : (s : Selection) (bytes after : List ℕ) → BeginsChunks bytes after → HasRows s bytes [] (at_body (Some most_opening) most_line after)
unfolding IsStrictlySortedBy
rows_begin s bytes after begins = record {
  texts = [];
  stands = bodies-begin (Some most_opening) most_line bytes after begins;
  texts_are = tt;
  rows_are = record { rising = tt; selected = All-nil (λ row. IsTrue (selects s row.obj)); stored = All-nil (λ row. IsStored Pods row.obj) };
}

module _ (s : Selection) (bytes taken : List ℕ) (left : Option (List ℕ)) (rows : List RowData) (old : ReaderData) (has : HasRows s bytes rows old) where
  -- one more row
  pub rows_go_on : (later : List RowData) (new : ReaderData) → Steps s rows old (old.kept ++ taken) left (Ok None) later new → HasRows s (bytes ++ taken) later new
  rows_go_on later new (text, row, read, is, later_is, selected, next) = subst (λ (l : List RowData). HasRows s (bytes ++ taken) l new) (sym later_is) (record {
    texts = has.texts ++ text ∷ [];
    stands = lines-go-on (Some most_opening) most_line bytes taken text has.texts old new has.stands read;
    texts_are = subst (AreTexts (has.texts ++ text ∷ [])) (sym (map_push (λ row. Told (initial row)) rows row))
        (zip_push (λ t line. IsPeerLine Pods t (as_read line)) has.texts (initial_lines rows) text (Told (initial row)) has.texts_are is);
    rows_are = record {
      rising = rising_push rows row has.rows_are.rising next;
      selected = All-push (λ r. IsTrue (selects s r.obj)) rows row has.rows_are.selected selected;
      stored = All-push (λ r. IsStored Pods r.obj) rows row has.rows_are.stored is.0;
    };
  })

  -- the end, or a refusal
  pub rows_end : (base : ℕ) (later : List RowData) (new : ReaderData) → Steps s rows old (old.kept ++ taken) left (Ok (Some base)) later new → HasRowsAt s (bytes ++ taken) later base new
  rows_end base later new (text, read, is, later_is, upto) = subst (λ (l : List RowData). HasRowsAt s (bytes ++ taken) l base new) (sym later_is) (record {
    texts = has.texts ++ text ∷ [];
    stands = lines-go-on (Some most_opening) most_line bytes taken text has.texts old new has.stands read;
    texts_are = zip_push (λ t line. IsPeerLine Pods t (as_read line)) has.texts (initial_lines rows) text (Closing base) has.texts_are is;
    rows_are = has.rows_are;
    old = all_upto rows base upto;
    told = is.0;
  })

  pub rows_stop : (why : LinkNo) (later : List RowData) (new : ReaderData) → Steps s rows old (old.kept ++ taken) left (Err why) later new → HasNoRows s (bytes ++ taken) left why
  rows_stop why later new steps = elim steps [
    | inl memory ↦ inl memory
    | inr (inl none) ↦ inr (inr (inl (record {
      rows = rows;
      reader = new;
      has = record {
        texts = has.texts;
        stands = parts-go-on (Some most_opening) most_line bytes taken has.texts old new has.stands none.goes;
        texts_are = has.texts_are;
        rows_are = has.rows_are;
      };
      fault = none.fault;
    })))
    | inr (inr bad) ↦ inr (inr (inr (record {
      rows = rows;
      reader = new;
      texts = has.texts;
      text = bad.text;
      stands = lines-go-on (Some most_opening) most_line bytes taken bad.text has.texts old new has.stands bad.read;
      texts_are = has.texts_are;
      rows_are = has.rows_are;
      found = bad.found;
      reads = bad.reads;
      fault = bad.fault;
    })))
  ]

-- ---- what is left of the data that may be taken

pub room_in : Option ℕ → ℕ
room_in None = 0
room_in (Some room) = room

pub has_room : (s : Selection) (bytes : List ℕ) (rows : List RowData) (reader : ReaderData) → HasRows s bytes rows reader → (room : ℕ) × (reader.room ≡ Some room)
has_room s bytes rows reader has = (has.stands.passes.room.0, has.stands.passes.room.2)

-- each line takes some
pub line_takes : (old new : ReaderData) (bytes text : List ℕ) (room : ℕ) → ReadsText old bytes text new → old.room ≡ Some room → room_in new.room < room_in old.room
unfolding room_in
line_takes old new bytes text room read is =
    let first : Spends (Some room) (length read.goes.content) read.before.room = subst (λ (r : Option ℕ). Spends r (length read.goes.content) read.before.room) is read.goes.passes.room in
    let second : Spends (Some first.0) 1 new.room = subst (λ (r : Option ℕ). Spends r 1 new.room) first.2 read.ends.room in
    rw (is, second.2) (omega (arith, first.1, second.1))

-- ---- the loop

pub begun : (s : Selection) (old new : LinesData) (taken : List ℕ) (left : Option (List ℕ)) (rows : List RowData) (u : Unit {0}) →
    old.at.kept ≡ [] → old.at.room ≡ Some most_opening → old.at.most ≡ most_line → rows ≡ [] → AnswersHead old (old.at.kept ++ taken) new left (Ok u) → HasRows s taken rows new.at
begun s old new taken left rows u empty room limit none (after, begins, is) =
    let begins_here : BeginsChunks taken after = subst (λ (kept : List ℕ). BeginsChunks (kept ++ taken) after) empty begins in
    let at : new.at ≡ at_body (Some most_opening) most_line after =
    ap (λ (r : LinesData). r.at) is ∙ ap (λ (n : Option ℕ). at_body n old.at.most after) room ∙ ap (λ (n : ℕ). at_body (Some most_opening) n after) limit in
    subst (λ (r : ReaderData). HasRows s taken rows r) (sym at) (subst (λ (l : List RowData). HasRows s taken l (at_body (Some most_opening) most_line after)) (sym none) (rows_begin s taken after begins_here))

pub headless : (s : Selection) (old new : LinesData) (taken : List ℕ) (left : Option (List ℕ)) (fault : LineNo) (why : LinkNo) →
    old.at.kept ≡ [] → why ≡ reading_refusal fault → AnswersHead old (old.at.kept ++ taken) new left (Err fault) → HasNoRows s taken left why
headless s old new taken left fault why empty why_is answers =
    inr (inl (record { fault = fault; why_is = why_is; refused = subst (λ (kept : List ℕ). RefusesResponse (kept ++ taken) left fault) empty answers.0 }))

-- what was taken by two calls, one after the other
pub taken_on : (first second : List ℕ) (a b c : Option (List ℕ)) → a ≡ prepended first b → b ≡ prepended second c → a ≡ prepended (first ++ second) c
taken_on first second a b c one two = one ∙ ap (prepended first) two ∙ prepended-prepended first second c

pub room_falls : (s : Selection) (bytes taken : List ℕ) (left : Option (List ℕ)) (rows later : List RowData) (old new : ReaderData) → HasRows s bytes rows old →
    Steps s rows old (old.kept ++ taken) left (Ok None) later new → room_in new.room < room_in old.room
room_falls s bytes taken left rows later old new has (text, row, read, is, later_is, selected, next) =
    let room = has_room s bytes rows old has in
    line_takes old new (old.kept ++ taken) text room.0 read room.1
