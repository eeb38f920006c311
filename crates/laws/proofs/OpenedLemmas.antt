-- Bytes with an opening aren't refused.
use Rattle.std.specs.Prelude.{◌&&◌, nat_le, IsTrue, Option, Some, None}
use Rattle.std.proofs.Common.{◌≡◌, ℕ, suc, ◌-◌, ◌≤◌, ◌⊎◌, inl, inr, Bool, true, cond, List, [], ◌∷◌, ◌++◌, length, drop, All, refl, sym, ap, subst, ◌∙◌, arith, append_assoc, append-nil, length-append}
use Rattle.std.specs.Cmp.Lexicographic.{slice_cmp}
use Rattle.std.specs.List.{slice_get}
use Rattle.std.specs.List.Sorted.{IsStrictlySortedBy}
use Rattle.std.specs.Option.{option_map_or}
use Rattle.std.specs.Ordering.{nat_cmp, is_lt}
use Rattle.std.proofs.lemmas.Bool.Decides.{nat_tests}
use Rattle.std.proofs.lemmas.List.{drop_at}
use Rattle.std.proofs.lemmas.List.Elements.{All-head, All-tail, All-same, All-drop}
use Rattle.httparse.proofs.GrammarLemmas.{print_response-append}
use Rattle.httparse.specs.Grammar.{ResponseHead, print_response, print_blank, print_version, print_reason, print_end, print_section}
use Rattle.kube_meta.specs.Rows.{RowData, key_of, AreRising}
use Rattle.kube_meta.specs.declared.resources.Resource.TheVariants.{Pods}
use Rattle.line_stream.specs.Outcomes.{OutcomesAgree}
use Rattle.line_stream.specs.Readers.{ReaderData, most_line, HoldsLine}
use Rattle.line_stream.specs.Standing.{Stands}
use Rattle.line_stream.specs.Streams.{ReadingsAgree}
use Rattle.mirror_link.specs.OpeningRefusals.{reading_refusal}
use Rattle.mirror_link.specs.Openings.{OpeningData, IsOpeningOf, AreOpened}
use Rattle.mirror_link.specs.Reading.{AreTexts, most_opening, opening_fault, are_upto, is_above_last, HasOpening, HasNoHead, HasNoLine, HasBadLine}
use Rattle.mirror_link.specs.declared.link_refusal.LinkNo.{LinkNo}
use Rattle.mirror_link.specs.declared.link_refusal.LinkNo.TheVariants as no
use Rattle.select_all.specs.declared.selection.Kind.TheVariants.{Added}
use Rattle.select_all.specs.declared.selection.Selection.{Selection}
use Rattle.select_all.specs.Selecting.{selects}
use Rattle.watch_lines.specs.Laws.{LinesAreOne, as_read}
use Rattle.watch_lines.specs.Lines.{IsPeerLine, ReadsPeerLine}
use Rattle.watch_lines.specs.declared.peer_line.PeerLine.{PeerLine}
use Rattle.watch_lines.specs.declared.peer_line.PeerLine.TheVariants as peer
use Rattle.watch_rules.specs.Bodies.{Told, Closing, initial, initial_lines}
use Rattle.laws.specs.Openings.{OpeningsAreNotRefused}
use Rattle.laws.proofs.NextLineLemmas.{next_line, not_over, not_stuck}
use Rattle.laws.proofs.OneLemmas.{row_of, first_is, rest_is, same_line}
use Rattle.laws.proofs.PeerHeadLemmas.{begun_is_not_refused}

-- ---- texts of an opening, and of events that begin one

-- the bookmark that ends an opening is no event
not_initial : LinesAreOne → (a b later : List (List ℕ)) (rows others : List RowData) (base : ℕ) → AreTexts a (initial_lines rows ++ Closing base ∷ []) → AreTexts b (initial_lines others)
    → b ≡ a ++ later → ⊥
not_initial one [] b later [] others base of to same = of
not_initial one [] b later (row ∷ rows) others base of to same = of
not_initial one (t ∷ a) [] later rows others base of to same = omega (arith, ap length same)
not_initial one (t ∷ a) (u ∷ b) later rows [] base of to same = to
not_initial one (t ∷ a) (u ∷ b) later [] (o ∷ others) base of to same =
    let line : peer.Bookmark base true ≡ peer.Told Added o.obj o.rev = same_line one t u (Closing base) (Told (initial o)) of.0 to.0 (first_is t u (a ++ later) b same) in cc
not_initial one (t ∷ a) (u ∷ b) later (row ∷ rows) (o ∷ others) base of to same =
    not_initial one a b later rows others base of.1 to.1 (rest_is t u (a ++ later) b same)

-- the text behind some events of an opening is that of its bookmark, or of its next event
abbrev Next : List RowData → List RowData → ℕ → List ℕ → Type 0
Next rows others base text =
    ((rows ≡ others) × IsPeerLine Pods text (as_read (Closing base)))
    ⊎ ((row : RowData) × (rest : List RowData) × (rows ≡ others ++ row ∷ rest) × IsPeerLine Pods text (as_read (Told (initial row))))

one_on : (row o : RowData) (rows others : List RowData) (base : ℕ) (text : List ℕ) → o ≡ row → Next rows others base text → Next (row ∷ rows) (o ∷ others) base text
one_on row o rows others base text same (inl next) = inl (ap (λ l. row ∷ l) next.0 ∙ ap (λ (r : RowData). r ∷ others) (sym same), next.1)
one_on row o rows others base text same (inr next) =
    inr (next.0, next.1, ap (λ l. row ∷ l) next.2 ∙ ap (λ (r : RowData). r ∷ (others ++ next.0 ∷ next.1)) (sym same), next.3)

next_is : LinesAreOne → (a b later behind : List (List ℕ)) (text : List ℕ) (rows others : List RowData) (base : ℕ) → AreTexts a (initial_lines rows ++ Closing base ∷ []) → AreTexts b (initial_lines others)
    → (b ++ text ∷ []) ++ later ≡ a ++ behind → Next rows others base text
next_is one [] b later behind text [] others base of to same = absurd of
next_is one [] b later behind text (row ∷ rows) others base of to same = absurd of
next_is one (t ∷ a) [] later behind text rows (o ∷ others) base of to same = absurd to
next_is one (t ∷ a) [] later behind text [] [] base of to same =
    inl (refl, subst (λ (l : List ℕ). IsPeerLine Pods l (as_read (Closing base))) (sym (first_is t text (a ++ behind) later same)) of.0)
next_is one (t ∷ a) [] later behind text (row ∷ rows) [] base of to same =
    inr (row, rows, refl, subst (λ (l : List ℕ). IsPeerLine Pods l (as_read (Told (initial row)))) (sym (first_is t text (a ++ behind) later same)) of.0)
next_is one (t ∷ a) (u ∷ b) later behind text rows [] base of to same = absurd to
next_is one (t ∷ a) (u ∷ b) later behind text [] (o ∷ others) base of to same =
    let line : peer.Bookmark base true ≡ peer.Told Added o.obj o.rev = same_line one t u (Closing base) (Told (initial o)) of.0 to.0 (first_is t u (a ++ behind) ((b ++ text ∷ []) ++ later) same) in absurd (cc)
next_is one (t ∷ a) (u ∷ b) later behind text (row ∷ rows) (o ∷ others) base of to same =
    let line : peer.Told Added row.obj row.rev ≡ peer.Told Added o.obj o.rev =
    same_line one t u (Told (initial row)) (Told (initial o)) of.0 to.0 (first_is t u (a ++ behind) ((b ++ text ∷ []) ++ later) same) in
    one_on row o rows others base text (row_of row o line)
    (next_is one a b later behind text rows others base of.1 to.1 (rest_is t u (a ++ behind) ((b ++ text ∷ []) ++ later) same))

-- ---- nothing is wrong with it

le_test : (a b : ℕ) → a ≤ b → nat_le a b ≡ true
le_test a b h = grind (arith, nat_tests)

upto_all : (rows : List RowData) (at : ℕ) → All (λ (row : RowData). row.rev ≤ at) rows → are_upto rows at ≡ true
upto_all [] at all = refl
upto_all (row ∷ rows) at all =
    rw (le_test row.rev at (All-head (λ (r : RowData). r.rev ≤ at) row rows all), upto_all rows at (All-tail (λ (r : RowData). r.rev ≤ at) row rows all)) refl

last_of_more : (x y : RowData) (rows : List RowData) → slice_get (x ∷ y ∷ rows) (length (x ∷ y ∷ rows) - 1) ≡ slice_get (y ∷ rows) (length (y ∷ rows) - 1)
last_of_more x y rows =
    let n : length (x ∷ y ∷ rows) - 1 ≡ suc (length (y ∷ rows) - 1) = omega arith in
    ap (slice_get (x ∷ y ∷ rows)) n

above_last : (others : List RowData) (row : RowData) (rest : List RowData) → AreRising (others ++ row ∷ rest) → is_above_last others (key_of row) ≡ true
unfolding IsStrictlySortedBy
above_last [] row rest rising = refl
above_last (x ∷ []) row rest rising = ap is_lt rising.0.0
above_last (x ∷ y ∷ others) row rest rising =
    ap (λ (last : Option RowData). option_map_or (λ (r : RowData). is_lt (slice_cmp nat_cmp (key_of r) (key_of row))) last true) (last_of_more x y others)
    ∙ above_last (y ∷ others) row rest rising.1

-- the next of the rows of an opening is no fault
pub added_well : (s : Selection) (rows others : List RowData) (row : RowData) (rest : List RowData) → AreOpened s rows → rows ≡ others ++ row ∷ rest
    → opening_fault s others (Some (as_read (Told (initial row)))) ≡ None
added_well s rows others row rest opened same =
    let P : RowData → Type 0 = λ r. IsTrue (selects s r.obj) in
    let behind : drop (length others) rows ≡ row ∷ rest = ap (drop (length others)) same ∙ drop_at others (row ∷ rest) (length others) refl in
    let selected : selects s row.obj ≡ true =
    All-head P row rest (All-same P (row ∷ rest) (drop (length others) rows) (sym behind) (All-drop P (length others) rows opened.selected)) in
    let above : is_above_last others (key_of row) ≡ true = above_last others row rest (subst AreRising same opened.rising) in
    ap (λ (b : Bool). cond (b && is_above_last others (key_of row)) None (Some no.BadLine)) selected ∙ ap (λ (b : Bool). cond b None (Some no.BadLine)) above

pub found_is : LinesAreOne → (text : List ℕ) (found : Option PeerLine) (is : PeerLine) → ReadsPeerLine Pods text found → IsPeerLine Pods text is → found ≡ Some is
found_is one text None is reads there = absurd (reads is there)
found_is one text (Some found) is reads there = ap Some (one Pods text found is reads there)

module _ (one : LinesAreOne) (opening : OpeningData) (lawful : IsOpeningOf opening) where
  closes_well : (others : List RowData) → opening.rows ≡ others → opening_fault opening.selection others (Some (as_read (Closing opening.base))) ≡ None
  closes_well others same =
      let upto : are_upto others opening.base ≡ true = upto_all others opening.base (subst (All (λ (row : RowData). row.rev ≤ opening.base)) same lawful.old) in
      ap (λ (b : Bool). cond b None (Some no.BadLine)) upto

  next_well : (others : List RowData) (text : List ℕ) (found : Option PeerLine) → Next opening.rows others opening.base text → ReadsPeerLine Pods text found
      → opening_fault opening.selection others found ≡ None
  next_well others text found (inl next) reads =
      ap (opening_fault opening.selection others) (found_is one text found (as_read (Closing opening.base)) reads next.1) ∙ closes_well others next.0
  next_well others text found (inr next) reads =
      ap (opening_fault opening.selection others) (found_is one text found (as_read (Told (initial next.0))) reads next.3) ∙ added_well opening.selection opening.rows others next.0 next.1 lawful.rows next.2

pub none_some : (why : LinkNo) → ◌≡◌ {A = Option LinkNo} None (Some why) → ⊥
none_some why e = cc

-- ---- the bytes

some_head : (h : ResponseHead) (rest : List ℕ) → print_response h ++ rest ≡ [] → ⊥
some_head h rest e =
    let behind : List ℕ = h.digits ++ (print_reason h.reason ++ (print_end h.line_end ++ (print_section h.fields h.last ++ rest))) in
    omega (
      arith,
      ap length (sym e ∙ print_response-append h rest),
      length-append (print_blank h.blank) (print_version h.minor ++ 32 ∷ behind),
      length-append (print_version h.minor) (32 ∷ behind),
    )

module _ (one : LinesAreOne) (agree : ReadingsAgree) (outcomes : OutcomesAgree) (bytes more : List ℕ) (opening : OpeningData) (lawful : IsOpeningOf opening) (x : HasOpening bytes opening)
    (left : Option (List ℕ)) (why : LinkNo) where
  no_head : HasNoHead (bytes ++ more) left why → why ≡ no.Memory
  no_head none = none.why_is ∙ ap reading_refusal (begun_is_not_refused bytes more x.stands.body left none.fault x.stands.begins none.refused)

  -- behind events that begin the opening a line stands
  stands_before : (texts : List (List ℕ)) (rows : List RowData) (reader : ReaderData) → Stands (Some most_opening) most_line (bytes ++ more) texts reader → AreTexts texts (initial_lines rows) → HoldsLine reader
  stands_before texts rows reader y are =
      elim (agree x.texts texts (Some most_opening) (Some most_opening) most_line most_line bytes more x.reader reader x.stands y) [
        | inl b ↦ absurd (not_initial one x.texts texts b.0 opening.rows rows opening.base x.texts_are are b.1)
        | inr b ↦ by_later b.0 b.1
      ]
    where
      by_later : (later : List (List ℕ)) → x.texts ≡ texts ++ later → HoldsLine reader
      by_later [] e = absurd (not_initial one x.texts texts [] opening.rows rows opening.base x.texts_are are (sym (append-nil x.texts ∙ e ∙ append-nil texts)))
      by_later (t ∷ later) e = next_line most_opening most_line bytes more x.texts texts later t x.reader reader x.stands y e

  short : (texts : List (List ℕ)) (reader : ReaderData) → Stands (Some most_opening) most_line (bytes ++ more) texts reader → length reader.part ≤ reader.most
  short texts reader y = subst (λ (m : ℕ). length reader.part ≤ m) (sym y.passes.most) y.holds.part_is.1

  no_line : HasNoLine opening.selection (bytes ++ more) left why → why ≡ no.Memory
  no_line none =
      let y = none.has.stands in
      let holds = stands_before none.has.texts none.rows none.reader y none.has.texts_are in
      elim none.fault [
        | inl f ↦ f.1 ∙ ap reading_refusal (not_stuck outcomes none.reader (short none.has.texts none.reader y) holds left f.0 f.2)
        | inr ends ↦ absurd (not_over outcomes none.reader (short none.has.texts none.reader y) holds (ends.1, ends.2, ends.3))
      ]

  bad_line : HasBadLine opening.selection (bytes ++ more) why → why ≡ no.Memory
  bad_line bad =
      let y = bad.stands in
      let all : List (List ℕ) = bad.texts ++ bad.text ∷ [] in
      let next : Next opening.rows bad.rows opening.base bad.text =
      elim (agree x.texts all (Some most_opening) (Some most_opening) most_line most_line bytes more x.reader bad.reader x.stands y) [
        | inl b ↦ next_is one x.texts bad.texts [] b.0 bad.text opening.rows bad.rows opening.base x.texts_are bad.texts_are (append-nil all ∙ b.1)
        | inr b ↦ next_is one x.texts bad.texts b.0 [] bad.text opening.rows bad.rows opening.base x.texts_are bad.texts_are (sym b.1 ∙ sym (append-nil x.texts))
      ] in
      absurd (none_some why (sym (next_well one opening lawful bad.rows bad.text bad.found next bad.reads) ∙ bad.fault))

  never_empty : bytes ++ more ≡ [] → ⊥
  never_empty e =
      let h : ResponseHead = x.stands.begins.0 in
      some_head h (x.stands.body ++ more) (sym (append_assoc (print_response h) x.stands.body more) ∙ ap (λ (l : List ℕ). l ++ more) (sym x.stands.begins.1.reads.1) ∙ e)

pub openings_are_not_refused : LinesAreOne → ReadingsAgree → OutcomesAgree → OpeningsAreNotRefused
openings_are_not_refused one agree outcomes bytes more opening left why lawful x refusal = by_case refusal
  where
    by_rows : (why ≡ no.Memory) ⊎ (HasNoHead (bytes ++ more) left why ⊎ (HasNoLine opening.selection (bytes ++ more) left why ⊎ HasBadLine opening.selection (bytes ++ more) why)) → why ≡ no.Memory
    by_rows (inl memory) = memory
    by_rows (inr (inl head)) = no_head one agree outcomes bytes more opening lawful x left why head
    by_rows (inr (inr (inl none))) = no_line one agree outcomes bytes more opening lawful x left why none
    by_rows (inr (inr (inr bad))) = bad_line one agree outcomes bytes more opening lawful x left why bad

    by_case : ((why ≡ no.WriteFault) × (bytes ++ more ≡ [])) ⊎ ((why ≡ no.Memory) ⊎ (HasNoHead (bytes ++ more) left why ⊎ (HasNoLine opening.selection (bytes ++ more) left why ⊎ HasBadLine opening.selection (bytes ++ more) why))) → why ≡ no.Memory
    by_case (inl unasked) = absurd (never_empty one agree outcomes bytes more opening lawful x left why unasked.1)
    by_case (inr rows) = by_rows rows
