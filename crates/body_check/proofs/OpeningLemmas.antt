-- The initial events of a start and the bookmark that ends them, against the lines.
use Rattle.std.proofs.Common.{◌≡◌, ◌↔◌, ℕ, ◌+◌, ◌-◌, ◌<◌, ◌≤◌, ◌^◌, Bool, true, false, IsTrue, eqb, ◌≢◌, List, [], ◌∷◌, ◌++◌, map, length, take, drop, get_or, Option, Some, None, refl, sym, ap, ◌∙◌, subst, inl, inr, append-nil, append_assoc, arith}
use Rattle.std.specs.Prelude.{if◌then◌else◌}
use Rattle.std.proofs.lemmas.Bool.{cases_Bool, iff_false, false≢true, eqb-true, eq-eqb}
use Rattle.std.proofs.lemmas.List.{map-append, take-append-drop, take_more, take_rest, at_drop_more, length-take, length-drop, length-append}
use Rattle.kube_meta.specs.Rows.{RowData}
use Rattle.meta_view.specs.declared.form.Form.TheVariants.{Whole}
use Rattle.meta_view.specs.Lines.{bookmark_line}
use Rattle.select_all.specs.Selecting.{selects}
use Rattle.select_all.specs.Streams.{TransitionData}
use Rattle.watch_record.specs.declared.records.Record.{Record}
use Rattle.watch_rules.specs.Bodies.{Told, Closing, initial, initial_lines}
use Rattle.watch_lines.proofs.ApartLemmas.{marks_apart}
use Rattle.body_check.specs.declared.found.Found.{Found}
use Rattle.body_check.specs.declared.found.Found.TheVariants.{Reached, Broken}
use Rattle.body_check.specs.Courses.{text_in, course_of, rows_told, closing_texts, opening_texts}
use Rattle.body_check.specs.Findings.{AreFirst, ArePartly, Behind, BeginsOtherwise, IsFound, good_of, later}
use Rattle.body_check.specs.Places.{IsPlaced, IsReached, texts_of_rows}
use Rattle.body_check.specs.Reading.{IsUnderWay, Reads}
use Rattle.body_check.proofs.Findings.{behind_both, behind_none, behind_some, found_behind, found_first, found_partly}
use Rattle.body_check.proofs.Reading.{reads_some}

module _ (case : Record) where
  abbrev lines : List (List ℕ)
  lines = case.lines.items

  -- ---- one row

  out_texts : (row : RowData) (rows : List RowData) → selects case.ask.selection row.obj ≡ false → texts_of_rows case (row ∷ rows) ≡ texts_of_rows case rows
  out_texts row rows out = rw out refl

  in_texts : (row : RowData) (rows : List RowData) → selects case.ask.selection row.obj ≡ true → texts_of_rows case (row ∷ rows) ≡ text_in case (Told (initial row)) ∷ texts_of_rows case rows
  in_texts row rows chosen = rw chosen refl

  both_texts : (row : RowData) (rows : List RowData) → texts_of_rows case (row ∷ rows) ≡ texts_of_rows case (row ∷ []) ++ texts_of_rows case rows
  both_texts row rows = elim (cases_Bool (selects case.ask.selection row.obj)) [
    | inl chosen ↦ in_texts row rows chosen ∙ ap (λ (l : List (List ℕ)). l ++ texts_of_rows case rows) (sym (in_texts row [] chosen))
    | inr out ↦ out_texts row rows out ∙ ap (λ (l : List (List ℕ)). l ++ texts_of_rows case rows) (sym (out_texts row [] out))
  ]

  next_is : (n : ℕ) (line : List ℕ) → n < length lines → line ≡ get_or lines n line → drop n lines ≡ line ∷ drop (n + 1) lines
  next_is n line inside item = at_drop_more (λ (l : List (List ℕ)). l) lines n line inside ∙ ap (λ (y : List ℕ). y ∷ drop (n + 1) lines) (sym item)

  pub placed_line : (n : ℕ) (row : RowData) (line : List ℕ) (good : Bool) (r : Option ℕ) → selects case.ask.selection row.obj ≡ true → n < length lines → line ≡ get_or lines n line
      → IsTrue good ↔ (line ≡ text_in case (Told (initial row))) → r ≡ (if good then Some (n + 1) else None) → IsPlaced case n row r
  placed_line n row line good r chosen inside item means r_is = elim (cases_Bool good) [
    | inl fine ↦
        let some : r ≡ Some (n + 1) = r_is ∙ ap (λ (b : Bool). if b then Some (n + 1) else None) fine in
        subst (IsPlaced case n row) (sym some) (record {
          within = omega (arith, inside);
          agree = take_more lines n line inside ∙ ap (λ (x : List ℕ). take n lines ++ x ∷ []) (sym item ∙ means.0 fine) ∙ ap (λ (l : List (List ℕ)). take n lines ++ l) (sym (in_texts row [] chosen));
        })
    | inr other ↦
        let none : r ≡ None = r_is ∙ ap (λ (b : Bool). if b then Some (n + 1) else None) other in
        subst (IsPlaced case n row) (sym none) (record {
          chosen = chosen;
          otherwise = subst (BeginsOtherwise (text_in case (Told (initial row)))) (sym (next_is n line inside item)) (λ e. iff_false means other e);
        })
  ]

  -- ---- one row after another

  pub compared_more : (all : List (List ℕ)) (n next : ℕ) (row : RowData) (rows : List RowData) → all ≡ take n lines ++ texts_of_rows case (row ∷ rows) → IsReached case n row next
      → all ≡ take next lines ++ texts_of_rows case rows
  compared_more all n next row rows so is =
      so ∙ ap (λ (l : List (List ℕ)). take n lines ++ l) (both_texts row rows) ∙ sym (append_assoc (take n lines) (texts_of_rows case (row ∷ [])) (texts_of_rows case rows))
      ∙ ap (λ (l : List (List ℕ)). l ++ texts_of_rows case rows) (sym is.agree)

  counted : (n : ℕ) → n ≤ length lines → n ≡ length (take n lines)
  counted n fits = let e = length-take n lines in omega (arith, e)

  pub compared_all : (all : List (List ℕ)) (n : ℕ) → all ≡ take n lines ++ texts_of_rows case [] → n ≤ length lines → AreFirst all lines n
  compared_all all n so fits =
      let same : all ≡ take n lines = so ∙ append-nil (take n lines) in
      record {
        counted = counted n fits ∙ ap length (sym same);
        agree = sym (take-append-drop n lines) ∙ ap (λ (l : List (List ℕ)). l ++ drop n lines) (sym same);
      }

  -- ---- the closing bookmark

  module _ (at : ℕ) (rest : List TransitionData) where
    abbrev Follows : List (List ℕ) → ℕ → Type 0
    Follows = Reads (course_of case at) rest at

    pub closing_then : (texts : List (List ℕ)) (r : Found) → case.ask.closing ≡ true → IsFound (Behind (text_in case (Closing at) ∷ []) (Reads (course_of case at) rest at)) texts r
        → IsFound (Behind (closing_texts case at) (Reads (course_of case at) rest at)) texts r
    closing_then texts r is found = subst (λ (b : Bool). IsFound (Behind (if b then text_in case (Closing at) ∷ [] else []) (Reads (course_of case at) rest at)) texts r) (sym is) found

    pub closing_else : (texts : List (List ℕ)) (r : Found) → case.ask.closing ≡ false → IsFound (Reads (course_of case at) rest at) texts r
        → IsFound (Behind (closing_texts case at) (Reads (course_of case at) rest at)) texts r
    closing_else texts r is found =
        subst (λ (b : Bool). IsFound (Behind (if b then text_in case (Closing at) ∷ [] else []) (Reads (course_of case at) rest at)) texts r) (sym is)
        (behind_none (Reads (course_of case at) rest at) texts r found)

    pub closed_not : (texts : List (List ℕ)) → IsUnderWay (course_of case at) rest at → BeginsOtherwise (text_in case (Closing at)) texts
        → IsFound (Behind (text_in case (Closing at) ∷ []) (Reads (course_of case at) rest at)) texts (Broken 0)
    closed_not texts under other =
        found_partly (Reads (course_of case at) rest at) (text_in case (Closing at) ∷ []) texts 0 (reads_some (course_of case at) rest at under)
        (record { good = []; missed = text_in case (Closing at); others = []; counted = refl; parted = refl; agree = refl; otherwise = other })

    pub closed_none : (texts : List (List ℕ)) → length texts ≤ 0 → BeginsOtherwise (text_in case (Closing at)) texts
    closed_none [] none = tt
    closed_none (x ∷ texts) none = absurd (omega arith)

    pub closed_other : (texts : List (List ℕ)) (line : List ℕ) → line ≡ get_or texts 0 line → (line ≡ text_in case (Closing at) → ⊥) → BeginsOtherwise (text_in case (Closing at)) texts
    closed_other [] line item not = tt
    closed_other (x ∷ texts) line item not = λ e. not (item ∙ e)

    pub closed : (texts : List (List ℕ)) (line : List ℕ) (r : Found) → 1 ≤ length texts → line ≡ get_or texts 0 line → line ≡ text_in case (Closing at)
        → IsFound (Reads (course_of case at) rest at) (take (length texts - 1) (drop 1 texts)) r → IsFound (Behind (text_in case (Closing at) ∷ []) (Reads (course_of case at) rest at)) texts (later 1 r)
    closed [] line r some item is found = absurd (omega arith)
    closed (x ∷ texts) line r some item is found =
        let rest_is : take (length (x ∷ texts) - 1) (drop 1 (x ∷ texts)) ≡ texts = take_rest (x ∷ texts) 1 in
        let first : text_in case (Closing at) ≡ x = sym is ∙ item in
        subst (λ (y : List ℕ). IsFound (Behind (text_in case (Closing at) ∷ []) (Reads (course_of case at) rest at)) (y ∷ texts) (later 1 r)) first
        (found_behind (Reads (course_of case at) rest at) (text_in case (Closing at) ∷ []) texts r (subst (λ (l : List (List ℕ)). IsFound (Reads (course_of case at) rest at) l r) rest_is found))

    -- ---- all of it

    opening_parted : (rows : List RowData) → map (text_in case) (initial_lines (rows_told case.ask.start case.ask.selection rows)) ++ closing_texts case at ≡ opening_texts case at rows
    opening_parted rows =
        ap (λ (l : List (List ℕ)). map (text_in case) (initial_lines (rows_told case.ask.start case.ask.selection rows)) ++ l) (closing_is case.ask.closing)
        ∙ sym (map-append (text_in case) (initial_lines (rows_told case.ask.start case.ask.selection rows)) (if case.ask.closing then Closing at ∷ [] else []))
      where
        closing_is : (b : Bool) → (if b then text_in case (Closing at) ∷ [] else []) ≡ map (text_in case) (if b then Closing at ∷ [] else [])
        closing_is true = refl
        closing_is false = refl

    pub started : (rows : List RowData) (n : ℕ) (r : Found) → AreFirst (map (text_in case) (initial_lines (rows_told case.ask.start case.ask.selection rows))) lines n
        → IsFound (Behind (closing_texts case at) (Reads (course_of case at) rest at)) (take (length lines - n) (drop n lines)) r
        → IsFound (Behind (opening_texts case at rows) (Reads (course_of case at) rest at)) lines (later n r)
    started rows n r first found =
        let L : List (List ℕ) → ℕ → Type 0 = Reads (course_of case at) rest at in
        let O : List (List ℕ) = map (text_in case) (initial_lines (rows_told case.ask.start case.ask.selection rows)) in
        subst (λ (l : List (List ℕ)). IsFound (Behind l (Reads (course_of case at) rest at)) lines (later n r)) (opening_parted rows)
        (behind_both (Reads (course_of case at) rest at) O (closing_texts case at) lines (later n r)
        (found_first (Behind (closing_texts case at) (Reads (course_of case at) rest at)) O lines n r first
        (subst (λ (l : List (List ℕ)). IsFound (Behind (closing_texts case at) (Reads (course_of case at) rest at)) l r) (take_rest lines n) found)))

    pub unstarted : (rows : List RowData) (n : ℕ) → IsUnderWay (course_of case at) rest at → ArePartly (map (text_in case) (initial_lines (rows_told case.ask.start case.ask.selection rows))) lines n
        → IsFound (Behind (opening_texts case at rows) (Reads (course_of case at) rest at)) lines (Broken n)
    unstarted rows n under partly =
        let O : List (List ℕ) = map (text_in case) (initial_lines (rows_told case.ask.start case.ask.selection rows)) in
        subst (λ (l : List (List ℕ)). IsFound (Behind l (Reads (course_of case at) rest at)) lines (Broken n)) (opening_parted rows)
        (behind_both (Reads (course_of case at) rest at) O (closing_texts case at) lines (Broken n)
        (found_partly (Behind (closing_texts case at) (Reads (course_of case at) rest at)) O lines n
        (behind_some (Reads (course_of case at) rest at) (closing_texts case at) (reads_some (course_of case at) rest at under)) partly))

-- what is good is of the texts
pub good_within : (Tells : List (List ℕ) → ℕ → Type 0) (texts : List (List ℕ)) (r : Found) → IsFound Tells texts r → good_of r ≤ length texts
good_within Tells texts (Reached to) is = omega arith
good_within Tells texts (Broken n) is = is.within

-- ---- a closing bookmark

module _ (case : Record) (at : ℕ) (line : List ℕ) (low : at ≤ 2 ^ 62) where
  pub closing_found : (found : ℕ) → found ≤ 2 ^ 62 → line ≡ bookmark_line Whole case.ask.selection.resource found true → IsTrue (eqb found at) ↔ (line ≡ text_in case (Closing at))
  closing_found found found_low is = (
    λ same. is ∙ ap (λ (n : ℕ). bookmark_line Whole case.ask.selection.resource n true) (eqb-true found at same),
    λ e. eq-eqb found at (marks_apart case.ask.selection.resource true found at found_low low (sym is ∙ e)),
  )

  pub closing_missed : ((n : ℕ) → n ≤ 2 ^ 62 → line ≢ bookmark_line Whole case.ask.selection.resource n true) → IsTrue false ↔ (line ≡ text_in case (Closing at))
  closing_missed none = (λ bad. absurd (false≢true bad), λ e. absurd (none at low e))

-- what stands first is no longer than all
first_fits : (first texts : List (List ℕ)) (n : ℕ) → AreFirst first texts n → n ≤ length texts
first_fits first texts n is =
    let all : length texts ≡ length first + length (drop n texts) = ap length is.agree ∙ length-append first (drop n texts) in
    omega (arith, all, is.counted)

pub start_fits : (first texts : List (List ℕ)) (n all : ℕ) (Tells : List (List ℕ) → ℕ → Type 0) (r : Found) → AreFirst first texts n → IsFound Tells (take (length texts - n) (drop n texts)) r → all ≡ length texts
    → n + good_of r ≤ all
start_fits first texts n all Tells r is found all_is =
    let good = good_within Tells (take (length texts - n) (drop n texts)) r found in
    let whole : length (take (length texts - n) (drop n texts)) ≡ length texts - n = ap length (take_rest texts n) ∙ length-drop n texts in
    omega (arith, good, whole, all_is, first_fits first texts n is)
