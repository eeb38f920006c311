-- What a node keeps of its pages.
use Rattle.std.proofs.Common.{◌≡◌, ℕ, suc, ◌+◌, ◌-◌, ◌/◌, ◌<◌, ◌≤◌, true, false, List, [], ◌∷◌, ◌++◌, length, map, take, drop, get_or, set, inl, inr, refl, sym, ap, ◌∙◌, subst, arith, lit<, length-append, length-take, length-drop}
use Rattle.std.specs.List.{insert}
use Rattle.std.proofs.lemmas.Bool.{cases_eq, cases_lt}
use Rattle.std.proofs.lemmas.List.{length-map, length-set, get_or-map, get_or-take, get_or-drop, get_or_append_left, get_or-append_right, get_or-set_same, get_or-set_other}
use Rattle.std.proofs.lemmas.List.Edits.{length-insert, get_or-insert_below, get_or-insert_at, get_or-insert_above}
use Rattle.std.proofs.lemmas.Nat.{mod_below}
use Rattle.kube_meta.specs.Rows.{RowData}
use Rattle.kube_meta.specs.Words.{has_bits, fields_word, fits}
use Rattle.kube_meta.specs.declared.words.Mask.{Mask}
use Rattle.kube_meta.proofs.WordLemmas.{lacks_within, fields_lack}
use Rattle.obj_tree.specs.declared.mark.Mark.{Mark}
use Rattle.obj_tree.specs.Marks.{IsMark, AreMarks, IsFirstMark, IsReplacedAt, Lack}
use Rattle.obj_tree.specs.Pages.{page_at, replaced}
use Rattle.obj_tree.specs.Words.{AreUnfit, HaveFours, four_at}

-- ---- rows that a mark tells of

pub words_told : {X : Type 0} (f : X → RowData) (word : RowData → ℕ) (xs : List X) → map word (map f xs) ≡ map (λ x. word (f x)) xs
words_told f word [] = refl
words_told f word (x ∷ xs) = ap (λ (rest : List ℕ). word (f x) ∷ rest) (words_told f word xs)

-- the words of the same rows
pub words_alike : {X : Type 0} (f : X → RowData) (word : RowData → ℕ) (xs ys : List X) → map f xs ≡ map f ys → map (λ x. word (f x)) xs ≡ map (λ x. word (f x)) ys
words_alike f word xs ys same = sym (words_told f word xs) ∙ ap (map word) same ∙ words_told f word ys

lacking : (fours : List ℕ) (word : RowData → ℕ) (page : List RowData) (mask k : ℕ) (d : RowData) → HaveFours fours (map word page) → Lack fours mask → k < length page → has_bits (word (get_or page k d)) mask ≡ false
lacking fours word page mask k d have lack inside =
    let joins : has_bits (get_or fours (four_at k) 0) (word (get_or page k d)) ≡ true =
    subst (λ (w : ℕ). has_bits (get_or fours (four_at k) 0) w ≡ true) (get_or-map word page k d 0 inside) (have k (omega (arith, inside, length-map page word))) in
    lacks_within (get_or fours (four_at k) 0) (word (get_or page k d)) mask joins (lack (four_at k) (mod_below (k / 4) 16 (lit< tt)))

unfit_by : (mark : Mark) (page : List RowData) (mask : Mask) → IsMark mark page → Lack mark.fours mask.fields → (k : ℕ) (d : RowData) → k < length page → fits mask (get_or page k d).obj ≡ false
unfit_by mark page mask is lack k d inside =
    fields_lack mask (get_or page k d).obj (lacking mark.fours (λ row. fields_word row.obj.fields) page mask.fields k d is.fields lack inside)

pub mark_tells : (mark : Mark) (page : List RowData) (from : ℕ) (mask : Mask) → IsMark mark page → Lack mark.fours mask.fields → from < length page → AreUnfit mask (drop from page) (mark.len - from)
mark_tells mark page from mask is lacks inside =
    let behind = length-drop from page in
    record {
      inside = omega (arith, behind, is.rows);
      unfit = λ k d lt. ap (λ (r : RowData). fits mask r.obj) (get_or-drop from page k d) ∙ unfit_by mark page mask is lacks (from + k) d (omega (arith, lt, is.rows));
      first = λ d none some. absurd (omega (arith, none, some, behind, is.rows));
    }

-- ---- marks beside pages

-- one more at the end
pub marks_more : (marks : List Mark) (pages : List (List RowData)) (m : Mark) → AreMarks marks pages → IsMark m (page_at pages (length marks)) → AreMarks (marks ++ m ∷ []) pages
marks_more marks pages m are is = λ k d inside in_pages. elim (cases_lt k (length marks)) [
  | inl before ↦ subst (λ (x : Mark). IsMark x (page_at pages k)) (sym (get_or_append_left marks (m ∷ []) d k before)) (are k d before in_pages)
  | inr past ↦
      let here : k ≡ length marks = omega (arith, past, inside, length-append marks (m ∷ [])) in
      let last : get_or (marks ++ m ∷ []) k d ≡ m = get_or-append_right marks (m ∷ []) (length marks) k d refl past ∙ ap (λ (n : ℕ). get_or (m ∷ []) n d) {x = k - length marks} {y = 0} (omega (arith, here)) in
      subst (λ (x : Mark). IsMark x (page_at pages k)) (sym last) (subst (λ (n : ℕ). IsMark m (page_at pages n)) (sym here) is)
]

-- behind the first page
pub marks_behind : (marks : List Mark) (pages rest : List (List RowData)) (page : List RowData) → pages ≡ page ∷ rest → AreMarks marks pages → AreMarks (drop 1 marks) rest
marks_behind [] pages rest page same are = λ k d inside in_pages. absurd (omega (arith, inside))
marks_behind (m ∷ marks) pages rest page same are = λ k d inside in_pages.
    subst (λ (p : List (List RowData)). AreMarks (m ∷ marks) p) same are (suc k) d (omega (arith, inside)) (omega (arith, in_pages))

pub mark_first : (marks : List Mark) (pages rest : List (List RowData)) (page : List RowData) → pages ≡ page ∷ rest → AreMarks marks pages → IsFirstMark marks page
mark_first [] pages rest page same are = tt
mark_first (m ∷ marks) pages rest page same are = subst (λ (p : List (List RowData)). AreMarks (m ∷ marks) p) same are 0 m (omega arith) (omega arith)

-- ---- pages of which one is replaced

module _ (old others : List (List RowData)) (at : ℕ) (inside : at < length old) where
  front_stays : (k : ℕ) → k < at → page_at (replaced old at (at + 1) others) k ≡ page_at old k
  front_stays k before =
      get_or_append_left (take at old) (others ++ drop (at + 1) old) [] k (omega (arith, before, inside, length-take at old)) ∙ get_or-take at old k [] before

  many : length (replaced old at (at + 1) others) + 1 ≡ length old + length others
  many = omega (arith, inside, length-take at old, length-drop (at + 1) old, length-append (take at old) (others ++ drop (at + 1) old), length-append others (drop (at + 1) old))

  back_moves : (k : ℕ) → at + length others ≤ k → page_at (replaced old at (at + 1) others) k ≡ page_at old (k + 1 - length others)
  back_moves k past =
      get_or-append_right (take at old) (others ++ drop (at + 1) old) at k [] (omega (arith, inside, length-take at old)) (omega (arith, past))
      ∙ get_or-append_right others (drop (at + 1) old) (length others) (k - at) [] refl (omega (arith, past))
      ∙ get_or-drop (at + 1) old (k - at - length others) []
      ∙ ap (λ (n : ℕ). page_at old n) {x = at + 1 + (k - at - length others)} {y = k + 1 - length others} (omega (arith, past))

-- two by one
pub joined_fewer : (old new : List (List RowData)) (at : ℕ) (page : List RowData) → at + 1 < length old → new ≡ replaced old at (at + 2) (page ∷ []) → length new + 1 ≡ length old
joined_fewer old new at page inside is =
    omega (arith, inside, ap length is, length-take at old, length-drop (at + 2) old, length-append (take at old) ((page ∷ []) ++ drop (at + 2) old), length-append (page ∷ []) (drop (at + 2) old))

-- by one
pub marks_set : (marks : List Mark) (old new : List (List RowData)) (at : ℕ) (m : Mark) → AreMarks marks old → IsReplacedAt old at new → length new ≡ length old → at < length old → at < length marks → IsMark m (page_at new at) → AreMarks (set marks at m) new
marks_set marks old new at m are by same inside marked is = λ k d in_marks in_pages.
    let one : length by.0 ≡ 1 = omega (arith, many old by.0 at inside, ap length by.1, same) in
    let long = length-set marks at m in
    elim (cases_eq k at) [
      | inl here ↦ rw here (subst (λ (x : Mark). IsMark x (page_at new at)) (sym (get_or-set_same marks at m d marked)) is)
      | inr other ↦
          let stays : page_at new k ≡ page_at old k = elim (cases_lt k at) [
            | inl before ↦ ap (λ (p : List (List RowData)). page_at p k) by.1 ∙ front_stays old by.0 at inside k before
            | inr past ↦
                ap (λ (p : List (List RowData)). page_at p k) by.1 ∙ back_moves old by.0 at inside k (omega (arith, one, past, other))
                ∙ ap (λ (n : ℕ). page_at old n) {x = k + 1 - length by.0} {y = k} (omega (arith, one))
          ] in
          subst (λ (p : List RowData). IsMark (get_or (set marks at m) k d) p) (sym stays)
          (subst (λ (x : Mark). IsMark x (page_at old k)) (sym (get_or-set_other marks at k m d other)) (are k d (omega (arith, in_marks, long)) (omega (arith, in_pages, same))))
    ]

-- by two
module _ (marks : List Mark) (old new : List (List RowData)) (at : ℕ) (first second : Mark) (are : AreMarks marks old) (by : IsReplacedAt old at new) (more : length old + 1 ≡ length new) (inside : at < length old) (marked : at < length marks) (is : IsMark first (page_at new at)) where
  two : length by.0 ≡ 2
  two = omega (arith, many old by.0 at inside, ap length by.1, more)

  before_stays : (k : ℕ) → k < at → page_at new k ≡ page_at old k
  before_stays k before = ap (λ (p : List (List RowData)). page_at p k) by.1 ∙ front_stays old by.0 at inside k before

  -- up to the first of the two
  upto : (k : ℕ) (d : Mark) → k < at + 1 → IsMark (get_or (set marks at first) k d) (page_at new k)
  upto k d within = elim (cases_eq k at) [
    | inl here ↦ rw here (subst (λ (x : Mark). IsMark x (page_at new at)) (sym (get_or-set_same marks at first d marked)) is)
    | inr other ↦
        let before : k < at = omega (arith, within, other) in
        subst (λ (p : List RowData). IsMark (get_or (set marks at first) k d) p) (sym (before_stays k before))
        (subst (λ (x : Mark). IsMark x (page_at old k)) (sym (get_or-set_other marks at k first d other)) (are k d (omega (arith, before, marked)) (omega (arith, before, inside))))
  ]

  pub marks_cut : AreMarks (take (at + 1) (set marks at first)) new
  marks_cut = λ k d in_marks in_pages.
      let within : k < at + 1 = omega (arith, in_marks, length-take (at + 1) (set marks at first)) in
      subst (λ (x : Mark). IsMark x (page_at new k)) (sym (get_or-take (at + 1) (set marks at first) k d within)) (upto k d within)

  pub marks_divided : IsMark second (page_at new (at + 1)) → AreMarks (insert (set marks at first) (at + 1) second) new
  marks_divided is_second = λ k d in_marks in_pages.
      let long = length-set marks at first in
      let fits : at + 1 ≤ length (set marks at first) = omega (arith, marked, long) in
      let all = length-insert (set marks at first) (at + 1) second fits in
      elim (cases_lt k (at + 1)) [
        | inl before ↦ subst (λ (x : Mark). IsMark x (page_at new k)) (sym (get_or-insert_below (set marks at first) (at + 1) second d k before fits)) (upto k d before)
        | inr past ↦ elim (cases_eq k (at + 1)) [
          | inl here ↦ rw here (subst (λ (x : Mark). IsMark x (page_at new (at + 1))) (sym (get_or-insert_at (set marks at first) (at + 1) second d fits)) is_second)
          | inr other ↦
              let last : k ≡ k - 1 + 1 = omega (arith, past) in
              let read : get_or (insert (set marks at first) (at + 1) second) k d ≡ get_or marks (k - 1) d =
              ap (λ (n : ℕ). get_or (insert (set marks at first) (at + 1) second) n d) last
              ∙ get_or-insert_above (set marks at first) (at + 1) second d (k - 1) (omega (arith, past, other)) fits
              ∙ get_or-set_other marks at (k - 1) first d (omega (arith, past, other)) in
              let moved : page_at new k ≡ page_at old (k - 1) =
              ap (λ (p : List (List RowData)). page_at p k) by.1 ∙ back_moves old by.0 at inside k (omega (arith, two, past, other))
              ∙ ap (λ (n : ℕ). page_at old n) {x = k + 1 - length by.0} {y = k - 1} (omega (arith, two)) in
              subst (λ (p : List RowData). IsMark (get_or (insert (set marks at first) (at + 1) second) k d) p) (sym moved)
              (subst (λ (x : Mark). IsMark x (page_at old (k - 1))) (sym read) (are (k - 1) d (omega (arith, in_marks, all, long, past)) (omega (arith, in_pages, more, past))))
        ]
      ]
