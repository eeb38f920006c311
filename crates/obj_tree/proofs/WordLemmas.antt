-- Words beside rows, and rows that are passed over by them.
use Rattle.std.proofs.Common.{◌≡◌, ℕ, zero, suc, ◌+◌, ◌-◌, ◌/◌, ◌%◌, ◌<◌, ◌≤◌, Bool, true, false, List, [], ◌∷◌, ◌++◌, length, map, take, drop, get_or, set, min, refl, inl, inr, sym, ap, ◌∙◌, subst, arith, add-one, bit_or, lit<, length-append, length-take, length-drop}
use Rattle.std.specs.Prelude.{Result, is_ok, if◌then◌else◌}
use Rattle.std.specs.List.{insert, remove}
use Rattle.std.proofs.lemmas.Bool.{cases_Bool, cases_lt, cases_eq}
use Rattle.std.proofs.lemmas.List.{length-map, get_or-drop, drop-drop, get_or-set_same, get_or-set_other}
use Rattle.std.proofs.lemmas.Nat.{div-add-mod', mod_below}
use Rattle.kube_meta.specs.Rows.{RowData}
use Rattle.kube_meta.specs.Words.{has_bits, labels_word, fields_word, fits}
use Rattle.kube_meta.specs.declared.words.Mask.{Mask}
use Rattle.kube_meta.proofs.WordLemmas.{has_left, has_right, has_self, fits_by, labels_lack, fields_lack}
use Rattle.obj_tree.specs.Pages.{joined, IsWithin}
use Rattle.obj_tree.proofs.SpanLemmas.{map_take}
use Rattle.obj_tree.specs.Words.{from_fit, four_at, IsFirstWith, AreUnfit, Passes}

-- ---- edits of a list beside those of what it is made of

module _ {X Y : Type 0} (f : X → Y) where
  insert_beside : (xs : List X) (i : ℕ) (x : X) → i ≤ length xs → insert (map f xs) i (f x) ≡ map f (insert xs i x)
  insert_beside xs zero x within = refl
  insert_beside [] (suc i) x within = absurd (omega arith)
  insert_beside (y ∷ xs) (suc i) x within = ap (λ rest. f y ∷ rest) (insert_beside xs i x (omega arith))

  set_beside : (xs : List X) (i : ℕ) (x : X) → i < length xs → set (map f xs) i (f x) ≡ map f (set xs i x)
  set_beside [] i x inside = absurd (omega arith)
  set_beside (y ∷ xs) zero x inside = refl
  set_beside (y ∷ xs) (suc i) x inside = ap (λ rest. f y ∷ rest) (set_beside xs i x (omega arith))

  remove_beside : (xs : List X) (i : ℕ) → i < length xs → remove (map f xs) i ≡ map f (remove xs i)
  remove_beside [] i inside = absurd (omega arith)
  remove_beside (y ∷ xs) zero inside = refl
  remove_beside (y ∷ xs) (suc i) inside = ap (λ rest. f y ∷ rest) (remove_beside xs i (omega arith))

  -- a list that is made of another one, after the same edit of both
  pub put_beside : (xs new : List X) (old made : List Y) (i : ℕ) → old ≡ map f xs → (x : X) (y : Y) → y ≡ f x → i ≤ length xs → new ≡ insert xs i x → made ≡ insert old i y → made ≡ map f new
  put_beside xs new old made i is x y same within news mades =
      mades ∙ ap (λ (o : List Y). insert o i y) is ∙ ap (λ (v : Y). insert (map f xs) i v) same ∙ insert_beside xs i x within ∙ sym (ap (map f) news)

  pub replaced_beside : (xs new : List X) (old made : List Y) (i : ℕ) → old ≡ map f xs → (x : X) (y : Y) → y ≡ f x → i < length xs → new ≡ set xs i x → made ≡ set old i y → made ≡ map f new
  replaced_beside xs new old made i is x y same inside news mades =
      mades ∙ ap (λ (o : List Y). set o i y) is ∙ ap (λ (v : Y). set (map f xs) i v) same ∙ set_beside xs i x inside ∙ sym (ap (map f) news)

  pub removed_beside : (xs new : List X) (old made : List Y) (i : ℕ) → old ≡ map f xs → i < length xs → new ≡ remove xs i → made ≡ remove old i → made ≡ map f new
  removed_beside xs new old made i is inside news mades =
      mades ∙ ap (λ (o : List Y). remove o i) is ∙ remove_beside xs i inside ∙ sym (ap (map f) news)

  pub cut_beside : (xs new : List X) (old made : List Y) (i : ℕ) → old ≡ map f xs → new ≡ take i xs → made ≡ take i old → made ≡ map f new
  cut_beside xs new old made i is news mades = mades ∙ ap (take i) is ∙ sym (map_take f xs i) ∙ sym (ap (map f) news)

  more_beside : (xs : List X) (i : ℕ) (d : X) → i < length xs → map f (take (suc i) xs) ≡ map f (take i xs) ++ (f (get_or xs i d) ∷ [])
  more_beside [] i d inside = absurd (omega arith)
  more_beside (x ∷ xs) zero d inside = refl
  more_beside (x ∷ xs) (suc i) d inside = ap (λ rest. f x ∷ rest) (more_beside xs i d (omega arith))

  -- one more at the end of what is made so far
  pub pushed_beside : (xs : List X) (made new : List Y) (i : ℕ) (x : X) (y : Y) → made ≡ map f (take i xs) → i < length xs → x ≡ get_or xs i x → y ≡ f x → new ≡ made ++ (y ∷ []) → new ≡ map f (take (i + 1) xs)
  pushed_beside xs made new i x y is inside item same pushed =
      rw add-one (pushed ∙ ap (λ (m : List Y). m ++ (y ∷ [])) is ∙ ap (λ (v : Y). map f (take i xs) ++ (v ∷ [])) (same ∙ ap f item) ∙ sym (more_beside xs i x inside))

-- what was put in is taken out again
module _ {X : Type 0} where
  pub put_removed : (xs : List X) (i : ℕ) (x : X) → i ≤ length xs → remove (insert xs i x) i ≡ xs
  put_removed xs zero x within = refl
  put_removed [] (suc i) x within = absurd (omega arith)
  put_removed (y ∷ xs) (suc i) x within = ap (λ (rest : List X). y ∷ rest) (put_removed xs i x (omega arith))

-- where there is room
pub with_room : {A E X : Type 0} (r : Result A E) (new more less : X) → new ≡ (if is_ok r then more else less) → is_ok r ≡ true → new ≡ more
with_room r new more less is ok = is ∙ ap (λ (b : Bool). if b then more else less) ok

-- ---- fours of words

-- a word is added to its four, which has its bits then, and every four has what it had
module _ (fours : List ℕ) (at word : ℕ) (four_long : length fours ≡ 16) where
  inside_fours : four_at at < length fours
  inside_fours = omega (arith, four_long, mod_below (at / 4) 16 (lit< tt))

  pub added_has : has_bits (get_or (set fours (four_at at) (bit_or (get_or fours (four_at at) 0) word)) (four_at at) 0) word ≡ true
  added_has =
      let more = bit_or (get_or fours (four_at at) 0) word in
      subst (λ (w : ℕ). has_bits w word ≡ true) (sym (get_or-set_same fours (four_at at) more 0 inside_fours)) (has_right (get_or fours (four_at at) 0) word word (has_self word))

  pub added_keeps : (four mask : ℕ) → has_bits (get_or fours four 0) mask ≡ true → has_bits (get_or (set fours (four_at at) (bit_or (get_or fours (four_at at) 0) word)) four 0) mask ≡ true
  added_keeps four mask had = elim (cases_eq four (four_at at)) [
    | inl same ↦
        let more = bit_or (get_or fours (four_at at) 0) word in
        let old : has_bits (get_or fours (four_at at) 0) mask ≡ true = subst (λ (n : ℕ). has_bits (get_or fours n 0) mask ≡ true) same had in
        let new : has_bits (get_or (set fours (four_at at) more) (four_at at) 0) mask ≡ true =
        subst (λ (w : ℕ). has_bits w mask ≡ true) (sym (get_or-set_same fours (four_at at) more 0 inside_fours)) (has_left (get_or fours (four_at at) 0) word mask old) in
        subst (λ (n : ℕ). has_bits (get_or (set fours (four_at at) more) n 0) mask ≡ true) (sym same) new
    | inr other ↦
        subst (λ (w : ℕ). has_bits w mask ≡ true) (sym (get_or-set_other fours (four_at at) four (bit_or (get_or fours (four_at at) 0) word) 0 other)) had
  ]

-- up to the end of a four
pub same_four : (at k : ℕ) → at ≤ k → k < at + (4 - at % 4) → four_at k ≡ four_at at
same_four at k from lt = ap (λ (n : ℕ). n % 16) (quotient at k from lt)
  where
    quotient : (at k : ℕ) → at ≤ k → k < at + (4 - at % 4) → k / 4 ≡ at / 4
    quotient at k from lt = omega (arith, div-add-mod' at 4, div-add-mod' k 4, mod_below at 4 (lit< tt), mod_below k 4 (lit< tt))

-- ---- rows that are passed over

-- where the first row fits
fits_first : (mask : Mask) (rows : List RowData) → ((d : RowData) → 0 < length rows → fits mask (get_or rows 0 d).obj ≡ true) → from_fit mask rows ≡ rows
fits_first mask [] is = refl
fits_first mask (row ∷ rows) is =
    let here : fits mask row.obj ≡ true = is row (omega arith) in
    rw here refl

-- rows that don't fit
passed_over : (mask : Mask) (n : ℕ) (rows : List RowData) → n ≤ length rows → ((k : ℕ) (d : RowData) → k < n → fits mask (get_or rows k d).obj ≡ false) → from_fit mask (drop n rows) ≡ from_fit mask rows
passed_over mask zero rows within unfit = refl
passed_over mask (suc n) [] within unfit = absurd (omega arith)
passed_over mask (suc n) (row ∷ rows) within unfit =
    let here : fits mask row.obj ≡ false = unfit 0 row (omega arith) in
    rw here (passed_over mask n rows (omega arith) (λ k d lt. unfit (suc k) d (omega arith)))

pub fit_fewer : (mask : Mask) (rows : List RowData) → length (from_fit mask rows) ≤ length rows
fit_fewer mask [] = omega arith
fit_fewer mask (row ∷ rows) = elim (cases_Bool (fits mask row.obj)) [
  | inl does ↦ rw does (omega arith)
  | inr not ↦ rw not (omega (arith, fit_fewer mask rows))
]

-- ---- what is lent of a page and of what stands behind it

module _ {X : Type 0} where
  take_same : (n m : ℕ) (xs : List X) → n ≡ m → take n xs ≡ take m xs
  take_same n m xs e = ap (λ (k : ℕ). take k xs) e

  take_none : (n : ℕ) (xs : List X) → xs ≡ [] → take n xs ≡ []
  take_none zero xs none = refl
  take_none (suc n) [] none = refl
  take_none (suc n) (x ∷ xs) none = absurd (cc)

  drop_none : (n : ℕ) (xs : List X) → xs ≡ [] → drop n xs ≡ []
  drop_none zero xs none = none
  drop_none (suc n) [] none = refl
  drop_none (suc n) (x ∷ xs) none = absurd (cc)

  drop_front : (n : ℕ) (xs ys : List X) → n ≤ length xs → drop n (xs ++ ys) ≡ drop n xs ++ ys
  drop_front zero xs ys within = refl
  drop_front (suc n) [] ys within = absurd (omega arith)
  drop_front (suc n) (x ∷ xs) ys within = drop_front n xs ys (omega arith)

  drop_lent : (n left : ℕ) (xs : List X) → drop n (take left xs) ≡ take (left - n) (drop n xs)
  drop_lent zero left xs = take_same left (left - 0) xs (omega arith)
  drop_lent (suc n) zero xs = take_same 0 (0 - suc n) (drop (suc n) xs) (omega arith)
  drop_lent (suc n) (suc left) [] = sym (take_none (suc left - suc n) [] refl)
  drop_lent (suc n) (suc left) (x ∷ xs) = drop_lent n left xs ∙ take_same (left - n) (suc left - suc n) (drop n xs) (omega arith)

  lent_read : (left : ℕ) (xs back : List X) (k : ℕ) (d : X) → k < left → k < length xs → get_or (take left (xs ++ back)) k d ≡ get_or xs k d
  lent_read zero xs back k d few within = absurd (omega arith)
  lent_read (suc left) [] back k d few within = absurd (omega arith)
  lent_read (suc left) (x ∷ xs) back zero d few within = refl
  lent_read (suc left) (x ∷ xs) back (suc k) d few within = lent_read left xs back k d (omega arith) (omega arith)

passes : (mask : Mask) (over left unfit : ℕ) (rows back : List RowData) → AreUnfit mask rows unfit → over ≤ unfit → over ≤ left → 0 < over → Passes mask (take left (rows ++ back)) (take (left - over) (drop over (rows ++ back)))
passes mask over left unfit rows back are within few some =
    let all = rows ++ back in
    let many = length-append rows back in
    record {
      same =
          ap (from_fit mask) (sym (drop_lent over left all))
          ∙ passed_over mask over (take left all) (omega (arith, are.inside, within, few, many, length-take left all))
          (λ k d lt. ap (λ (r : RowData). fits mask r.obj) (lent_read left rows back k d (omega (arith, lt, few)) (omega (arith, lt, within, are.inside))) ∙ are.unfit k d (omega (arith, lt, within)));
      fewer = omega (arith, are.inside, within, few, some, many, length-take left all, length-take (left - over) (drop over all), length-drop over all);
    }

stays : (mask : Mask) (left unfit : ℕ) (rows back : List RowData) → AreUnfit mask rows unfit → 0 < length rows → min unfit left ≡ 0 → from_fit mask (take left (rows ++ back)) ≡ take left (rows ++ back)
stays mask zero unfit rows back are some none = refl
stays mask (suc left) unfit rows back are some none =
    let here : unfit ≡ 0 = omega (arith, none) in
    fits_first mask (take (suc left) (rows ++ back))
    (λ d more. ap (λ (r : RowData). fits mask r.obj) (lent_read (suc left) rows back 0 d (omega arith) some) ∙ are.first d here some)

lent_from : (pages nodes : List (List RowData)) (first : List RowData) (rest : List (List RowData)) (place : ℕ) → pages ≡ first ∷ rest → place ≤ length first → drop place (joined (pages ++ nodes)) ≡ drop place first ++ joined (rest ++ nodes)
lent_from pages nodes first rest place same within =
    ap (λ (p : List (List RowData)). drop place (joined (p ++ nodes))) same ∙ drop_front place first (joined (rest ++ nodes)) within

-- what a page tells of the rows that are lent from it on
module _ (pages nodes : List (List RowData)) (first : List RowData) (rest : List (List RowData)) (place left : ℕ) (same : pages ≡ first ∷ rest) (inside : place < length first) where
  pub page_stays : (mask : Mask) (unfit : ℕ) → AreUnfit mask (drop place first) unfit → min unfit left ≡ 0 → from_fit mask (take left (drop place (joined (pages ++ nodes)))) ≡ take left (drop place (joined (pages ++ nodes)))
  page_stays mask unfit are none =
      let some : 0 < length (drop place first) = omega (arith, inside, length-drop place first) in
      rw (lent_from pages nodes first rest place same (omega (arith, inside))) (stays mask left unfit (drop place first) (joined (rest ++ nodes)) are some none)

  pub page_passes : (mask : Mask) (unfit over : ℕ) (gone : List RowData) → AreUnfit mask (drop place first) unfit → over ≤ unfit → over ≤ left → 0 < over → gone ≡ take (left - over) (drop (place + over) (joined (pages ++ nodes))) → Passes mask (take left (drop place (joined (pages ++ nodes)))) gone
  page_passes mask unfit over gone are within few some is =
      let all = joined (pages ++ nodes) in
      let from = lent_from pages nodes first rest place same (omega (arith, inside)) in
      let left_is : gone ≡ take (left - over) (drop over (drop place first ++ joined (rest ++ nodes))) = is ∙ ap (take (left - over)) (sym (drop-drop over place all) ∙ ap (drop over) from) in
      rw (left_is, from) (passes mask over left unfit (drop place first) (joined (rest ++ nodes)) are within few some)

-- where no page is left, no row is
pub no_page : (mask : Mask) (left place : ℕ) (pages nodes : List (List RowData)) → length pages ≡ 0 → IsWithin place pages nodes → from_fit mask (take left (drop place (joined (pages ++ nodes)))) ≡ take left (drop place (joined (pages ++ nodes)))
no_page mask left place [] nodes none within =
    let no_rows : joined nodes ≡ [] = ap joined within.1 in
    let all : take left (drop place (joined nodes)) ≡ [] = take_none left (drop place (joined nodes)) (drop_none place (joined nodes) no_rows) in
    subst (λ (rows : List RowData). from_fit mask rows ≡ rows) (sym all) refl
no_page mask left place (page ∷ pages) nodes none within = absurd (omega arith)

-- ---- the words of a page's rows

-- the word of a row stands at its place
word_at : {X : Type 0} (row_in : X → RowData) (word : RowData → ℕ) (xs : List X) (k : ℕ) (d : RowData) → k < length xs → word (get_or (map row_in xs) k d) ≡ get_or (map (λ x. word (row_in x)) xs) k 0
word_at row_in word [] k d inside = absurd (omega arith)
word_at row_in word (x ∷ xs) zero d inside = refl
word_at row_in word (x ∷ xs) (suc k) d inside = word_at row_in word xs k d (omega arith)

-- so what is known of the word there is known of the row's
word_told : {X : Type 0} (row_in : X → RowData) (word : RowData → ℕ) (xs : List X) (words : List ℕ) (k : ℕ) (d : RowData) (mask : ℕ) (b : Bool) → words ≡ map (λ x. word (row_in x)) xs → k < length xs → has_bits (get_or words k 0) mask ≡ b → has_bits (word (get_or (map row_in xs) k d)) mask ≡ b
word_told row_in word xs words k d mask b are inside told =
    ap (λ (w : ℕ). has_bits w mask) (word_at row_in word xs k d inside ∙ sym (ap (λ (l : List ℕ). get_or l k 0) are)) ∙ told

-- what the words of a page tell of its rows
pub columns_tell : {X : Type 0} (row_in : X → RowData) (xs : List X) (from : ℕ) (mask : Mask) (of_fields of_labels : List ℕ) (middle at : ℕ)
    → of_fields ≡ map (λ x. fields_word (row_in x).obj.fields) xs → of_labels ≡ map (λ x. labels_word (row_in x).obj.labels) xs
    → IsFirstWith mask.fields of_fields from middle → IsFirstWith mask.labels of_labels middle at → AreUnfit mask (drop from (map row_in xs)) (at - from)
columns_tell row_in xs from mask of_fields of_labels middle at fields_are labels_are by_fields by_labels =
    let rows = map row_in xs in
    let many_rows : length rows ≡ length xs = length-map xs row_in in
    let many_fields : length of_fields ≡ length xs = ap length fields_are ∙ length-map xs (λ x. fields_word (row_in x).obj.fields) in
    let many_labels : length of_labels ≡ length xs = ap length labels_are ∙ length-map xs (λ x. labels_word (row_in x).obj.labels) in
    let behind : length (drop from rows) ≡ length rows - from = length-drop from rows in
    record {
      inside = omega (arith, behind, many_rows, many_labels, by_labels.inside, by_labels.behind, by_fields.behind);
      unfit = λ k d lt.
          let i_inside : from + k < length xs = omega (arith, lt, many_labels, by_labels.inside) in
          let out : fits mask (get_or rows (from + k) d).obj ≡ false = elim (cases_lt (from + k) middle) [
            | inl before ↦
                fields_lack mask (get_or rows (from + k) d).obj
                (word_told row_in (λ r. fields_word r.obj.fields) xs of_fields (from + k) d mask.fields false fields_are i_inside (by_fields.lack (from + k) (omega arith) before))
            | inr past ↦
                labels_lack mask (get_or rows (from + k) d).obj
                (word_told row_in (λ r. labels_word r.obj.labels) xs of_labels (from + k) d mask.labels false labels_are i_inside (by_labels.lack (from + k) past (omega (arith, lt))))
          ] in
          ap (λ (r : RowData). fits mask r.obj) (get_or-drop from rows k d) ∙ out;
      first = λ d none some.
          let here : middle ≡ from + 0 = omega (arith, none, by_labels.behind, by_fields.behind) in
          let there : at ≡ from + 0 = omega (arith, none, by_labels.behind, by_fields.behind) in
          let i_inside : from + 0 < length xs = omega (arith, some, behind, many_rows) in
          let fields_have = subst (λ (n : ℕ). has_bits (get_or of_fields n 0) mask.fields ≡ true) here (by_fields.has (omega (arith, here, i_inside, many_fields))) in
          let labels_have = subst (λ (n : ℕ). has_bits (get_or of_labels n 0) mask.labels ≡ true) there (by_labels.has (omega (arith, there, i_inside, many_labels))) in
          ap (λ (r : RowData). fits mask r.obj) (get_or-drop from rows 0 d)
          ∙ fits_by mask (get_or rows (from + 0) d).obj
          (word_told row_in (λ r. labels_word r.obj.labels) xs of_labels (from + 0) d mask.labels true labels_are i_inside labels_have)
          (word_told row_in (λ r. fields_word r.obj.fields) xs of_fields (from + 0) d mask.fields true fields_are i_inside fields_have);
    }
