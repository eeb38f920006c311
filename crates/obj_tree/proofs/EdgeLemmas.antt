-- The rows before an edge, and the rows of a namespace between two of them.
use Rattle.std.proofs.Common.{◌≡◌, ℕ, zero, suc, ◌+◌, ◌-◌, ◌/◌, ◌<◌, ◌≤◌, Bool, true, false, List, [], ◌∷◌, ◌++◌, length, take, drop, get_or, Option, Some, None, refl, sym, ap, ◌∙◌, subst, arith, inl, inr, Less, Equal, Greater, Ordering, bytes_eq}
use Rattle.std.specs.Prelude.{not, ◌&&◌, filter, nat_lt, nat_eq, slice_get}
use Rattle.std.specs.List.{list_all}
use Rattle.std.specs.Cmp.Lexicographic.{slice_cmp}
use Rattle.std.specs.Cmp.{nat_cmp_is}
use Rattle.std.specs.Ordering.{nat_cmp, is_lt, ordering_then}
use Rattle.std.proofs.Math.Seq.{drop-cons}
use Rattle.std.proofs.lemmas.Bool.{cases_Bool, and_parts, true≢false}
use Rattle.std.proofs.lemmas.Bool.Decides.{nat_tests}
use Rattle.std.proofs.lemmas.List.{take-append-drop}
use Rattle.std.proofs.lemmas.Slice.Eq.{bytes_eq-Decides}
use Rattle.std.proofs.lemmas.Cmp.{ranked}
use Rattle.kube_meta.specs.Keys.{joined as key_text, is_in}
use Rattle.kube_meta.specs.Rows.{RowData, key_of, is_behind, behind, within}
use Rattle.obj_tree.specs.Edges.{is_from, is_after, begins_below, rows_before, AreBefore, IsSpot}
use Rattle.obj_tree.specs.Maps.{is_below, above}
use Rattle.obj_tree.specs.Pages.{joined, AreParts, page_at}
use Rattle.obj_tree.specs.declared.edges.Spot.{Spot}
use Rattle.obj_tree.proofs.MapLemmas.{lt_trans, Stand, lower, same, higher, stand, all_weaker, all_append, all_parts, Rising, rising, rising_parts, before_row}
use Rattle.obj_tree.proofs.PageLemmas.{joined_at, some_at}
use Rattle.obj_tree.proofs.SpanLemmas.{front_is, back_is, spot_inside}

-- ---- rows at an edge

-- what stands behind a row that isn't before a text isn't either
not_later : (text a b : List ℕ) → is_lt (slice_cmp nat_cmp a text) ≡ false → is_lt (slice_cmp nat_cmp a b) ≡ true → not (is_lt (slice_cmp nat_cmp b text)) ≡ true
not_later text a b from less = elim (cases_Bool (is_lt (slice_cmp nat_cmp b text))) [
  | inl pass ↦ absurd (true≢false (sym (lt_trans a b text less pass) ∙ from))
  | inr fail ↦ rw fail refl
]

-- where one row isn't before a text, no later one is
pub from_on : (rows : List RowData) (i : ℕ) (d : RowData) (text : List ℕ) → i < length rows → Rising rows → is_below text (get_or rows i d) ≡ false → list_all (is_from text) (drop i rows) ≡ true
from_on [] i d text inside is from = absurd (omega arith)
from_on (x ∷ rows) zero d text inside is from =
    let here : is_from text x ≡ true = rw from refl in
    rw here (all_weaker (is_behind (key_of x)) (is_from text) (λ y passes. not_later text (key_of x) (key_of y) from passes) rows is.0)
from_on (x ∷ rows) (suc i) d text inside is from = from_on rows i d text (omega arith) is.1 from

from_all : (text : List ℕ) (page back : List RowData) → begins_below text page ≡ false → Rising (page ++ back) → list_all (is_from text) (page ++ back) ≡ true
from_all text [] back from is = absurd (cc)
from_all text (row ∷ rows) back from is = from_on (row ∷ (rows ++ back)) 0 row text (omega arith) is from

below_all : (text : List ℕ) (front page back : List RowData) → 0 < length page → Rising (front ++ (page ++ back)) → begins_below text page ≡ true → list_all (is_below text) front ≡ true
below_all text front [] back some is begins = absurd (omega arith)
below_all text front (row ∷ rows) back some is begins =
    all_weaker (is_below (key_of row)) (is_below text) (λ x passes. lt_trans (key_of x) (key_of row) text passes begins) front (before_row front (rows ++ back) row is)

-- what stands before a page that begins before a text stands before it too
pub below_pages : (pages : List (List RowData)) (text : List ℕ) (at : ℕ) → at < length pages → AreParts pages → begins_below text (page_at pages at) ≡ true → list_all (is_below text) (joined (take at pages)) ≡ true
below_pages pages text at inside paged begun =
    let split = subst (λ (r : List RowData). Rising r) (joined_at pages at inside) (rising (joined pages) paged.rising) in
    below_all text (joined (take at pages)) (page_at pages at) (joined (drop (suc at) pages)) (some_at pages at paged.some inside) split begun

-- and of a page that doesn't begin before it, and those after it, no row does
pub from_pages : (pages : List (List RowData)) (text : List ℕ) (at : ℕ) → at < length pages → AreParts pages → begins_below text (page_at pages at) ≡ false → list_all (is_from text) (joined (drop at pages)) ≡ true
from_pages pages text at inside paged from =
    let split = subst (λ (r : List RowData). Rising r) (joined_at pages at inside) (rising (joined pages) paged.rising) in
    let later = (rising_parts (joined (take at pages)) (page_at pages at ++ joined (drop (suc at) pages)) split).1 in
    let all = from_all text (page_at pages at) (joined (drop (suc at) pages)) from later in
    subst (λ (p : List (List RowData)). list_all (is_from text) (joined p) ≡ true) (sym (drop-cons pages at [] inside)) all

-- ---- the rows between two edges

not_true : (b : Bool) → not b ≡ true → b ≡ false
not_true true e = cc
not_true false e = refl

module _ {X : Type 0} where
  -- those that are in no front part of one test and in the front part of another
  pub between : (p q : X → Bool) (xs : List X) (i j n : ℕ)
      → list_all p (take i xs) ≡ true → list_all (λ x. not (p x)) (drop i xs) ≡ true
      → list_all q (take j xs) ≡ true → list_all (λ x. not (q x)) (drop j xs) ≡ true
      → n ≡ j - i → filter (λ x. not (p x) && q x) xs ≡ take n (drop i xs)
  between p q [] zero j zero pt pd qt qd e = refl
  between p q [] zero j (suc n) pt pd qt qd e = refl
  between p q [] (suc i) j zero pt pd qt qd e = refl
  between p q [] (suc i) j (suc n) pt pd qt qd e = refl
  between p q (x ∷ xs) zero zero (suc n) pt pd qt qd e = absurd (omega arith)
  between p q (x ∷ xs) zero zero zero pt pd qt qd e =
      let these = and_parts (not (p x)) (list_all (λ x. not (p x)) xs) pd in
      let those = and_parts (not (q x)) (list_all (λ x. not (q x)) xs) qd in
      let out : (not (p x) && q x) ≡ false = rw (these.0, not_true (q x) those.0) refl in
      rw out (between p q xs zero zero zero refl these.1 refl those.1 e)
  between p q (x ∷ xs) zero (suc j) zero pt pd qt qd e = absurd (omega arith)
  between p q (x ∷ xs) zero (suc j) (suc n) pt pd qt qd e =
      let these = and_parts (not (p x)) (list_all (λ x. not (p x)) xs) pd in
      let those = and_parts (q x) (list_all q (take j xs)) qt in
      let in_it : (not (p x) && q x) ≡ true = rw (these.0, those.0) refl in
      rw in_it (ap (λ (r : List X). x ∷ r) (between p q xs zero j n refl these.1 those.1 qd (omega arith)))
  between p q (x ∷ xs) (suc i) zero n pt pd qt qd e =
      let these = and_parts (p x) (list_all p (take i xs)) pt in
      let those = and_parts (not (q x)) (list_all (λ x. not (q x)) xs) qd in
      let out : (not (p x) && q x) ≡ false = rw these.0 refl in
      rw out (between p q xs i zero n these.1 pd refl those.1 (omega arith))
  between p q (x ∷ xs) (suc i) (suc j) n pt pd qt qd e =
      let these = and_parts (p x) (list_all p (take i xs)) pt in
      let those = and_parts (q x) (list_all q (take j xs)) qt in
      let out : (not (p x) && q x) ≡ false = rw these.0 refl in
      rw out (between p q xs i j n these.1 pd those.1 qd (omega arith))

  filter_twice : (p q r : X → Bool) → ((x : X) → (p x && q x) ≡ r x) → (xs : List X) → filter p (filter q xs) ≡ filter r xs
  filter_twice p q r both [] = refl
  filter_twice p q r both (x ∷ xs) = elim (cases_Bool (q x)) [
    | inl kept ↦ elim (cases_Bool (p x)) [
      | inl pass ↦
          let is : r x ≡ true = sym (both x) ∙ rw (pass, kept) refl in
          rw (kept, is) (rw pass (ap (λ (rest : List X). x ∷ rest) (filter_twice p q r both xs)))
      | inr fail ↦
          let is : r x ≡ false = sym (both x) ∙ rw fail refl in
          rw (kept, is) (rw fail (filter_twice p q r both xs))
    ]
    | inr gone ↦
        let is : r x ≡ false = sym (both x) ∙ none_of (p x) (q x) gone in
        rw (gone, is) (filter_twice p q r both xs)
  ]
    where
      none_of : (a b : Bool) → b ≡ false → (a && b) ≡ false
      none_of true b e = e
      none_of false b e = refl

  filter_true : (xs : List X) → filter (λ x. true) xs ≡ xs
  filter_true [] = refl
  filter_true (x ∷ xs) = ap (λ (r : List X). x ∷ r) (filter_true xs)

  -- those that aren't in a front part
  pub front_gone : (p : X → Bool) (xs : List X) (i : ℕ) → list_all p (take i xs) ≡ true → list_all (λ x. not (p x)) (drop i xs) ≡ true → filter (λ x. not (p x)) xs ≡ drop i xs
  front_gone p [] zero pt pd = refl
  front_gone p [] (suc i) pt pd = refl
  front_gone p (x ∷ xs) zero pt pd =
      let these = and_parts (not (p x)) (list_all (λ x. not (p x)) xs) pd in
      rw these.0 (ap (λ (r : List X). x ∷ r) (front_gone p xs zero refl these.1))
  front_gone p (x ∷ xs) (suc i) pt pd =
      let these = and_parts (p x) (list_all p (take i xs)) pt in
      rw these.0 (front_gone p xs i these.1 pd)

  filter_same : (p q : X → Bool) → ((x : X) → p x ≡ q x) → (xs : List X) → filter p xs ≡ filter q xs
  filter_same p q alike [] = refl
  filter_same p q alike (x ∷ xs) = elim (cases_Bool (q x)) [
    | inl pass ↦ let is : p x ≡ true = alike x ∙ pass in rw (is, pass) (ap (λ (r : List X). x ∷ r) (filter_same p q alike xs))
    | inr fail ↦ let is : p x ≡ false = alike x ∙ fail in rw (is, fail) (filter_same p q alike xs)
  ]

-- the rows behind a key
pub above_is : (text key : List ℕ) (rows : List RowData) (i : ℕ) → ((row : RowData) → is_from text row ≡ is_behind key row) → AreBefore text rows i → drop i rows ≡ above key rows
above_is text key rows i alike these =
    sym (front_gone (is_below text) rows i these.before these.after) ∙ filter_same (is_from text) (is_behind key) alike rows

-- the rows behind a key, where one is given
behind_is : (after : Option (List ℕ)) (rows : List RowData) → behind after rows ≡ filter (is_after after) rows
behind_is None rows = sym (filter_true rows)
behind_is (Some key) rows = refl

-- ---- the keys of a namespace

-- no text is below the empty one
never_below : (text : List ℕ) → is_lt (slice_cmp nat_cmp text []) ≡ false
never_below [] = refl
never_below (b ∷ text) = refl

-- a byte that is another, or isn't
tied : (b n : ℕ) → nat_cmp b n ≡ Equal → nat_eq b n ≡ true
tied b n tie = let same : b ≡ n = ranked b n Equal (sym tie) in grind (arith, nat_tests)

untied : (b n : ℕ) → (nat_cmp b n ≡ Equal → ⊥) → nat_eq b n ≡ false
untied b n other = elim (cases_Bool (nat_eq b n)) [
  | inl pass ↦
      let equal : b ≡ n = grind (arith, nat_tests) in
      absurd (other (sym (nat_cmp_is b n Equal equal)))
  | inr fail ↦ fail
]

-- the first byte that differs decides
at_byte : (o x y : Ordering) (t rest : Bool) → (o ≡ Equal → t ≡ true) → ((o ≡ Equal → ⊥) → t ≡ false) → rest ≡ (not (is_lt x) && is_lt y) → (t && rest) ≡ (not (is_lt (ordering_then o x)) && is_lt (ordering_then o y))
at_byte Less x y t rest tie others rest_is = rw (others (λ e. cc)) refl
at_byte Equal x y t rest tie others rest_is = rw (tie refl) rest_is
at_byte Greater x y t rest tie others rest_is = rw (others (λ e. cc)) refl

-- and so does the byte behind the namespace: of those that aren't below a slash only it is below the next
at_slash : (b : ℕ) (text : List ℕ) → (nat_eq b 47 && true) ≡ (not (is_lt (slice_cmp nat_cmp (b ∷ text) (47 ∷ []))) && is_lt (slice_cmp nat_cmp (b ∷ text) (48 ∷ [])))
at_slash b text = by (nat_cmp b 47) (nat_cmp b 48) refl refl
  where
    rest : Ordering
    rest = slice_cmp nat_cmp text []

    told : (o u : Ordering) → nat_cmp b 47 ≡ o → nat_cmp b 48 ≡ u → (nat_eq b 47 && true) ≡ (not (is_lt (ordering_then o rest)) && is_lt (ordering_then u rest)) → (nat_eq b 47 && true) ≡ (not (is_lt (slice_cmp nat_cmp (b ∷ text) (47 ∷ []))) && is_lt (slice_cmp nat_cmp (b ∷ text) (48 ∷ [])))
    told o u e f is = is ∙ sym (ap (λ (x : Ordering). not (is_lt (ordering_then x rest)) && is_lt (slice_cmp nat_cmp (b ∷ text) (48 ∷ []))) e ∙ ap (λ (x : Ordering). not (is_lt (ordering_then o rest)) && is_lt (ordering_then x rest)) f)

    by : (o u : Ordering) → nat_cmp b 47 ≡ o → nat_cmp b 48 ≡ u → (nat_eq b 47 && true) ≡ (not (is_lt (slice_cmp nat_cmp (b ∷ text) (47 ∷ []))) && is_lt (slice_cmp nat_cmp (b ∷ text) (48 ∷ [])))
    by Less u e f = told Less u e f (rw (untied b 47 (λ g. let no : Less ≡ Equal = sym e ∙ g in cc)) refl)
    by Equal Less e f = told Equal Less e f (rw (tied b 47 e, never_below text) refl)
    by Equal Equal e f =
        let one : b ≡ 47 = ranked b 47 Equal (sym e) in
        let two : b ≡ 48 = ranked b 48 Equal (sym f) in
        absurd (omega arith)
    by Equal Greater e f =
        let one : b ≡ 47 = ranked b 47 Equal (sym e) in
        let two : 48 < b = ranked b 48 Greater (sym f) in
        absurd (omega arith)
    by Greater Less e f =
        let one : 47 < b = ranked b 47 Greater (sym e) in
        let two : b < 48 = ranked b 48 Less (sym f) in
        absurd (omega arith)
    by Greater Equal e f = told Greater Equal e f (rw (untied b 47 (λ g. let no : Greater ≡ Equal = sym e ∙ g in cc), never_below text) refl)
    by Greater Greater e f = told Greater Greater e f (rw (untied b 47 (λ g. let no : Greater ≡ Equal = sym e ∙ g in cc)) refl)

-- ---- texts at an edge

after_prefix : (text rest more : List ℕ) → slice_cmp nat_cmp (text ++ rest) (text ++ more) ≡ slice_cmp nat_cmp rest more
after_prefix [] rest more = refl
after_prefix (b ∷ text) rest more =
    ap (λ (o : Ordering). ordering_then o (slice_cmp nat_cmp (text ++ rest) (text ++ more))) (sym (nat_cmp_is b b Equal refl)) ∙ after_prefix text rest more

no_prefix : (key text more : List ℕ) → bytes_eq (take (length text) key) text ≡ false → slice_cmp nat_cmp key text ≡ slice_cmp nat_cmp key (text ++ more)
no_prefix key [] more other = absurd (cc)
no_prefix [] (b ∷ text) more other = refl
no_prefix (k ∷ key) (b ∷ text) more other = by (nat_cmp k b) refl (no_prefix key text more)
  where
    by : (o : Ordering) → nat_cmp k b ≡ o → (bytes_eq (take (length text) key) text ≡ false → slice_cmp nat_cmp key text ≡ slice_cmp nat_cmp key (text ++ more)) → slice_cmp nat_cmp (k ∷ key) (b ∷ text) ≡ slice_cmp nat_cmp (k ∷ key) (b ∷ (text ++ more))
    by Less e rest = ap (λ (o : Ordering). ordering_then o (slice_cmp nat_cmp key text)) e ∙ sym (ap (λ (o : Ordering). ordering_then o (slice_cmp nat_cmp key (text ++ more))) e)
    by Equal e rest =
        let differs : bytes_eq (take (length text) key) text ≡ false = sym (ap (λ (t : Bool). t && bytes_eq (take (length text) key) text) (tied k b e)) ∙ other in
        ap (λ (o : Ordering). ordering_then o (slice_cmp nat_cmp key text)) e ∙ rest differs ∙ sym (ap (λ (o : Ordering). ordering_then o (slice_cmp nat_cmp key (text ++ more))) e)
    by Greater e rest = ap (λ (o : Ordering). ordering_then o (slice_cmp nat_cmp key text)) e ∙ sym (ap (λ (o : Ordering). ordering_then o (slice_cmp nat_cmp key (text ++ more))) e)

first_byte : (rest : List ℕ) (byte next : ℕ) → Some byte ≡ slice_get rest 0 → nat_lt byte next ≡ is_lt (slice_cmp nat_cmp rest (next ∷ []))
first_byte [] byte next is = absurd (cc)
first_byte (b ∷ rest) byte next is = by (nat_cmp b next) refl
  where
    equal : byte ≡ b
    equal = cc

    by : (o : Ordering) → nat_cmp b next ≡ o → nat_lt byte next ≡ is_lt (slice_cmp nat_cmp (b ∷ rest) (next ∷ []))
    by Less e =
        let less : b < next = ranked b next Less (sym e) in
        let passes : nat_lt byte next ≡ true = grind (arith, nat_tests, equal) in
        passes ∙ sym (ap (λ (o : Ordering). is_lt (ordering_then o (slice_cmp nat_cmp rest []))) e)
    by Equal e =
        let level : b ≡ next = ranked b next Equal (sym e) in
        let fails : nat_lt byte next ≡ false = grind (arith, nat_tests, equal) in
        fails ∙ sym (ap (λ (o : Ordering). is_lt (ordering_then o (slice_cmp nat_cmp rest []))) e ∙ never_below rest)
    by Greater e =
        let more : next < b = ranked b next Greater (sym e) in
        let fails : nat_lt byte next ≡ false = grind (arith, nat_tests, equal) in
        fails ∙ sym (ap (λ (o : Ordering). is_lt (ordering_then o (slice_cmp nat_cmp rest []))) e)

no_byte : (rest : List ℕ) (next : ℕ) → None ≡ slice_get rest 0 → true ≡ is_lt (slice_cmp nat_cmp rest (next ∷ []))
no_byte [] next is = refl
no_byte (b ∷ rest) next is = absurd (cc)

begun : (key text rest : List ℕ) → bytes_eq (take (length text) key) text ≡ true → rest ≡ drop (length text) key → key ≡ text ++ rest
begun key text rest passes is =
    sym (take-append-drop (length text) key)
    ∙ ap (λ (t : List ℕ). t ++ drop (length text) key) ((bytes_eq-Decides (take (length text) key) text).0 passes)
    ∙ ap (λ (r : List ℕ). text ++ r) (sym is)

-- a key that begins with the edge's text: its next byte tells
pub told_by_byte : (key text rest : List ℕ) (byte next : ℕ) → bytes_eq (take (length text) key) text ≡ true → rest ≡ drop (length text) key → Some byte ≡ slice_get rest 0 → nat_lt byte next ≡ is_lt (slice_cmp nat_cmp key (text ++ next ∷ []))
told_by_byte key text rest byte next passes is first =
    first_byte rest byte next first
    ∙ sym (ap is_lt (after_prefix text rest (next ∷ [])))
    ∙ sym (ap (λ (k : List ℕ). is_lt (slice_cmp nat_cmp k (text ++ next ∷ []))) (begun key text rest passes is))

-- or that it has none
pub told_by_end : (key text rest : List ℕ) (next : ℕ) → bytes_eq (take (length text) key) text ≡ true → rest ≡ drop (length text) key → None ≡ slice_get rest 0 → true ≡ is_lt (slice_cmp nat_cmp key (text ++ next ∷ []))
told_by_end key text rest next passes is none =
    no_byte rest next none
    ∙ sym (ap is_lt (after_prefix text rest (next ∷ [])))
    ∙ sym (ap (λ (k : List ℕ). is_lt (slice_cmp nat_cmp k (text ++ next ∷ []))) (begun key text rest passes is))

-- and of another key the text alone
pub told_by_text : (key text : List ℕ) (next : ℕ) → bytes_eq (take (length text) key) text ≡ false → is_lt (slice_cmp nat_cmp key text) ≡ is_lt (slice_cmp nat_cmp key (text ++ next ∷ []))
told_by_text key text next other = ap is_lt (no_prefix key text (next ∷ []) other)

-- behind a key stands what isn't before it with a zero behind
pub next_text : (key a : List ℕ) → not (is_lt (slice_cmp nat_cmp a (key ++ 0 ∷ []))) ≡ is_lt (slice_cmp nat_cmp key a)
next_text [] [] = refl
next_text [] (x ∷ a) = by (nat_cmp x 0) refl
  where
    by : (o : Ordering) → nat_cmp x 0 ≡ o → not (is_lt (slice_cmp nat_cmp (x ∷ a) (0 ∷ []))) ≡ true
    by Less e = let under : x < 0 = ranked x 0 Less (sym e) in absurd (omega arith)
    by Equal e = ap (λ (o : Ordering). not (is_lt (ordering_then o (slice_cmp nat_cmp a [])))) e ∙ ap not (never_below a)
    by Greater e = ap (λ (o : Ordering). not (is_lt (ordering_then o (slice_cmp nat_cmp a [])))) e
next_text (k ∷ key) [] = refl
next_text (k ∷ key) (x ∷ a) = by (nat_cmp x k) refl (next_text key a)
  where
    other : (o u : Ordering) → nat_cmp x k ≡ o → nat_cmp k x ≡ u → not (is_lt (ordering_then o (slice_cmp nat_cmp a (key ++ 0 ∷ [])))) ≡ is_lt (ordering_then u (slice_cmp nat_cmp key a)) → not (is_lt (slice_cmp nat_cmp (x ∷ a) ((k ∷ key) ++ 0 ∷ []))) ≡ is_lt (slice_cmp nat_cmp (k ∷ key) (x ∷ a))
    other o u e f is =
        ap (λ (y : Ordering). not (is_lt (ordering_then y (slice_cmp nat_cmp a (key ++ 0 ∷ []))))) e
        ∙ is
        ∙ sym (ap (λ (y : Ordering). is_lt (ordering_then y (slice_cmp nat_cmp key a))) f)

    by : (o : Ordering) → nat_cmp x k ≡ o → not (is_lt (slice_cmp nat_cmp a (key ++ 0 ∷ []))) ≡ is_lt (slice_cmp nat_cmp key a) → not (is_lt (slice_cmp nat_cmp (x ∷ a) ((k ∷ key) ++ 0 ∷ []))) ≡ is_lt (slice_cmp nat_cmp (k ∷ key) (x ∷ a))
    by Less e rest = other Less Greater e (sym (nat_cmp_is k x Greater (ranked x k Less (sym e)))) refl
    by Equal e rest = other Equal Equal e (sym (nat_cmp_is k x Equal (sym (ranked x k Equal (sym e))))) rest
    by Greater e rest = other Greater Less e (sym (nat_cmp_is k x Less (ranked x k Greater (sym e)))) refl

-- a key that isn't before the namespace's edge
pub from_key : (key edge : List ℕ) (row : RowData) → is_lt (slice_cmp nat_cmp key edge) ≡ false → is_from (key ++ 0 ∷ []) row ≡ (is_from edge row && is_behind key row)
from_key key edge row from = next_text key (key_of row) ∙ elim (cases_Bool (is_behind key row)) [
  | inl pass ↦ let here : is_from edge row ≡ true = not_later edge key (key_of row) from pass in rw (pass, here) refl
  | inr fail ↦ rw fail (sym (none_of (is_from edge row)))
]
  where
    none_of : (a : Bool) → (a && false) ≡ false
    none_of true = refl
    none_of false = refl

-- and one that is: all that isn't before the edge is behind it
pub from_edge : (key edge : List ℕ) (row : RowData) → is_lt (slice_cmp nat_cmp key edge) ≡ true → is_from edge row ≡ (is_from edge row && is_behind key row)
from_edge key edge row less = by (stand edge (key_of row))
  where
    all_of : (a b : Bool) → b ≡ true → a ≡ (a && b)
    all_of true b e = sym e
    all_of false b e = refl

    by : Stand edge (key_of row) → is_from edge row ≡ (is_from edge row && is_behind key row)
    by (lower more) = all_of (is_from edge row) (is_behind key row) (lt_trans key edge (key_of row) less more)
    by (same e) = all_of (is_from edge row) (is_behind key row) (ap (λ (k : List ℕ). is_lt (slice_cmp nat_cmp key k)) (sym e) ∙ less)
    by (higher more) = rw more refl

-- they stand between two edges
pub in_namespace : (ns key : List ℕ) → is_in ns key ≡ (not (is_lt (slice_cmp nat_cmp key (ns ++ 47 ∷ []))) && is_lt (slice_cmp nat_cmp key (ns ++ 48 ∷ [])))
in_namespace [] [] = refl
in_namespace [] (b ∷ key) = at_slash b key
in_namespace (n ∷ ns) [] = refl
in_namespace (n ∷ ns) (b ∷ key) =
    at_byte (nat_cmp b n) (slice_cmp nat_cmp key (ns ++ 47 ∷ [])) (slice_cmp nat_cmp key (ns ++ 48 ∷ [])) (nat_eq b n) (is_in ns key) (tied b n) (untied b n) (in_namespace ns key)

-- the rows of a namespace behind a key are those between two places
pub within_is : (ns first : List ℕ) (after : Option (List ℕ)) (rows : List RowData) (i j : ℕ)
    → ((row : RowData) → is_from first row ≡ (is_from (key_text ns []) row && is_after after row))
    → AreBefore first rows i → AreBefore (ns ++ 48 ∷ []) rows j
    → within ns (behind after rows) ≡ take (j - i) (drop i rows)
within_is ns first after rows i j is these those =
    let test : RowData → Bool = λ row. is_in ns (key_of row) in
    let both : (row : RowData) → (test row && is_after after row) ≡ (is_from first row && is_below (ns ++ 48 ∷ []) row) = λ row.
    turn (is_from (key_text ns []) row) (is_below (ns ++ 48 ∷ []) row) (is_after after row) (test row) (is_from first row) (in_namespace ns (key_of row)) (is row) in
    ap (filter test) (behind_is after rows)
    ∙ filter_twice test (is_after after) (λ row. is_from first row && is_below (ns ++ 48 ∷ []) row) both rows
    ∙ between (is_below first) (is_below (ns ++ 48 ∷ [])) rows i j (j - i) these.before these.after those.before those.after refl
  where
    turn : (a b c t f : Bool) → t ≡ (a && b) → f ≡ (a && c) → (t && c) ≡ (f && b)
    turn true true true t f one two = rw (one, two) refl
    turn true true false t f one two = rw (one, two) refl
    turn true false true t f one two = rw (one, two) refl
    turn true false false t f one two = rw (one, two) refl
    turn false b c t f one two = rw (one, two) refl

-- ---- where an edge stands

-- half way between two places
pub halfway : (low high : ℕ) → low < high → low + (high - low) / 2 < high
halfway low high less = omega arith

-- the pages from a place on, or those behind the first where that is it
pub from_rest : (text : List ℕ) (pages : List (List RowData)) (low : ℕ) → list_all (is_from text) (joined (drop low pages)) ≡ true → list_all (is_from text) (joined (drop (suc (low - 1)) pages)) ≡ true
from_rest text [] zero all = refl
from_rest text (page ∷ pages) zero all = (all_parts (is_from text) page (joined pages) all).1
from_rest text pages (suc low) all =
    let same : suc low ≡ suc (suc low - 1) = omega arith in
    subst (λ (n : ℕ). list_all (is_from text) (joined (drop n pages)) ≡ true) same all

pub page_end : (pages : List (List RowData)) (n : ℕ) → length pages ≤ n → page_at pages n ≡ []
page_end [] n past = refl
page_end (page ∷ pages) zero past = absurd (omega arith)
page_end (page ∷ pages) (suc n) past = page_end pages n (omega arith)

pub none_before : (text : List ℕ) (page : List RowData) → page ≡ [] → AreBefore text page 0
none_before text page none = rw none (record { inside = omega arith; before = refl; after = refl })

-- what is before an edge in one page, and in all
pub at_spot : (text : List ℕ) (pages : List (List RowData)) (spot : Spot) → IsSpot pages spot → list_all (is_below text) (joined (take spot.part pages)) ≡ true → AreBefore text (page_at pages spot.part) spot.row → list_all (is_from text) (joined (drop (suc spot.part) pages)) ≡ true → AreBefore text (joined pages) (rows_before pages spot)
at_spot text pages spot is front page rest = record {
  inside = spot_inside pages spot is;
  before = ap (list_all (is_below text)) (front_is pages spot is) ∙ all_append (is_below text) (joined (take spot.part pages)) (take spot.row (page_at pages spot.part)) front page.before;
  after = ap (list_all (is_from text)) (back_is pages spot is) ∙ all_append (is_from text) (drop spot.row (page_at pages spot.part)) (joined (drop (suc spot.part) pages)) page.after rest;
}
