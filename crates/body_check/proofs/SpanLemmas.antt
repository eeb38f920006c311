-- Two lists that a log has may be of one log.
use Rattle.std.proofs.Common.{◌≡◌, ℕ, zero, suc, ◌+◌, ◌-◌, ◌*◌, ◌<◌, ◌≤◌, Bool, true, false, IsTrue, eqb, ◌⊎◌, List, [], ◌∷◌, ◌++◌, length, map, fold, Option, Some, None, IfSome, All, Less, bytes_eq, refl, sym, ap, ◌∙◌, subst, inl, inr, arith}
use Rattle.std.specs.Prelude.{filter, not, is_some, nat_eq, nat_lt, ◌||◌}
use Rattle.std.specs.List.{AllByRecursion, list_any, IsDistinct}
use Rattle.std.specs.List.Sorted.{IsStrictlySortedBy}
use Rattle.std.specs.Cmp.{IsEquivalence}
use Rattle.std.specs.Cmp.Lexicographic.{slice_cmp}
use Rattle.std.specs.Ordering.{nat_cmp}
use Rattle.std.specs.Set.{is_member}
use Rattle.std.proofs.lemmas.Bool.{cases_Bool, cases_lt, cases_eq, false_from_ne_true, lt-ltb, ltb-true, eqb-true, eq-eqb, ne_eqb}
use Rattle.std.proofs.lemmas.List.{length-append, length-map}
use Rattle.std.proofs.lemmas.List.Elements.{recursion_from_All, All-from_recursion, All-filter, filter_passes}
use Rattle.std.proofs.lemmas.List.Filters.{length-filter_both}
use Rattle.std.proofs.lemmas.Map.Made.{length-le_from_is_member}
use Rattle.std.proofs.lemmas.Slice.Eq.{bytes_eq-Decides}
use Rattle.kube_meta.specs.declared.objects.Obj.{Obj}
use Rattle.kube_meta.specs.Rows.{RowData, AreRising, key_of, row_with}
use Rattle.rev_log.specs.Logs.{Log, IsLog, end_of}
use Rattle.select_all.specs.declared.selection.Selection.{Selection}
use Rattle.select_all.specs.declared.selection.Kind.{Kind}
use Rattle.select_all.specs.declared.selection.Kind.TheVariants.{Added, Modified, Deleted}
use Rattle.select_all.specs.Selecting.{selects}
use Rattle.select_all.specs.Listings.{IsListing, row_left, row_told}
use Rattle.select_all.specs.Streams.{TransitionData, transitions}
use Rattle.select_all.proofs.EventLaws.{all_weaker}
use Rattle.mirror_law.proofs.ListLemmas.{none_kept}
use Rattle.select_all.proofs.FollowLaws.{listings_are_followed}
use Rattle.select_all.proofs.ListingLaws.{before_self, rising_kept, listing_by_key}
use Rattle.select_all.proofs.StreamLaws.{transitions_are_joined, no_transitions}
use Rattle.mirror_law.specs.Mirrors.{of_revision}
use Rattle.mirror_law.proofs.MirrorLemmas.{told_number, of_one}
use Rattle.mirror_law.proofs.RowLemmas.{rows_are_old}
use Rattle.mirror_law.proofs.TakenLemmas.{few_told}
use Rattle.mirror_log.specs.Bridges.{younger, written_at, gone, IsKept, MayBeOfOneLog}
use Rattle.body_check.specs.Spans.{ListsMayFollow}
use Rattle.body_check.specs.Turns.{MayStand}

-- ---- texts are equal by a test

same_text : (a : List ℕ) → bytes_eq a a ≡ true
same_text a = (bytes_eq-Decides a a).1 refl

text_is : (a b : List ℕ) → bytes_eq a b ≡ true → a ≡ b
text_is a b same = (bytes_eq-Decides a b).0 same

turned : (a b : List ℕ) → bytes_eq a b ≡ bytes_eq b a
turned a b = elim (cases_Bool (bytes_eq a b)) [
  | inl same ↦ same ∙ sym ((bytes_eq-Decides b a).1 (sym (text_is a b same)))
  | inr other ↦ other ∙ sym (false_from_ne_true (bytes_eq b a) (λ same. absurd (let bad : true ≡ false = sym ((bytes_eq-Decides a b).1 (sym (text_is b a same))) ∙ other in cc)))
]

texts : IsEquivalence bytes_eq
texts = record {
  refl = same_text;
  symm = turned;
  congr = λ x y z same. ap (λ (t : List ℕ). bytes_eq t z) (text_is x y same);
}

-- ---- rows that rise have keys of their own

keys_apart : (x : RowData) (rows : List RowData) → AllByRecursion (λ k. slice_cmp nat_cmp (key_of x) k ≡ Less) (map key_of rows) → AllByRecursion (λ k. bytes_eq (key_of x) k ≡ false) (map key_of rows)
keys_apart x [] above = tt
keys_apart x (y ∷ rows) above =
    (false_from_ne_true (bytes_eq (key_of x) (key_of y)) (λ same. before_self (key_of x) (key_of y) above.0 (text_is (key_of x) (key_of y) same)), keys_apart x rows above.1)

distinct : (rows : List RowData) → AreRising rows → IsDistinct bytes_eq (map key_of rows)
unfolding IsDistinct IsStrictlySortedBy
distinct [] rising = tt
distinct (x ∷ rows) rising = (keys_apart x rows rising.0, distinct rows rising.1)

lacks_key : (key : List ℕ) (rows : List RowData) (x : RowData) → slice_cmp nat_cmp (key_of x) key ≡ Less → bytes_eq key (key_of x) ≡ false
lacks_key key rows x less = false_from_ne_true (bytes_eq key (key_of x)) (λ same. before_self (key_of x) key less (sym (text_is key (key_of x) same)))

behind : (x : RowData) (rows others : List RowData) → AllByRecursion (λ k. slice_cmp nat_cmp (key_of x) k ≡ Less) (map key_of others)
    → AllByRecursion (λ row. row_with rows (key_of row) ≡ Some row) others → AllByRecursion (λ row. row_with (x ∷ rows) (key_of row) ≡ Some row) others
behind x rows [] above at = tt
behind x rows (y ∷ others) above at = (rw (lacks_key (key_of y) rows x above.0) (at.0), behind x rows others above.1 at.1)

-- each stands at its key
pub stand : (rows : List RowData) → AreRising rows → AllByRecursion (λ row. row_with rows (key_of row) ≡ Some row) rows
unfolding IsStrictlySortedBy
stand [] rising = tt
stand (x ∷ rows) rising = (rw (same_text (key_of x)) refl, behind x rows rows rising.0 (stand rows rising.1))

-- ---- what transitions of a key leave

-- one of them is of this key
abbrev pub tells_of : List ℕ → List TransitionData → Bool
tells_of key ts = list_any (λ t. bytes_eq t.obj.key key) ts

or_false : (a b : Bool) → (a || b) ≡ false → (a ≡ false) × (b ≡ false)
or_false true b none = absurd (cc)
or_false false b none = (refl, none)

untold : (key : List ℕ) (ts : List TransitionData) (row : Option RowData) → tells_of key ts ≡ false → fold (row_told key) row ts ≡ row
untold key [] row none = refl
untold key (t ∷ ts) row none =
    let parts = or_false (bytes_eq t.obj.key key) (tells_of key ts) none in
    ap (λ (r : Option RowData). fold (row_told key) r ts) (rw (parts.0) refl) ∙ untold key ts row parts.1

-- a row that a transition leaves has its revision
left_at : (P : ℕ → Type 0) (kind : Kind) (obj : Obj) (rev : ℕ) → P rev → IfSome (row_left (record { kind = kind; obj = obj; rev = rev })) (λ r. P r.rev)
left_at P Added obj rev is = is
left_at P Modified obj rev is = is
left_at P Deleted obj rev is = tt

-- a row stays, or what is left is younger
young : (a : ℕ) (key : List ℕ) (start row : Option RowData) (ts : List TransitionData) → AllByRecursion (λ t. a < t.rev) ts → (row ≡ start) ⊎ IfSome row (λ r. a < r.rev)
    → (fold (row_told key) row ts ≡ start) ⊎ IfSome (fold (row_told key) row ts) (λ r. a < r.rev)
young a key start row [] above is = is
young a key start row (t ∷ ts) above is = young a key start (row_told key row t) ts above.1 (elim (cases_Bool (bytes_eq t.obj.key key)) [
  | inl here ↦ inr (rw here (left_at (λ n. a < n) t.kind t.obj t.rev above.0))
  | inr other ↦ rw other is
])

-- a row of a revision was told of at it
none_of_revision : (v : ℕ) (key : List ℕ) (ts : List TransitionData) (row : Option RowData) → tells_of key (filter (λ t. nat_eq t.rev v) ts) ≡ false → IfSome row (λ r. r.rev ≡ v → ⊥)
    → IfSome (fold (row_told key) row ts) (λ r. r.rev ≡ v → ⊥)
none_of_revision v key [] row none is = is
none_of_revision v key (t ∷ ts) row none is = elim (cases_Bool (nat_eq t.rev v)) [
  | inl at ↦
      let here : tells_of key (t ∷ filter (λ u. nat_eq u.rev v) ts) ≡ false =
      let same : t ∷ filter (λ u. nat_eq u.rev v) ts ≡ filter (λ u. nat_eq u.rev v) (t ∷ ts) = rw at refl in
      ap (tells_of key) same ∙ none in
      let parts = or_false (bytes_eq t.obj.key key) (tells_of key (filter (λ u. nat_eq u.rev v) ts)) here in
      none_of_revision v key ts (row_told key row t) parts.1 (rw (parts.0) is)
  | inr off ↦
      let rest : tells_of key (filter (λ u. nat_eq u.rev v) ts) ≡ false =
      let same : filter (λ u. nat_eq u.rev v) ts ≡ filter (λ u. nat_eq u.rev v) (t ∷ ts) = rw off refl in
      ap (tells_of key) same ∙ none in
      none_of_revision v key ts (row_told key row t) rest (elim (cases_Bool (bytes_eq t.obj.key key)) [
        | inl of ↦ rw of (left_at (λ n. n ≡ v → ⊥) t.kind t.obj t.rev (λ same. absurd (let bad : true ≡ false = sym (eq-eqb t.rev v same) ∙ off in cc)))
        | inr other ↦ rw other is
      ])
]

-- what passes a test of its key is told of among what passes
told_among : (P : List ℕ → Bool) (key : List ℕ) (ts : List TransitionData) → P key ≡ true → tells_of key ts ≡ true → tells_of key (filter (λ t. P t.obj.key) ts) ≡ true
told_among P key [] passes told = told
told_among P key (t ∷ ts) passes told = elim (cases_Bool (bytes_eq t.obj.key key)) [
  | inl here ↦
      let same : P t.obj.key ≡ true = ap P (text_is t.obj.key key here) ∙ passes in
      rw (same, here) refl
  | inr other ↦
      let rest : tells_of key ts ≡ true = sym (rw other refl) ∙ told in
      elim (cases_Bool (P t.obj.key)) [
        | inl kept ↦ rw (kept, other) (told_among P key ts passes rest)
        | inr dropped ↦ rw dropped (told_among P key ts passes rest)
      ]
]

-- ---- counting

any_told : (q : List ℕ) (ts : List TransitionData) → is_member bytes_eq (map (λ (t : TransitionData). t.obj.key) ts) q ≡ tells_of q ts
any_told q [] = refl
any_told q (t ∷ ts) = ap (λ (b : Bool). b || is_member bytes_eq (map (λ (u : TransitionData). u.obj.key) ts) q) (turned q t.obj.key) ∙ ap (λ (b : Bool). bytes_eq t.obj.key q || b) (any_told q ts)

members : (rows : List RowData) (ts : List TransitionData) → AllByRecursion (λ row. tells_of (key_of row) ts ≡ true) rows → (q : List ℕ) → is_member bytes_eq (map key_of rows) q ≡ true
    → is_member bytes_eq (map (λ (t : TransitionData). t.obj.key) ts) q ≡ true
members [] ts all q is = absurd (let bad : false ≡ true = is in cc)
members (x ∷ rows) ts all q is = elim (cases_Bool (bytes_eq q (key_of x))) [
  | inl here ↦ any_told q ts ∙ ap (λ (k : List ℕ). tells_of k ts) (text_is q (key_of x) here) ∙ all.0
  | inr other ↦ members rows ts all.1 q (sym (rw other refl) ∙ is)
]

-- rows that rise, of each of which something is told, are no more than what is told
pub no_more : (rows : List RowData) (ts : List TransitionData) → AreRising rows → AllByRecursion (λ row. tells_of (key_of row) ts ≡ true) rows → length rows ≤ length ts
no_more rows ts rising all =
    omega (
      arith,
      length-le_from_is_member texts (map key_of rows) (map (λ (t : TransitionData). t.obj.key) ts) (distinct rows rising) (members rows ts all),
      length-map rows key_of,
      length-map ts (λ (t : TransitionData). t.obj.key),
    )

each_kept : {X : Type 0} (p : X → Bool) (P Q : X → Type 0) → ((x : X) → p x ≡ true → P x → Q x) → (xs : List X) → AllByRecursion P xs → AllByRecursion Q (filter p xs)
each_kept p P Q so [] all = tt
each_kept p P Q so (x ∷ xs) all = elim (cases_Bool (p x)) [
  | inl passes ↦ rw passes (so x passes all.0, each_kept p P Q so xs all.1)
  | inr fails ↦ rw fails (each_kept p P Q so xs all.1)
]

-- ---- the two lists

module _ (s : Selection) (peer : Log) (a c : ℕ) (old rows : List RowData) (is : IsLog peer) (begun : peer.first ≤ a) (order : a ≤ c)
    (first : IsListing peer s a old) (second : IsListing peer s c rows) where
  within : AllByRecursion (λ t. (a < t.rev) × (t.rev ≤ c)) (transitions peer s a c)
  within = told_number (selects s) peer s.resource a c is

  above : AllByRecursion (λ t. a < t.rev) (transitions peer s a c)
  above = all_weaker (λ t. (a < t.rev) × (t.rev ≤ c)) (λ t. a < t.rev) (λ t w. w.0) (transitions peer s a c) within

  rising_old : AreRising old
  rising_old = (listing_by_key (selects s) peer s.resource a old first).rising

  rising_rows : AreRising rows
  rising_rows = (listing_by_key (selects s) peer s.resource c rows second).rising

  told : (key : List ℕ) → row_with rows key ≡ fold (row_told key) (row_with old key) (transitions peer s a c)
  told key = listings_are_followed (selects s) peer s.resource a c old rows is order first second key

  old_of : (at : ℕ) (list : List RowData) → peer.first ≤ at → IsListing peer s at list → All (λ row. row.rev ≤ at) list
  old_of at list from listing =
      subst (All (λ row. row.rev ≤ at)) (sym listing.selected)
      (All-filter (λ row. selects s row.obj) (λ row. row.rev ≤ at) listing.state (rows_are_old peer s.resource at listing.state is from listing.is_state))

  found_old : (list : List RowData) (key : List ℕ) → AllByRecursion (λ row. row.rev ≤ a) list → IfSome (row_with list key) (λ row. row.rev ≤ a)
  found_old [] key all = tt
  found_old (row ∷ list) key all = elim (cases_Bool (bytes_eq key (key_of row))) [
    | inl here ↦ rw here (all.0)
    | inr past ↦ rw past (found_old list key all.1)
  ]

  old_at : (key : List ℕ) → IfSome (row_with old key) (λ row. row.rev ≤ a)
  old_at key = found_old old key (recursion_from_All (λ row. row.rev ≤ a) old (old_of a old begun first))

  -- what isn't younger stood
  is_kept : (row : RowData) → row_with rows (key_of row) ≡ Some row → row.rev ≤ a → IsKept old row
  is_kept row at low = elim (young a (key_of row) (row_with old (key_of row)) (row_with old (key_of row)) (transitions peer s a c) above (inl refl)) [
    | inl stays ↦ sym stays ∙ sym (told (key_of row)) ∙ at
    | inr later ↦
        let here : a < row.rev = subst (λ (o : Option RowData). IfSome o (λ r. a < r.rev)) (sym (told (key_of row)) ∙ at) later in
        absurd (omega (arith, here, low))
  ]

  -- what is younger was told of, and at its own revision
  no_row_of : (v : ℕ) (row : RowData) → row_with rows (key_of row) ≡ Some row → row.rev ≡ v → a < v → tells_of (key_of row) (of_revision v (transitions peer s a c)) ≡ true
  no_row_of v row at number later = elim (cases_Bool (tells_of (key_of row) (of_revision v (transitions peer s a c)))) [
    | inl yes_told ↦ yes_told
    | inr none ↦
        let before : IfSome (row_with old (key_of row)) (λ r. r.rev ≡ v → ⊥) = weaker (row_with old (key_of row)) (old_at (key_of row)) in
        let after : IfSome (fold (row_told (key_of row)) (row_with old (key_of row)) (transitions peer s a c)) (λ r. r.rev ≡ v → ⊥) = none_of_revision v (key_of row) (transitions peer s a c) (row_with old (key_of row)) none before in
        let never : row.rev ≡ v → ⊥ = subst (λ (o : Option RowData). IfSome o (λ r. r.rev ≡ v → ⊥)) (sym (told (key_of row)) ∙ at) after in
        absurd (never number)
  ]
    where
      weaker : (o : Option RowData) → IfSome o (λ r. r.rev ≤ a) → IfSome o (λ r. r.rev ≡ v → ⊥)
      weaker None low = tt
      weaker (Some r) low = λ same. absurd (omega (arith, low, same, later))

  changed : (key : List ℕ) → (row_with rows key ≡ row_with old key → ⊥) → tells_of key (transitions peer s a c) ≡ true
  changed key differ = elim (cases_Bool (tells_of key (transitions peer s a c))) [
    | inl yes_told ↦ yes_told
    | inr none ↦ absurd (differ (told key ∙ untold key (transitions peer s a c) (row_with old key) none))
  ]

  -- ---- few at once

  stand_rows : AllByRecursion (λ row. row_with rows (key_of row) ≡ Some row) rows
  stand_rows = stand rows rising_rows

  few_of : (v : ℕ) → a < v → length (of_revision v (transitions peer s a c)) ≤ 64
  few_of v later = elim (cases_lt c v) [
    | inl past ↦
        let none : of_revision v (transitions peer s a c) ≡ [] = none_kept (λ t. nat_eq t.rev v) (transitions peer s a c)
        (all_weaker (λ t. (a < t.rev) × (t.rev ≤ c)) (λ t. nat_eq t.rev v ≡ false)
        (λ t w. ne_eqb t.rev v (λ same. absurd (omega (arith, same, w.1, past)))) (transitions peer s a c) within) in
        omega (arith, ap length none)
    | inr upto ↦
        let number : v - 1 + 1 ≡ v = omega (arith, later) in
        let one : of_revision (v - 1 + 1) (transitions peer s a c) ≡ transitions peer s (v - 1) (v - 1 + 1) = of_one (selects s) peer s.resource a (v - 1) c is (omega (arith, later)) (omega (arith, later, upto)) in
        omega (arith, ap length (ap (λ (n : ℕ). of_revision n (transitions peer s a c)) (sym number) ∙ one), few_told (selects s) peer s.resource (v - 1) is)
  ]

  few : (v : ℕ) → a < v → length (written_at v rows) ≤ 64
  few v later =
      let told_each : AllByRecursion (λ row. tells_of (key_of row) (of_revision v (transitions peer s a c)) ≡ true) (written_at v rows) =
      each_kept (λ row. nat_eq row.rev v) (λ row. row_with rows (key_of row) ≡ Some row) (λ row. tells_of (key_of row) (of_revision v (transitions peer s a c)) ≡ true)
      (λ row at stands. no_row_of v row stands (eqb-true row.rev v at) later) rows stand_rows in
      omega (arith, no_more (written_at v rows) (of_revision v (transitions peer s a c)) (rising_kept (λ row. nat_eq row.rev v) rows rising_rows) told_each, few_of v later)

  -- ---- there is room

  all_told : (n : ℕ) → length (transitions peer s a (a + n)) ≤ 64 * n
  all_told zero = omega (arith, ap length (no_transitions (selects s) peer s.resource a (a + 0) (omega arith)))
  all_told (suc n) =
      let joined : transitions peer s a (a + n) ++ transitions peer s (a + n) (a + n + 1) ≡ transitions peer s a (a + n + 1) = transitions_are_joined (selects s) peer s.resource a (a + n) (a + n + 1) (omega arith) (omega arith) in
      let next : a + suc n ≡ a + n + 1 = omega arith in
      omega (
        arith,
        ap (λ (k : ℕ). length (transitions peer s a k)) next,
        ap length (sym joined),
        length-append (transitions peer s a (a + n)) (transitions peer s (a + n) (a + n + 1)),
        all_told n,
        few_told (selects s) peer s.resource (a + n) is,
      )

  younger_told : AllByRecursion (λ row. tells_of (key_of row) (filter (λ t. is_some (row_with rows t.obj.key)) (transitions peer s a c)) ≡ true) (younger a rows)
  younger_told =
      each_kept (λ row. nat_lt a row.rev) (λ row. row_with rows (key_of row) ≡ Some row)
      (λ row. tells_of (key_of row) (filter (λ t. is_some (row_with rows t.obj.key)) (transitions peer s a c)) ≡ true) one rows stand_rows
    where
      one : (row : RowData) → nat_lt a row.rev ≡ true → row_with rows (key_of row) ≡ Some row → tells_of (key_of row) (filter (λ t. is_some (row_with rows t.obj.key)) (transitions peer s a c)) ≡ true
      one row later stands =
          let later_than : a < row.rev = ltb-true a row.rev later in
          told_among (λ key. is_some (row_with rows key)) (key_of row) (transitions peer s a c) (ap is_some stands)
          (changed (key_of row) (λ same.
          let low : row.rev ≤ a = subst (λ (o : Option RowData). IfSome o (λ r. r.rev ≤ a)) (sym same ∙ stands) (old_at (key_of row)) in
          absurd (omega (arith, low, later_than))))

  gone_told : AllByRecursion (λ row. tells_of (key_of row) (filter (λ t. not (is_some (row_with rows t.obj.key))) (transitions peer s a c)) ≡ true) (gone old rows)
  gone_told =
      each_kept (λ row. not (is_some (row_with rows (key_of row)))) (λ row. row_with old (key_of row) ≡ Some row)
      (λ row. tells_of (key_of row) (filter (λ t. not (is_some (row_with rows t.obj.key))) (transitions peer s a c)) ≡ true) one old (stand old rising_old)
    where
      one : (row : RowData) → not (is_some (row_with rows (key_of row))) ≡ true → row_with old (key_of row) ≡ Some row
          → tells_of (key_of row) (filter (λ t. not (is_some (row_with rows t.obj.key))) (transitions peer s a c)) ≡ true
      one row lacks stands =
          told_among (λ key. not (is_some (row_with rows key))) (key_of row) (transitions peer s a c) lacks
          (changed (key_of row) (λ same.
          let bad : false ≡ true = sym (ap (λ (o : Option RowData). not (is_some o)) (same ∙ stands)) ∙ lacks in
          absurd (cc)))

  room : length (younger a rows) + length (gone old rows) ≤ 64 * (c - a)
  room =
      let number : a + (c - a) ≡ c = omega (arith, order) in
      let all : length (transitions peer s a c) ≤ 64 * (c - a) = subst (λ (k : ℕ). length (transitions peer s a k) ≤ 64 * (c - a)) number (all_told (c - a)) in
      omega (
        arith,
        no_more (younger a rows) (filter (λ t. is_some (row_with rows t.obj.key)) (transitions peer s a c)) (rising_kept (λ row. nat_lt a row.rev) rows rising_rows) younger_told,
        no_more (gone old rows) (filter (λ t. not (is_some (row_with rows t.obj.key))) (transitions peer s a c)) (rising_kept (λ row. not (is_some (row_with rows (key_of row)))) old rising_old) gone_told,
        length-filter_both (λ t. is_some (row_with rows t.obj.key)) (λ t. not (is_some (row_with rows t.obj.key))) (λ t. refl) (transitions peer s a c),
        all,
      )

  pub may_follow : MayStand s c rows × MayBeOfOneLog a old c rows
  may_follow = (
    record {
      rising = rising_rows;
      selected = subst (All (λ row. IsTrue (selects s row.obj))) (sym second.selected) (filter_passes (λ row. selects s row.obj) second.state);
      within = old_of c rows (omega (arith, begun, order)) second;
    },
    record {
      kept = All-from_recursion (λ row. row.rev ≤ a → IsKept old row) rows
          (all_weaker (λ row. row_with rows (key_of row) ≡ Some row) (λ row. row.rev ≤ a → IsKept old row) is_kept rows stand_rows);
      few = few;
      room = room;
    },
  )

pub lists_may_follow : ListsMayFollow
lists_may_follow s peer a c old rows is begun order first second = may_follow s peer a c old rows is begun order first second
