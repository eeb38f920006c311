-- The first bytes of texts, and bytes that are compared as numbers.
use Rattle.std.proofs.Common.{◌≡◌, ℕ, zero, suc, ◌+◌, ◌*◌, ◌<◌, ◌≤◌, List, [], ◌∷◌, ◌++◌, length, take, drop, get_or, refl, sym, ap, subst, ◌∙◌, arith, Less, Equal, Greater, Ordering}
use Rattle.std.specs.Cmp.Lexicographic.{slice_cmp}
use Rattle.std.specs.Int.{from_be_bytes, w64}
use Rattle.std.specs.Ordering.{nat_cmp, ordering_then, ordering_reverse}
use Rattle.std.specs.Slice.Scan.{big_endian}
use Rattle.std.proofs.lemmas.Cmp.{ranked, nat_list_cmp_total}
use Rattle.std.proofs.lemmas.List.{get_or-drop, drop-drop, length-drop}
use Rattle.encode_once.specs.Prefixes.{first_bytes, PrefixesAreInOrder}

-- ---- a prefix is copied

pub long : (n : ℕ) (text : List ℕ) → n ≤ length text → take n text ≡ first_bytes n text
long zero text enough = refl
long (suc n) [] enough = absurd (omega arith)
long (suc n) (b ∷ text) enough = ap (λ (r : List ℕ). b ∷ r) (long n text (omega arith))

abbrev pub zeros : ℕ → List ℕ
zeros zero = []
zeros (suc n) = 0 ∷ zeros n

pub short : (n : ℕ) (text : List ℕ) → length text ≤ n → text ++ drop (length text) (zeros n) ≡ first_bytes n text
short zero [] few = refl
short zero (b ∷ text) few = absurd (omega arith)
short (suc n) [] few = ap (λ (r : List ℕ). 0 ∷ r) (short n [] (omega arith))
short (suc n) (b ∷ text) few = ap (λ (r : List ℕ). b ∷ r) (short n text (omega arith))

-- ---- bytes as numbers

-- each is below 256
abbrev pub AreBytes : List ℕ → Type 0
AreBytes xs = (k : ℕ) → get_or xs k 0 < 256

then_then : (o p q : Ordering) → ordering_then (ordering_then o p) q ≡ ordering_then o (ordering_then p q)
then_then Less p q = refl
then_then Equal p q = refl
then_then Greater p q = refl

then_equal : (o : Ordering) → o ≡ ordering_then o Equal
then_equal Less = refl
then_equal Equal = refl
then_equal Greater = refl

less_is : (x y : ℕ) → x < y → nat_cmp x y ≡ Less
less_is x y less = by (nat_cmp x y) refl
  where
    by : (o : Ordering) → nat_cmp x y ≡ o → o ≡ Less
    by Less e = refl
    by Equal e = let same : x ≡ y = ranked x y Equal (sym e) in absurd (omega arith)
    by Greater e = let more : y < x = ranked x y Greater (sym e) in absurd (omega arith)

greater_is : (x y : ℕ) → y < x → nat_cmp x y ≡ Greater
greater_is x y greater = by (nat_cmp x y) refl
  where
    by : (o : Ordering) → nat_cmp x y ≡ o → o ≡ Greater
    by Less e = let less : x < y = ranked x y Less (sym e) in absurd (omega arith)
    by Equal e = let same : x ≡ y = ranked x y Equal (sym e) in absurd (omega arith)
    by Greater e = refl

equal_is : (x y : ℕ) → x ≡ y → nat_cmp x y ≡ Equal
equal_is x y same = by (nat_cmp x y) refl
  where
    by : (o : Ordering) → nat_cmp x y ≡ o → o ≡ Equal
    by Less e = let less : x < y = ranked x y Less (sym e) in absurd (omega arith)
    by Equal e = refl
    by Greater e = let more : y < x = ranked x y Greater (sym e) in absurd (omega arith)

-- one more byte decides where what stands before it doesn't
one_more : (a b x y : ℕ) → x < 256 → y < 256 → nat_cmp (a * 256 + x) (b * 256 + y) ≡ ordering_then (nat_cmp a b) (nat_cmp x y)
one_more a b x y here there = by (nat_cmp a b) refl
  where
    last : (o : Ordering) → a ≡ b → nat_cmp x y ≡ o → nat_cmp (a * 256 + x) (b * 256 + y) ≡ o
    last Less same e = let less : x < y = ranked x y Less (sym e) in less_is (a * 256 + x) (b * 256 + y) (omega arith)
    last Equal same e = let level : x ≡ y = ranked x y Equal (sym e) in equal_is (a * 256 + x) (b * 256 + y) (omega arith)
    last Greater same e = let more : y < x = ranked x y Greater (sym e) in greater_is (a * 256 + x) (b * 256 + y) (omega arith)

    by : (o : Ordering) → nat_cmp a b ≡ o → nat_cmp (a * 256 + x) (b * 256 + y) ≡ ordering_then o (nat_cmp x y)
    by Less e = let less : a < b = ranked a b Less (sym e) in less_is (a * 256 + x) (b * 256 + y) (omega arith)
    by Equal e = last (nat_cmp x y) (ranked a b Equal (sym e)) refl
    by Greater e = let more : b < a = ranked a b Greater (sym e) in greater_is (a * 256 + x) (b * 256 + y) (omega arith)

-- numbers stand as the bytes that spell them
spelt : (n : ℕ) (xs ys : List ℕ) (a b : ℕ) → n ≤ length xs → n ≤ length ys → AreBytes xs → AreBytes ys → nat_cmp (big_endian a (take n xs)) (big_endian b (take n ys)) ≡ ordering_then (nat_cmp a b) (slice_cmp nat_cmp (take n xs) (take n ys))
spelt zero xs ys a b these those here there = then_equal (nat_cmp a b)
spelt (suc n) [] ys a b these those here there = absurd (omega arith)
spelt (suc n) (x ∷ xs) [] a b these those here there = absurd (omega arith)
spelt (suc n) (x ∷ xs) (y ∷ ys) a b these those here there =
    spelt n xs ys (a * 256 + x) (b * 256 + y) (omega arith) (omega arith) (λ k. here (suc k)) (λ k. there (suc k))
    ∙ ap (λ (o : Ordering). ordering_then o (slice_cmp nat_cmp (take n xs) (take n ys))) (one_more a b x y (here 0) (there 0))
    ∙ then_then (nat_cmp a b) (nat_cmp x y) (slice_cmp nat_cmp (take n xs) (take n ys))

parts : (n : ℕ) (xs ys : List ℕ) → n ≤ length xs → n ≤ length ys → slice_cmp nat_cmp xs ys ≡ ordering_then (slice_cmp nat_cmp (take n xs) (take n ys)) (slice_cmp nat_cmp (drop n xs) (drop n ys))
parts zero xs ys these those = refl
parts (suc n) [] ys these those = absurd (omega arith)
parts (suc n) (x ∷ xs) [] these those = absurd (omega arith)
parts (suc n) (x ∷ xs) (y ∷ ys) these those =
    ap (ordering_then (nat_cmp x y)) (parts n xs ys (omega arith) (omega arith))
    ∙ sym (then_then (nat_cmp x y) (slice_cmp nat_cmp (take n xs) (take n ys)) (slice_cmp nat_cmp (drop n xs) (drop n ys)))

-- the first bytes decide as a number, and else those behind them
pub number_first : (n : ℕ) (xs ys : List ℕ) → n ≤ length xs → n ≤ length ys → AreBytes xs → AreBytes ys → slice_cmp nat_cmp xs ys ≡ ordering_then (nat_cmp (big_endian 0 (take n xs)) (big_endian 0 (take n ys))) (slice_cmp nat_cmp (drop n xs) (drop n ys))
number_first n xs ys these those here there =
    parts n xs ys these those ∙ ap (λ (o : Ordering). ordering_then o (slice_cmp nat_cmp (drop n xs) (drop n ys))) (sym (spelt n xs ys 0 0 these those here there))

-- the same from a place on
pub number_at : (i : ℕ) (xs ys : List ℕ) → i + 8 ≤ length xs → i + 8 ≤ length ys → AreBytes xs → AreBytes ys → slice_cmp nat_cmp (drop i xs) (drop i ys) ≡ ordering_then (nat_cmp (big_endian 0 (take 8 (drop i xs))) (big_endian 0 (take 8 (drop i ys)))) (slice_cmp nat_cmp (drop (i + 8) xs) (drop (i + 8) ys))
number_at i xs ys these those here there =
    let behind = λ (zs : List ℕ) (bytes : AreBytes zs). λ (k : ℕ). subst (λ (b : ℕ). b < 256) (sym (get_or-drop i zs k 0)) (bytes (i + k)) in
    rw (← drop-drop 8 i xs, ← drop-drop 8 i ys) (number_first 8 (drop i xs) (drop i ys) (omega (arith, length-drop i xs)) (omega (arith, length-drop i ys)) (behind xs here) (behind ys there))

pub number_decides : (x y : ℕ) (o : Ordering) → (x ≡ y → ⊥) → nat_cmp x y ≡ ordering_then (nat_cmp x y) o
number_decides x y o apart = by (nat_cmp x y) refl
  where
    by : (p : Ordering) → nat_cmp x y ≡ p → p ≡ ordering_then p o
    by Less e = refl
    by Equal e = absurd (apart (ranked x y Equal (sym e)))
    by Greater e = refl

pub number_passes : (x y : ℕ) (o : Ordering) → x ≡ y → ordering_then (nat_cmp x y) o ≡ o
number_passes x y o same = ap (λ (p : Ordering). ordering_then p o) (equal_is x y same)

pub eight : (xs : List ℕ) → length xs ≡ 8 → from_be_bytes w64 xs ≡ big_endian 0 xs
eight [] many = absurd (omega arith)
eight (a ∷ []) many = absurd (omega arith)
eight (a ∷ b ∷ []) many = absurd (omega arith)
eight (a ∷ b ∷ c ∷ []) many = absurd (omega arith)
eight (a ∷ b ∷ c ∷ d ∷ []) many = absurd (omega arith)
eight (a ∷ b ∷ c ∷ d ∷ e ∷ []) many = absurd (omega arith)
eight (a ∷ b ∷ c ∷ d ∷ e ∷ f ∷ []) many = absurd (omega arith)
eight (a ∷ b ∷ c ∷ d ∷ e ∷ f ∷ g ∷ []) many = absurd (omega arith)
eight (a ∷ b ∷ c ∷ d ∷ e ∷ f ∷ g ∷ h ∷ []) many = omega arith
eight (a ∷ b ∷ c ∷ d ∷ e ∷ f ∷ g ∷ h ∷ i ∷ more) many = absurd (omega arith)

-- ---- prefixes in order

greater_not_less : Greater ≡ Less → ⊥
greater_not_less e = cc

none_below_none : (a : List ℕ) → slice_cmp nat_cmp a [] ≡ Less → ⊥
none_below_none [] less = cc
none_below_none (x ∷ a) less = cc

-- no byte is below the zero behind a text's end
no_byte_below : (x : ℕ) (these those : List ℕ) → slice_cmp nat_cmp (x ∷ these) (0 ∷ those) ≡ Less → (slice_cmp nat_cmp these those ≡ Less → ⊥) → ⊥
no_byte_below x these those less rest = by (nat_cmp x 0) refl
  where
    by : (o : Ordering) → nat_cmp x 0 ≡ o → ⊥
    by Less e = let under : x < 0 = ranked x 0 Less (sym e) in omega arith
    by Equal e = rest (sym (ap (λ (o : Ordering). ordering_then o (slice_cmp nat_cmp these those)) e) ∙ less)
    by Greater e = greater_not_less (sym (ap (λ (o : Ordering). ordering_then o (slice_cmp nat_cmp these those)) e) ∙ less)

-- the first byte that differs decides, and else the rest does
byte_then : (x y : ℕ) (a b these those : List ℕ) → slice_cmp nat_cmp (x ∷ these) (y ∷ those) ≡ Less → (slice_cmp nat_cmp these those ≡ Less → slice_cmp nat_cmp a b ≡ Less) → slice_cmp nat_cmp (x ∷ a) (y ∷ b) ≡ Less
byte_then x y a b these those less rest = by (nat_cmp x y) refl
  where
    by : (o : Ordering) → nat_cmp x y ≡ o → slice_cmp nat_cmp (x ∷ a) (y ∷ b) ≡ Less
    by Less e = ap (λ (o : Ordering). ordering_then o (slice_cmp nat_cmp a b)) e
    by Equal e = ap (λ (o : Ordering). ordering_then o (slice_cmp nat_cmp a b)) e ∙ rest (sym (ap (λ (o : Ordering). ordering_then o (slice_cmp nat_cmp these those)) e) ∙ less)
    by Greater e = absurd (greater_not_less (sym (ap (λ (o : Ordering). ordering_then o (slice_cmp nat_cmp these those)) e) ∙ less))

-- a smaller prefix is that of a smaller text
prefix_less : (n : ℕ) (a b : List ℕ) → slice_cmp nat_cmp (first_bytes n a) (first_bytes n b) ≡ Less → slice_cmp nat_cmp a b ≡ Less
prefix_less zero a b less = absurd (cc)
prefix_less (suc n) [] [] less = prefix_less n [] [] less
prefix_less (suc n) [] (y ∷ b) less = refl
prefix_less (suc n) (x ∷ a) [] less = absurd (no_byte_below x (first_bytes n a) (first_bytes n []) less (λ less. none_below_none a (prefix_less n a [] less)))
prefix_less (suc n) (x ∷ a) (y ∷ b) less = byte_then x y a b (first_bytes n a) (first_bytes n b) less (prefix_less n a b)

prefix_greater : (n : ℕ) (a b : List ℕ) → slice_cmp nat_cmp (first_bytes n a) (first_bytes n b) ≡ Greater → slice_cmp nat_cmp a b ≡ Greater
prefix_greater n a b greater = nat_list_cmp_total.antisymm a b ∙ ap ordering_reverse (prefix_less n b a (nat_list_cmp_total.antisymm (first_bytes n b) (first_bytes n a) ∙ ap ordering_reverse greater))

pub in_order : PrefixesAreInOrder
in_order n a b Less is apart = prefix_less n a b is
in_order n a b Equal is apart = absurd (apart refl)
in_order n a b Greater is apart = prefix_greater n a b is
