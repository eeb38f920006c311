-- Beginnings of one list, the longer of two of them, and an entry more.
use Rattle.std.proofs.Common.{◌≡◌, ◌⊎◌, ℕ, zero, suc, ◌+◌, ◌<◌, ◌≤◌, Bool, true, false, List, [], ◌∷◌, ◌++◌, length, Some, refl, ap, sym, ◌∙◌, subst, inl, inr, ⊎_elim, arith, append_assoc, length-append}
use Rattle.std.specs.Prelude.{All, slice_get, nat_lt, if◌then◌else◌}
use Rattle.std.proofs.lemmas.List.{append-nil}
use Rattle.std.proofs.lemmas.Bool.Decides.{nat_tests}
use mathlib.Core.List.{IsPrefix}
use Rattle.rev_front.specs.Passes.{end_from, FitFrom, longer, last_or}

module _ {A : Type 0} where
  -- each list begins with itself
  pub prefix_self : (xs : List A) → IsPrefix xs xs
  prefix_self xs = ([], append-nil xs)

  pub prefix_trans : (xs ys zs : List A) → IsPrefix xs ys → IsPrefix ys zs → IsPrefix xs zs
  prefix_trans xs ys zs p q = (p.0 ++ q.0, sym (append_assoc xs p.0 q.0) ∙ (ap (λ w. w ++ q.0) p.1 ∙ q.1))

  -- a list that has grown begins with what it was
  pub prefix_grown : (xs ys : List A) → IsPrefix xs (xs ++ ys)
  prefix_grown xs ys = (ys, refl)

  -- of two beginnings of one list the shorter begins the longer
  pub prefix_shorter : (xs ys zs : List A) → IsPrefix xs zs → IsPrefix ys zs → length xs ≤ length ys → IsPrefix xs ys
  prefix_shorter [] ys zs p q le = (ys, refl)
  prefix_shorter (x ∷ xs) [] zs p q le = absurd (omega arith)
  prefix_shorter (x ∷ xs) (y ∷ ys) [] p q le = absurd (cc (p.1))
  prefix_shorter (x ∷ xs) (y ∷ ys) (z ∷ zs) p q le =
      let heads : x ≡ y = cc (p.1, q.1) in
      let rest = prefix_shorter xs ys zs (p.0, cc (p.1)) (q.0, cc (q.1)) (omega arith) in
      (rest.0, cc (heads, rest.1))

  pub prefix_length : (xs ys : List A) → IsPrefix xs ys → length xs ≤ length ys
  prefix_length xs ys p = omega (arith, sym (ap length p.1) ∙ length-append xs p.0)

  -- what stands in a beginning stands in the whole, at the same place
  pub prefix_get : (xs ys : List A) (k : ℕ) (x : A) → IsPrefix xs ys → slice_get xs k ≡ Some x → slice_get ys k ≡ Some x
  prefix_get [] ys k x p h = absurd cc
  prefix_get (y ∷ xs) [] k x p h = absurd (cc (p.1))
  prefix_get (y ∷ xs) (z ∷ ys) zero x p h = cc (p.1, h)
  prefix_get (y ∷ xs) (z ∷ ys) (suc k) x p h = prefix_get xs ys k x (p.0, cc (p.1)) h

  chosen : (P : List A → Type 0) (xs ys : List A) (b : Bool) → nat_lt (length xs) (length ys) ≡ b → (length xs < length ys → P ys) → (length ys ≤ length xs → P xs) → P (if b then ys else xs)
  chosen P xs ys true e more less = more (grind (arith, nat_tests))
  chosen P xs ys false e more less = less (grind (arith, nat_tests))

  -- the longer of two lists is the second where it has more, and else the first
  pub longer_is : (P : List A → Type 0) (xs ys : List A) → (length xs < length ys → P ys) → (length ys ≤ length xs → P xs) → P (longer xs ys)
  longer_is P xs ys = chosen P xs ys (nat_lt (length xs) (length ys)) refl

  -- the longer of two beginnings of one list begins it too, and begins with both
  pub longer_begins : (xs ys zs : List A) → IsPrefix xs zs → IsPrefix ys zs → IsPrefix (longer xs ys) zs
  longer_begins xs ys zs p q = longer_is (λ l. IsPrefix l zs) xs ys (λ _. q) (λ _. p)

  pub longer_first : (xs ys zs : List A) → IsPrefix xs zs → IsPrefix ys zs → IsPrefix xs (longer xs ys)
  longer_first xs ys zs p q = longer_is (λ l. IsPrefix xs l) xs ys (λ lt. prefix_shorter xs ys zs p q (omega arith)) (λ _. prefix_self xs)

  pub longer_second : (xs ys zs : List A) → IsPrefix xs zs → IsPrefix ys zs → IsPrefix ys (longer xs ys)
  longer_second xs ys zs p q = longer_is (λ l. IsPrefix ys l) xs ys (λ _. prefix_self ys) (λ le. prefix_shorter ys xs zs q p le)

  -- the longer of a list and a beginning of it is that list
  pub longer_of_prefix : (xs ys : List A) → IsPrefix xs ys → longer xs ys ≡ ys
  longer_of_prefix xs ys p = longer_is (λ l. l ≡ ys) xs ys (λ _. refl) (λ le. whole_of_length p.0 (omega (arith, le, sym (ap length p.1) ∙ length-append xs p.0)) p.1)
    where
      whole_of_length : (more : List A) → length more ≡ 0 → xs ++ more ≡ ys → xs ≡ ys
      whole_of_length [] none is = sym (append-nil xs) ∙ is
      whole_of_length (x ∷ more) none is = absurd (omega (arith, none))

  at_push : (xs : List A) (e x : A) (i : ℕ) → slice_get (xs ++ e ∷ []) i ≡ Some x → (slice_get xs i ≡ Some x) ⊎ ((i ≡ length xs) × (e ≡ x))
  at_push [] e x zero h = inr (refl, cc)
  at_push [] e x (suc i) h = absurd cc
  at_push (y ∷ xs) e x zero h = inl h
  at_push (y ∷ xs) e x (suc i) h = ⊎_elim (λ t. inl t) (λ t. inr (ap suc t.0, t.1)) (at_push xs e x i h)

  -- a log of entries that fit, and one more that fits the next revision
  pub fit_push : (fits : ℕ → A → Type 0) (first : ℕ) (xs : List A) (e : A) → FitFrom fits first xs → fits (end_from first xs + 1) e → FitFrom fits first (xs ++ e ∷ [])
  fit_push fits first xs e all new i x h = ⊎_elim (λ (t : slice_get xs i ≡ Some x). all i x t)
      (λ (t : (i ≡ length xs) × (e ≡ x)). let n : end_from first xs + 1 ≡ first + 1 + i = omega (arith, t.0) in subst (λ (z : ℕ × A). fits z.0 z.1) (λ k. (n k, t.1 k)) new) (at_push xs e x i h)

pub last_push : (m n : ℕ) (ns : List ℕ) → last_or m (ns ++ n ∷ []) ≡ n
last_push m n [] = refl
last_push m n (k ∷ ns) = last_push k n ns

-- the last of some numbers that are at most a bound is so too
pub last_within : (m k : ℕ) (ns : List ℕ) → m ≤ k → All (λ n. n ≤ k) ns → last_or m ns ≤ k
last_within m k [] le all = le
last_within m k (n ∷ ns) le all = let h = all 0 n (omega arith) in last_within n k ns h (λ i d some. all (suc i) d (omega arith))
