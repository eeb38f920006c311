-- Longest runs of bytes at the front of a text, and where a text may be cut.
use Rattle.std.proofs.Common.{◌≡◌, ℕ, zero, suc, ◌+◌, ◌<◌, ◌≤◌, ◌⊎◌, inl, inr, Bool, true, false, eqb, List, [], ◌∷◌, ◌++◌, length, get_or, take, drop, refl, ap, subst, arith, IsUtf8}
use Rattle.std.specs.Prelude.{◌||◌, not}
use Rattle.std.specs.Str.{IsCharBoundary}
use Rattle.std.proofs.lemmas.Bool.{eqb-true}
use Rattle.std.proofs.lemmas.Str.{IsCharBoundary-start, IsCharBoundary-after_ascii}
use Rattle.field_select.specs.declared.reader.Run.{Run}
use Rattle.field_select.specs.declared.reader.Run.TheVariants.{Commas, Name, Plain}
use Rattle.field_select.specs.Bytes.{is_in, is_escaped, EachBelow, begins_with, without, taken, left}

pub either : (x : Bool) → (x ≡ true) ⊎ (x ≡ false)
either true = inl refl
either false = inr refl

module _ (is_such : ℕ → Bool) where
  pub taken_is : (bytes : List ℕ) (n : ℕ) → n ≤ length bytes → EachBelow is_such bytes n → (n < length bytes → is_such (get_or bytes n 0) ≡ false) → take n bytes ≡ taken is_such bytes
  taken_is [] zero le each longest = refl
  taken_is [] (suc n) le each longest = absurd (omega arith)
  taken_is (b ∷ bytes) zero le each longest = rw (longest (omega arith)) refl
  taken_is (b ∷ bytes) (suc n) le each longest =
      rw (each 0 (omega arith)) (ap (λ (x : List ℕ). b ∷ x) (taken_is bytes n (omega arith) (λ k h. each (suc k) (omega arith)) (λ h. longest (omega arith))))

  pub left_is : (bytes : List ℕ) (n : ℕ) → n ≤ length bytes → EachBelow is_such bytes n → (n < length bytes → is_such (get_or bytes n 0) ≡ false) → drop n bytes ≡ left is_such bytes
  left_is [] zero le each longest = refl
  left_is [] (suc n) le each longest = absurd (omega arith)
  left_is (b ∷ bytes) zero le each longest = rw (longest (omega arith)) refl
  left_is (b ∷ bytes) (suc n) le each longest =
      rw (each 0 (omega arith)) (left_is bytes n (omega arith) (λ k h. each (suc k) (omega arith)) (λ h. longest (omega arith)))

  -- a run and what stands behind it are the bytes
  pub taken_left : (bytes : List ℕ) → taken is_such bytes ++ left is_such bytes ≡ bytes
  taken_left [] = refl
  taken_left (b ∷ bytes) =
      elim (either (is_such b)) [
        | inl such ↦ rw such (ap (λ (x : List ℕ). b ∷ x) (taken_left bytes))
        | inr other ↦ rw other refl
      ]

  -- what stands behind a run doesn't go on with it
  pub left_ends : (bytes : List ℕ) (b : ℕ) (rest : List ℕ) → left is_such bytes ≡ b ∷ rest → is_such b ≡ false
  left_ends [] b rest e = absurd cc
  left_ends (c ∷ bytes) b rest e =
      elim (either (is_such c)) [
        | inl such ↦ left_ends bytes b rest (rw such at e)
        | inr other ↦ let e2 : c ∷ bytes ≡ b ∷ rest = rw other at e in let same : c ≡ b = cc in rw (← same) other
      ]

  pub left_shorter : (bytes : List ℕ) → length (left is_such bytes) ≤ length bytes
  left_shorter [] = omega arith
  left_shorter (b ∷ bytes) =
      elim (either (is_such b)) [
        | inl such ↦ rw such (omega (arith, left_shorter bytes))
        | inr other ↦ rw other (omega arith)
      ]

-- ---- cuts

or_true : (x y : Bool) → (x || y) ≡ true → (x ≡ true) ⊎ (y ≡ true)
or_true true y e = inl refl
or_true false y e = inr e

not_false : (b : Bool) → not b ≡ false → b ≡ true
not_false true e = refl
not_false false e = absurd cc

pub escaped_is_ascii : (b : ℕ) → is_escaped b ≡ true → b < 128
escaped_is_ascii b h =
    elim (or_true (eqb b 92) (eqb b 44 || eqb b 61) h) [
      | inl e ↦ omega (arith, eqb-true b 92 e)
      | inr h2 ↦ elim (or_true (eqb b 44) (eqb b 61) h2) [
        | inl e ↦ omega (arith, eqb-true b 44 e)
        | inr e ↦ omega (arith, eqb-true b 61 e)
      ]
    ]

-- the byte that ends a name or a part of a value is ASCII
ends_ascii : (run : Run) (b : ℕ) → is_in run b ≡ false → (run ≡ Commas → ⊥) → b < 128
unfolding is_in
ends_ascii Commas b e apart = absurd (apart refl)
ends_ascii Name b e apart =
    elim (or_true (is_escaped b) (eqb b 33) (not_false _ e)) [
      | inl h ↦ escaped_is_ascii b h
      | inr h ↦ omega (arith, eqb-true b 33 h)
    ]
ends_ascii Plain b e apart = escaped_is_ascii b (not_false _ e)

-- a text may be cut behind a run
pub cut_behind : (run : Run) (bytes : List ℕ) (n : ℕ) → IsUtf8 bytes → n ≤ length bytes → EachBelow (is_in run) bytes n → (n < length bytes → is_in run (get_or bytes n 0) ≡ false) → IsCharBoundary bytes n
unfolding is_in
cut_behind Commas bytes zero utf8 le each longest = IsCharBoundary-start bytes utf8
cut_behind Commas bytes (suc m) utf8 le each longest =
    let comma : get_or bytes m 0 ≡ 44 = eqb-true (get_or bytes m 0) 44 (each m (omega arith)) in
    let cut : IsCharBoundary bytes (m + 1) = IsCharBoundary-after_ascii bytes m utf8 (omega arith) (omega (arith, comma)) in
    let next : m + 1 ≡ suc m = omega arith in
    subst (IsCharBoundary bytes) next cut
cut_behind Name bytes n utf8 le each longest =
    (le, λ lt high. absurd (omega (arith, ends_ascii Name (get_or bytes n 0) (longest lt) (λ e. cc))))
cut_behind Plain bytes n utf8 le each longest =
    (le, λ lt high. absurd (omega (arith, ends_ascii Plain (get_or bytes n 0) (longest lt) (λ e. cc))))

-- ---- the first byte

-- what `strip_prefix` gives of a byte at the front
pub stripped : (c : ℕ) (bytes : List ℕ) → ((rest : List ℕ) → bytes ≡ c ∷ rest → ⊥) → (false ≡ begins_with c bytes) × (bytes ≡ without c bytes)
stripped c [] none = (refl, refl)
stripped c (b ∷ bytes) none =
    elim (either (eqb b c)) [
      | inl e ↦ let same = eqb-true b c e in absurd (none bytes cc)
      | inr apart ↦ rw apart (refl, refl)
    ]
