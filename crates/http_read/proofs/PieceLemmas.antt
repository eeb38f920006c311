-- Texts that are cut at a separator, and their blanks.
use Rattle.std.proofs.Common.{◌≡◌, ◌≢◌, ℕ, ◌<◌, ◌≤◌, ◌==◌, List, [], ◌∷◌, length, refl, sym, subst, ⊎_elim, arith}
use Rattle.std.proofs.lemmas.Bool.{cond-true, cond-false, cases_eq, eq-eqb, ne_eqb}
use Rattle.std.proofs.lemmas.Bool.Decides.{nat_tests}
use Rattle.std.specs.Prelude.{All}
use Rattle.std.specs.List.{position_or_len, before_first, after_first}
use Rattle.std.proofs.lemmas.List.Elements.{All-take, All-drop}
use Rattle.form_urlencoded.specs.Form.{split, onto_first, split_once}
use Rattle.form_urlencoded.proofs.FormLemmas.{split_once_before_same, split_once_after_same, split_once_before_other, split_once_after_other}
use Rattle.httparse.specs.Grammar.{skip_ows, trim_ows}
use Rattle.http_read.specs.Pieces.{last_blanks_off}

split-nil : (s : ℕ) → split s [] ≡ [] ∷ []
unfolding split
split-nil s = refl

split_same : (s : ℕ) (bs : List ℕ) → split s (s ∷ bs) ≡ [] ∷ split s bs
unfolding split
split_same s bs = cond-true _ _ _ (eq-eqb s s refl)

split_other : (s b : ℕ) (bs : List ℕ) → b ≢ s → split s (b ∷ bs) ≡ onto_first b (split s bs)
unfolding split
split_other s b bs other = cond-false _ _ _ (ne_eqb b s other)

-- the first piece of a text, and the pieces of what stands behind its first separator; or the text alone
abbrev pub Splits : ℕ → List ℕ → Type 0
Splits s bs = (position_or_len (λ b. b == s) bs < length bs → split s bs ≡ (split_once s bs).0 ∷ split s (split_once s bs).1)
    × (length bs ≤ position_or_len (λ b. b == s) bs → split s bs ≡ bs ∷ [])

pub splits : (s : ℕ) (bs : List ℕ) → Splits s bs
splits s [] = (λ h. absurd (omega arith), λ h. split-nil s)
splits s (b ∷ bs) =
    let later = splits s bs in
    ⊎_elim
    (λ same. subst (λ x. Splits s (x ∷ bs)) (sym same) (
      λ h. rw (split_once_before_same s bs, split_once_after_same s bs) (split_same s bs),
      λ h. absurd (first_is_not s bs h),
    ))
    (λ other. (
      λ h. rw (split_once_before_other s b bs other, split_once_after_other s b bs other, split_other s b bs other, later.0 (more s b bs other h)),
      λ h. rw (split_other s b bs other, later.1 (none s b bs other h)),
    ))
    (cases_eq b s)
  where
    first_is_not : (s : ℕ) (bs : List ℕ) → length (s ∷ bs) ≤ position_or_len (λ b. b == s) (s ∷ bs) → ⊥
    first_is_not s bs h = grind (arith, nat_tests)

    more : (s b : ℕ) (bs : List ℕ) → b ≢ s → position_or_len (λ x. x == s) (b ∷ bs) < length (b ∷ bs) → position_or_len (λ x. x == s) bs < length bs
    more s b bs other h = grind (arith, nat_tests)

    none : (s b : ℕ) (bs : List ℕ) → b ≢ s → length (b ∷ bs) ≤ position_or_len (λ x. x == s) (b ∷ bs) → length bs ≤ position_or_len (λ x. x == s) bs
    none s b bs other h = grind (arith, nat_tests)

-- both ends
pub trim-both : (text : List ℕ) → last_blanks_off (skip_ows text) ≡ trim_ows text
unfolding trim_ows
trim-both text = refl

-- what holds of each byte of a text holds of each byte of the pieces before and after its first separator
pub before-all : (P : ℕ → Type 0) (s : ℕ) (text piece : List ℕ) → piece ≡ before_first (λ b. b == s) text → All P text → All P piece
before-all P s text piece e all = subst (All P) (sym e) (All-take P _ text all)

pub after-all : (P : ℕ → Type 0) (s : ℕ) (text piece : List ℕ) → piece ≡ after_first (λ b. b == s) text → All P text → All P piece
after-all P s text piece e all = subst (All P) (sym e) (All-drop P _ text all)
