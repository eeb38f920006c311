-- What is found of texts, from what is found of those behind the first.
use Rattle.std.proofs.Common.{◌≡◌, ℕ, zero, suc, ◌+◌, ◌≤◌, List, [], ◌∷◌, ◌++◌, length, take, drop, refl, sym, ap, ◌∙◌, subst, append_assoc, arith}
use Rattle.body_check.specs.declared.found.Found.{Found}
use Rattle.body_check.specs.declared.found.Found.TheVariants.{Reached, Broken}
use Rattle.body_check.specs.Findings.{Begins, IsFound, later, Behind, BeginsOtherwise, AreFirst, ArePartly}

-- of two languages that are the same
abbrev pub AreSame : (List (List ℕ) → ℕ → Type 0) → (List (List ℕ) → ℕ → Type 0) → Type 0
AreSame Tells Other = ((texts : List (List ℕ)) (p : ℕ) → Tells texts p → Other texts p) × ((texts : List (List ℕ)) (p : ℕ) → Other texts p → Tells texts p)

pub found-same : (Tells Other : List (List ℕ) → ℕ → Type 0) → AreSame Tells Other → (texts : List (List ℕ)) (r : Found) → IsFound Tells texts r → IsFound Other texts r
found-same Tells Other same texts (Reached to) is =
    record { told = same.0 texts to is.told; least = λ p tells. is.least p (same.1 texts p tells) }
found-same Tells Other same texts (Broken n) is = record {
  none = λ p tells. is.none p (same.1 texts p tells);
  within = is.within;
  begun = (is.begun.0, is.begun.1, same.0 (take n texts ++ is.begun.0) is.begun.1 is.begun.2);
  greatest = λ m few begins. is.greatest m few (begins.0, begins.1, same.1 (take m texts ++ begins.0) begins.1 begins.2);
}

module _ (Tells : List (List ℕ) → ℕ → Type 0) (x : List ℕ) where
  -- behind a first text that is good
  pub found-step : (Rest : List (List ℕ) → ℕ → Type 0)
      → ((xs : List (List ℕ)) (p : ℕ) → Tells (x ∷ xs) p → Rest xs p) → ((xs : List (List ℕ)) (p : ℕ) → Rest xs p → Tells (x ∷ xs) p)
      → (xs : List (List ℕ)) (r : Found) → IsFound Rest xs r → IsFound Tells (x ∷ xs) (later 1 r)
  found-step Rest only does xs (Reached to) is =
      record { told = does xs to is.told; least = λ p tells. is.least p (only xs p tells) }
  found-step Rest only does xs (Broken n) is = record {
    none = λ p tells. is.none p (only xs p tells);
    within = omega (arith, is.within);
    begun = subst (λ m. Begins Tells (take m (x ∷ xs))) suc_is (is.begun.0, is.begun.1, does (take n xs ++ is.begun.0) is.begun.1 is.begun.2);
    greatest = greatest;
  }
    where
      suc_is : suc n ≡ 1 + n
      suc_is = omega arith

      greatest : (m : ℕ) → m ≤ length (x ∷ xs) → Begins Tells (take m (x ∷ xs)) → m ≤ 1 + n
      greatest zero few begins = omega arith
      greatest (suc m) few begins = omega (arith, is.greatest m (omega arith) (begins.0, begins.1, only (take m xs ++ begins.0) begins.1 begins.2))

  -- behind one that isn't
  pub found-refused : ((xs : List (List ℕ)) (p : ℕ) → Tells (x ∷ xs) p → ⊥) → Begins Tells [] → (xs : List (List ℕ)) → IsFound Tells (x ∷ xs) (Broken 0)
  found-refused never some xs = record {
    none = never xs;
    within = omega arith;
    begun = some;
    greatest = greatest;
  }
    where
      greatest : (m : ℕ) → m ≤ length (x ∷ xs) → Begins Tells (take m (x ∷ xs)) → m ≤ 0
      greatest zero few begins = omega arith
      greatest (suc m) few begins = absurd (never (take m xs ++ begins.0) begins.1 begins.2)

-- of no texts
pub found-none : (Tells : List (List ℕ) → ℕ → Type 0) → ((p : ℕ) → Tells [] p → ⊥) → Begins Tells [] → IsFound Tells [] (Broken 0)
found-none Tells never some = record {
  none = never;
  within = omega arith;
  begun = some;
  greatest = λ m few begins. few;
}

-- behind several
pub later-adds : (m n : ℕ) (r : Found) → later m (later n r) ≡ later (m + n) r
later-adds m n (Reached to) = refl
later-adds m n (Broken k) = let e : m + (n + k) ≡ m + n + k = omega arith in ap (λ (j : ℕ). Broken j) e

pub later-none : (r : Found) → later 0 r ≡ r
later-none (Reached to) = refl
later-none (Broken k) = let e : 0 + k ≡ k = omega arith in ap (λ (j : ℕ). Broken j) e

-- ---- behind given texts

pub behind_none : (Tells : List (List ℕ) → ℕ → Type 0) (texts : List (List ℕ)) (r : Found) → IsFound Tells texts r → IsFound (Behind [] Tells) texts r
behind_none Tells texts r is =
    found-same Tells (Behind [] Tells) (λ xs p tells. (xs, refl, tells), λ xs p behind. subst (λ (l : List (List ℕ)). Tells l p) (sym behind.1) behind.2) texts r is

behind_cons : (Tells : List (List ℕ) → ℕ → Type 0) (o : List ℕ) (first texts : List (List ℕ)) (r : Found) → IsFound (Behind first Tells) texts r
    → IsFound (Behind (o ∷ first) Tells) (o ∷ texts) (later 1 r)
behind_cons Tells o first texts r is = found-step (Behind (o ∷ first) Tells) o (Behind first Tells) only (λ xs p behind. (behind.0, ap (λ (l : List (List ℕ)). o ∷ l) behind.1, behind.2)) texts r is
  where
    tails_are : (x y : List ℕ) (xs ys : List (List ℕ)) → x ∷ xs ≡ y ∷ ys → xs ≡ ys
    tails_are x y xs ys e = cc

    only : (xs : List (List ℕ)) (p : ℕ) → Behind (o ∷ first) Tells (o ∷ xs) p → Behind first Tells xs p
    only xs p behind = (behind.0, tails_are o o xs (first ++ behind.0) behind.1, behind.2)

-- where they stand first, what is found is found of the texts behind them
pub found_behind : (Tells : List (List ℕ) → ℕ → Type 0) (first texts : List (List ℕ)) (r : Found) → IsFound Tells texts r → IsFound (Behind first Tells) (first ++ texts) (later (length first) r)
found_behind Tells [] texts r is = subst (IsFound (Behind [] Tells) texts) (sym (later-none r)) (behind_none Tells texts r is)
found_behind Tells (o ∷ first) texts r is =
    let e : 1 + length first ≡ length (o ∷ first) = omega arith in
    subst (IsFound (Behind (o ∷ first) Tells) (o ∷ first ++ texts)) (later-adds 1 (length first) r ∙ ap (λ (n : ℕ). later n r) e)
    (behind_cons Tells o first (first ++ texts) (later (length first) r) (found_behind Tells first texts r is))

pub behind_some : (Tells : List (List ℕ) → ℕ → Type 0) (first : List (List ℕ)) → Begins Tells [] → Begins (Behind first Tells) []
behind_some Tells first some = (first ++ some.0, some.1, (some.0, refl, some.2))

otherwise_found : (Tells : List (List ℕ) → ℕ → Type 0) (o : List ℕ) (others texts : List (List ℕ)) → Begins Tells [] → BeginsOtherwise o texts → IsFound (Behind (o ∷ others) Tells) texts (Broken 0)
otherwise_found Tells o others [] some other = found-none (Behind (o ∷ others) Tells) (λ p behind. none behind.0 behind.1) (behind_some Tells (o ∷ others) some)
  where
    none : (more : List (List ℕ)) → [] ≡ o ∷ others ++ more → ⊥
    none more e = cc
otherwise_found Tells o others (x ∷ xs) some other = found-refused (Behind (o ∷ others) Tells) x (λ ys p behind. other (heads ys (others ++ behind.0) behind.1)) (behind_some Tells (o ∷ others) some) xs
  where
    heads : (ys zs : List (List ℕ)) → x ∷ ys ≡ o ∷ zs → x ≡ o
    heads ys zs e = cc

partly : (Tells : List (List ℕ) → ℕ → Type 0) (good : List (List ℕ)) (o : List ℕ) (others texts : List (List ℕ)) → Begins Tells [] → BeginsOtherwise o texts
    → IsFound (Behind (good ++ o ∷ others) Tells) (good ++ texts) (Broken (length good))
partly Tells [] o others texts some other = otherwise_found Tells o others texts some other
partly Tells (g ∷ good) o others texts some other =
    let e : 1 + length good ≡ length (g ∷ good) = omega arith in
    subst (λ (n : ℕ). IsFound (Behind (g ∷ good ++ o ∷ others) Tells) (g ∷ good ++ texts) (Broken n)) e
    (behind_cons Tells g (good ++ o ∷ others) (good ++ texts) (Broken (length good)) (partly Tells good o others texts some other))

-- where only some of them do, no more are good
pub found_partly : (Tells : List (List ℕ) → ℕ → Type 0) (first texts : List (List ℕ)) (n : ℕ) → Begins Tells [] → ArePartly first texts n → IsFound (Behind first Tells) texts (Broken n)
found_partly Tells first texts n some is =
    subst (λ (f : List (List ℕ)). IsFound (Behind f Tells) texts (Broken n)) (sym is.parted)
    (subst (λ (m : ℕ). IsFound (Behind (is.good ++ is.missed ∷ is.others) Tells) texts (Broken m)) (sym is.counted)
    (subst (λ (l : List (List ℕ)). IsFound (Behind (is.good ++ is.missed ∷ is.others) Tells) l (Broken (length is.good))) (sym is.agree)
    (partly Tells is.good is.missed is.others (drop n texts) some is.otherwise)))

-- and where all do
pub found_first : (Tells : List (List ℕ) → ℕ → Type 0) (first texts : List (List ℕ)) (n : ℕ) (r : Found) → AreFirst first texts n → IsFound Tells (drop n texts) r → IsFound (Behind first Tells) texts (later n r)
found_first Tells first texts n r is found =
    subst (λ (l : List (List ℕ)). IsFound (Behind first Tells) l (later n r)) (sym is.agree)
    (subst (λ (m : ℕ). IsFound (Behind first Tells) (first ++ drop n texts) (later m r)) (sym is.counted)
    (found_behind Tells first (drop n texts) r found))

-- given texts behind given texts
pub behind_both : (Tells : List (List ℕ) → ℕ → Type 0) (first second texts : List (List ℕ)) (r : Found) → IsFound (Behind first (Behind second Tells)) texts r → IsFound (Behind (first ++ second) Tells) texts r
behind_both Tells first second texts r is = found-same (Behind first (Behind second Tells)) (Behind (first ++ second) Tells) (
  λ xs p behind. (behind.2.0, behind.1 ∙ ap (λ (l : List (List ℕ)). first ++ l) behind.2.1 ∙ sym (append_assoc first second behind.2.0), behind.2.2),
  λ xs p behind. (second ++ behind.0, behind.1 ∙ append_assoc first second behind.0, (behind.0, refl, behind.2)),
) texts r is
