-- What one line more makes of what is read behind it.
use Rattle.std.proofs.Common.{◌≡◌, ℕ, ◌<◌, ◌≤◌, List, [], ◌∷◌, map, inl, inr, refl, sym, ◌∙◌, subst, arith}
use Rattle.std.specs.List.{AllByRecursion}
use Rattle.std.proofs.lemmas.List.Elements.{recursion_from_All}
use Rattle.select_all.specs.Streams.{TransitionData}
use Rattle.body_check.specs.declared.found.Found.{Found}
use Rattle.body_check.specs.declared.found.Found.TheVariants.{Reached, Broken}
use Rattle.body_check.specs.Findings.{Begins, IsFound, later}
use Rattle.body_check.specs.Reading.{Course, highest, IsMark, IsLoss, Reads, IsNext, IsUnderWay, AreToldApart}
use Rattle.body_check.proofs.Findings.{found-step, found-refused, found-none}

module _ (c : Course) where
  -- ---- something may always follow: all the transitions

  some_from : (rest : List TransitionData) (low : ℕ) → low ≤ c.stop → AllByRecursion (λ (t : TransitionData). t.rev ≤ c.stop) rest → Reads c rest low (map c.told rest) c.stop
  some_from [] low fits all = (fits, omega arith)
  some_from (t ∷ more) low fits all = inl (refl, some_from more t.rev all.0 all.1)

  pub reads_some : (rest : List TransitionData) (low : ℕ) → IsUnderWay c rest low → Begins (Reads c rest low) []
  reads_some rest low is = (map c.told rest, c.stop, some_from rest low is.position (recursion_from_All (λ (t : TransitionData). t.rev ≤ c.stop) rest is.untold))

  -- ---- no line is left

  pub found_whole : (rest : List TransitionData) (low : ℕ) → low ≤ highest c rest → IsFound (Reads c rest low) [] (Reached low)
  found_whole rest low fits = record { told = (omega arith, fits); least = λ p reads. reads.0 }

  pub found_within : (rest : List TransitionData) (low : ℕ) → highest c rest < low → IsUnderWay c rest low → IsFound (Reads c rest low) [] (Broken 0)
  found_within rest low past is = found-none (Reads c rest low) (λ p reads. omega (arith, reads.0, reads.1)) (reads_some rest low is)

module _ (c : Course) (apart : AreToldApart c) where
  -- ---- the next transition

  pub found_told : (t : TransitionData) (more : List TransitionData) (low : ℕ) (x : List ℕ) (xs : List (List ℕ)) (r : Found) → x ≡ c.told t
      → IsFound (Reads c more t.rev) xs r → IsFound (Reads c (t ∷ more) low) (x ∷ xs) (later 1 r)
  found_told t more low x xs r is found = found-step (Reads c (t ∷ more) low) x (Reads c more t.rev) only (λ ys p reads. inl (is, reads)) xs r found
    where
      only : (ys : List (List ℕ)) (p : ℕ) → Reads c (t ∷ more) low (x ∷ ys) p → Reads c more t.rev ys p
      only ys p (inl told) = told.1
      only ys p (inr (inl mark)) = absurd (apart.told_mark t mark.0 (sym is ∙ mark.1.text_is))
      only ys p (inr (inr loss)) = absurd (apart.told_lost t p loss.0.floor (sym is ∙ loss.0.text_is))

  -- ---- a bookmark

  pub mark_only : (rest : List TransitionData) (low : ℕ) (x : List ℕ) (at : ℕ) → IsMark c rest low x at → (ys : List (List ℕ)) (p : ℕ) → Reads c rest low (x ∷ ys) p → Reads c rest at ys p
  mark_only [] low x at is ys p (inl mark) = subst (λ (b : ℕ). Reads c [] b ys p) (apart.marks mark.0 at mark.1.reached is.reached (sym mark.1.text_is ∙ is.text_is)) mark.2
  mark_only [] low x at is ys p (inr loss) = absurd (apart.mark_lost at p loss.0.floor (sym is.text_is ∙ loss.0.text_is))
  mark_only (t ∷ more) low x at is ys p (inl told) = absurd (apart.told_mark t at (sym told.0 ∙ is.text_is))
  mark_only (t ∷ more) low x at is ys p (inr (inl mark)) = subst (λ (b : ℕ). Reads c (t ∷ more) b ys p) (apart.marks mark.0 at mark.1.reached is.reached (sym mark.1.text_is ∙ is.text_is)) mark.2
  mark_only (t ∷ more) low x at is ys p (inr (inr loss)) = absurd (apart.mark_lost at p loss.0.floor (sym is.text_is ∙ loss.0.text_is))

  mark_does : (rest : List TransitionData) (low : ℕ) (x : List ℕ) (at : ℕ) → IsMark c rest low x at → (ys : List (List ℕ)) (p : ℕ) → Reads c rest at ys p → Reads c rest low (x ∷ ys) p
  mark_does [] low x at is ys p reads = inl (at, is, reads)
  mark_does (t ∷ more) low x at is ys p reads = inr (inl (at, is, reads))

  pub found_mark : (rest : List TransitionData) (low : ℕ) (x : List ℕ) (at : ℕ) (xs : List (List ℕ)) (r : Found) → IsMark c rest low x at
      → IsFound (Reads c rest at) xs r → IsFound (Reads c rest low) (x ∷ xs) (later 1 r)
  found_mark rest low x at xs r is found = found-step (Reads c rest low) x (Reads c rest at) (mark_only rest low x at is) (mark_does rest low x at is) xs r found

  -- ---- a loss, which is the last line

  abbrev Ended : ℕ → List (List ℕ) → ℕ → Type 0
  Ended at xs p = (xs ≡ []) × (p ≡ at)

  loss_only : (rest : List TransitionData) (low : ℕ) (x : List ℕ) (at : ℕ) → IsLoss c rest low x at → (ys : List (List ℕ)) (p : ℕ) → Reads c rest low (x ∷ ys) p → (ys ≡ []) × (p ≡ at)
  loss_only [] low x at is ys p (inl mark) = absurd (apart.mark_lost mark.0 at is.floor (sym mark.1.text_is ∙ is.text_is))
  loss_only [] low x at is ys p (inr loss) = (loss.1, apart.losses p loss.0.floor at is.floor loss.0.borne is.borne (sym loss.0.text_is ∙ is.text_is))
  loss_only (t ∷ more) low x at is ys p (inl told) = absurd (apart.told_lost t at is.floor (sym told.0 ∙ is.text_is))
  loss_only (t ∷ more) low x at is ys p (inr (inl mark)) = absurd (apart.mark_lost mark.0 at is.floor (sym mark.1.text_is ∙ is.text_is))
  loss_only (t ∷ more) low x at is ys p (inr (inr loss)) = (loss.1, apart.losses p loss.0.floor at is.floor loss.0.borne is.borne (sym loss.0.text_is ∙ is.text_is))

  pub loss_does : (rest : List TransitionData) (low : ℕ) (x : List ℕ) (at : ℕ) → IsLoss c rest low x at → (ys : List (List ℕ)) (p : ℕ) → (ys ≡ []) × (p ≡ at) → Reads c rest low (x ∷ ys) p
  loss_does rest low x at is ys p ended = subst (λ (z : List (List ℕ)). Reads c rest low (x ∷ z) p) (sym ended.0) (subst (λ (q : ℕ). Reads c rest low (x ∷ []) q) (sym ended.1) (here rest is))
    where
      here : (others : List TransitionData) → IsLoss c others low x at → Reads c others low (x ∷ []) at
      here [] loss = inr (loss, refl)
      here (t ∷ more) loss = inr (inr (loss, refl))

  pub found_lost : (rest : List TransitionData) (low : ℕ) (x : List ℕ) (at : ℕ) → IsLoss c rest low x at → IsFound (Reads c rest low) (x ∷ []) (Reached at)
  found_lost rest low x at is =
      record { told = loss_does rest low x at is [] at (refl, refl); least = λ p reads. let e = loss_only rest low x at is [] p reads in omega (arith, e.1) }

  pub found_past : (rest : List TransitionData) (low : ℕ) (x : List ℕ) (at : ℕ) (y : List ℕ) (ys : List (List ℕ)) → IsLoss c rest low x at → IsFound (Reads c rest low) (x ∷ y ∷ ys) (Broken 1)
  found_past rest low x at y ys is =
      found-step (Reads c rest low) x (Ended at) (loss_only rest low x at is) (loss_does rest low x at is) (y ∷ ys) (Broken 0)
      (found-refused (Ended at) y (λ xs p ended. cons_is_some y xs ended.0) ([], at, (refl, refl)) ys)
    where
      cons_is_some : (z : List ℕ) (zs : List (List ℕ)) → z ∷ zs ≡ [] → ⊥
      cons_is_some z zs e = cc

module _ (c : Course) where
  -- ---- none of these

  neither : (rest : List TransitionData) (low : ℕ) (x : List ℕ) → (IsNext c rest x → ⊥) → ((at : ℕ) → IsMark c rest low x at → ⊥) → ((at : ℕ) → IsLoss c rest low x at → ⊥)
      → (ys : List (List ℕ)) (p : ℕ) → Reads c rest low (x ∷ ys) p → ⊥
  neither [] low x next mark loss ys p (inl is) = mark is.0 is.1
  neither [] low x next mark loss ys p (inr is) = loss p is.0
  neither (t ∷ more) low x next mark loss ys p (inl is) = next is.0
  neither (t ∷ more) low x next mark loss ys p (inr (inl is)) = mark is.0 is.1
  neither (t ∷ more) low x next mark loss ys p (inr (inr is)) = loss p is.0

  pub found_neither : (rest : List TransitionData) (low : ℕ) (x : List ℕ) (xs : List (List ℕ)) → IsUnderWay c rest low
      → (IsNext c rest x → ⊥) → ((at : ℕ) → IsMark c rest low x at → ⊥) → ((at : ℕ) → IsLoss c rest low x at → ⊥) → IsFound (Reads c rest low) (x ∷ xs) (Broken 0)
  found_neither rest low x xs is next mark loss = found-refused (Reads c rest low) x (neither rest low x next mark loss) (reads_some c rest low is) xs
