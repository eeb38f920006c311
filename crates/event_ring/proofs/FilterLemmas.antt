-- What a test keeps of a list, and how much.
use Rattle.std.proofs.Common.{◌≡◌, ℕ, zero, suc, ◌+◌, ◌≤◌, ◌⊎◌, inl, inr, Bool, true, false, List, [], ◌∷◌, length, take, drop, map, refl, sym, ap, ◌∙◌, arith}
use Rattle.std.specs.Prelude.{filter, All, AllPairs}
use Rattle.std.proofs.lemmas.List.Elements.{All-cons, All-nil, All-head, All-tail}

pub either : (b : Bool) → (b ≡ true) ⊎ (b ≡ false)
either true = inl refl
either false = inr refl

pub not_both : (b : Bool) → b ≡ true → b ≡ false → ⊥
not_both b pass fail = let e : true ≡ false = sym pass ∙ fail in cc

module _ {X : Type 0} where
  pub filter-yes : (p : X → Bool) (x : X) (xs : List X) → p x ≡ true → filter p (x ∷ xs) ≡ x ∷ filter p xs
  filter-yes p x xs e = rw e refl

  pub filter-no : (p : X → Bool) (x : X) (xs : List X) → p x ≡ false → filter p (x ∷ xs) ≡ filter p xs
  filter-no p x xs e = rw e refl

  -- where all before a place fail, and all from it on pass
  pub filter-from : (p : X → Bool) (xs : List X) (k : ℕ) → All (λ x. p x ≡ false) (take k xs) → All (λ x. p x ≡ true) (drop k xs) → filter p xs ≡ drop k xs
  filter-from p [] zero fail pass = refl
  filter-from p [] (suc k) fail pass = refl
  filter-from p (x ∷ xs) zero fail pass =
      filter-yes p x xs (All-head (λ y. p y ≡ true) x xs pass)
      ∙ ap (λ rest. x ∷ rest) (filter-from p xs zero (All-nil (λ y. p y ≡ false)) (All-tail (λ y. p y ≡ true) x xs pass))
  filter-from p (x ∷ xs) (suc k) fail pass =
      filter-no p x xs (All-head (λ y. p y ≡ false) x (take k xs) fail)
      ∙ filter-from p xs k (All-tail (λ y. p y ≡ false) x (take k xs) fail) pass

  -- and the other way round
  pub filter-upto : (p : X → Bool) (xs : List X) (k : ℕ) → All (λ x. p x ≡ true) (take k xs) → All (λ x. p x ≡ false) (drop k xs) → filter p xs ≡ take k xs
  filter-upto p [] zero pass fail = refl
  filter-upto p [] (suc k) pass fail = refl
  filter-upto p (x ∷ xs) zero pass fail =
      filter-no p x xs (All-head (λ y. p y ≡ false) x xs fail)
      ∙ filter-upto p xs zero (All-nil (λ y. p y ≡ true)) (All-tail (λ y. p y ≡ false) x xs fail)
  filter-upto p (x ∷ xs) (suc k) pass fail =
      filter-yes p x xs (All-head (λ y. p y ≡ true) x (take k xs) pass)
      ∙ ap (λ rest. x ∷ rest) (filter-upto p xs k (All-tail (λ y. p y ≡ true) x (take k xs) pass) fail)

  -- at least as many pass as stand from a place on, where all of these do
  pub at_least : (p : X → Bool) (xs : List X) (n : ℕ) → All (λ x. p x ≡ true) (drop n xs) → length xs ≤ length (filter p xs) + n
  at_least p [] n pass = omega arith
  at_least p (x ∷ xs) zero pass =
      rw (filter-yes p x xs (All-head (λ y. p y ≡ true) x xs pass)) (omega (arith, at_least p xs zero (All-tail (λ y. p y ≡ true) x xs pass)))
  at_least p (x ∷ xs) (suc n) pass =
      let rest = at_least p xs n pass in
      elim (either (p x)) [
        | inl e ↦ rw (filter-yes p x xs e) (omega (arith, rest))
        | inr e ↦ rw (filter-no p x xs e) (omega (arith, rest))
      ]

  -- at most as many as stand from a place on, where none before it does
  pub at_most : (p : X → Bool) (xs : List X) (n : ℕ) → n ≤ length xs → All (λ x. p x ≡ false) (take n xs) → length (filter p xs) + n ≤ length xs
  at_most p [] n within fail = omega (arith, within)
  at_most p (x ∷ xs) zero within fail =
      let rest = at_most p xs zero (omega arith) (All-nil (λ y. p y ≡ false)) in
      elim (either (p x)) [
        | inl e ↦ rw (filter-yes p x xs e) (omega (arith, rest))
        | inr e ↦ rw (filter-no p x xs e) (omega (arith, rest))
      ]
  at_most p (x ∷ xs) (suc n) within fail =
      rw (filter-no p x xs (All-head (λ y. p y ≡ false) x (take n xs) fail)) (omega (arith, at_most p xs n (omega (arith, within)) (All-tail (λ y. p y ≡ false) x (take n xs) fail)))

  pub none_pass : (p : X → Bool) (xs : List X) → All (λ x. p x ≡ false) xs → filter p xs ≡ []
  none_pass p [] fail = refl
  none_pass p (x ∷ xs) fail = filter-no p x xs (All-head (λ y. p y ≡ false) x xs fail) ∙ none_pass p xs (All-tail (λ y. p y ≡ false) x xs fail)

  -- a weaker test keeps no fewer
  pub more_pass : (p q : X → Bool) (xs : List X) → ((x : X) → p x ≡ true → q x ≡ true) → length (filter p xs) ≤ length (filter q xs)
  more_pass p q [] weaker = omega arith
  more_pass p q (x ∷ xs) weaker =
      let rest = more_pass p q xs weaker in
      elim (either (p x)) [
        | inl e ↦ rw (filter-yes p x xs e, filter-yes q x xs (weaker x e)) (omega (arith, rest))
        | inr e ↦ elim (either (q x)) [
          | inl f ↦ rw (filter-no p x xs e, filter-yes q x xs f) (omega (arith, rest))
          | inr f ↦ rw (filter-no p x xs e, filter-no q x xs f) (omega (arith, rest))
        ]
      ]

  -- each passes one of two tests
  pub either_passes : (p q : X → Bool) (xs : List X) → All (λ x. (p x ≡ true) ⊎ (q x ≡ true)) xs → length xs ≤ length (filter p xs) + length (filter q xs)
  either_passes p q [] one = omega arith
  either_passes p q (x ∷ xs) one =
      let rest = either_passes p q xs (All-tail (λ y. (p y ≡ true) ⊎ (q y ≡ true)) x xs one) in
      elim (either (p x)) [
        | inl e ↦ elim (either (q x)) [
          | inl f ↦ rw (filter-yes p x xs e, filter-yes q x xs f) (omega (arith, rest))
          | inr f ↦ rw (filter-yes p x xs e, filter-no q x xs f) (omega (arith, rest))
        ]
        | inr e ↦ elim (All-head (λ y. (p y ≡ true) ⊎ (q y ≡ true)) x xs one) [
          | inl f ↦ absurd (not_both (p x) f e)
          | inr f ↦ rw (filter-no p x xs e, filter-yes q x xs f) (omega (arith, rest))
        ]
      ]

  -- what a test keeps of what another kept is no more than what it keeps of all
  pub filter-fewer : (p q : X → Bool) (xs : List X) → length (filter p (filter q xs)) ≤ length (filter p xs)
  filter-fewer p q [] = omega arith
  filter-fewer p q (x ∷ xs) =
      let rest = filter-fewer p q xs in
      elim (either (q x)) [
        | inl f ↦ elim (either (p x)) [
          | inl e ↦ rw (filter-yes q x xs f, filter-yes p x xs e, filter-yes p x (filter q xs) e) (omega (arith, rest))
          | inr e ↦ rw (filter-yes q x xs f, filter-no p x xs e, filter-no p x (filter q xs) e) (omega (arith, rest))
        ]
        | inr f ↦ elim (either (p x)) [
          | inl e ↦ rw (filter-no q x xs f, filter-yes p x xs e) (omega (arith, rest))
          | inr e ↦ rw (filter-no q x xs f, filter-no p x xs e) (omega (arith, rest))
        ]
      ]

  -- and it is the same, where the other drops nothing that passes
  pub filter-filter : (p q : X → Bool) (xs : List X) → All (λ x. q x ≡ false → p x ≡ false) xs → filter p (filter q xs) ≡ filter p xs
  filter-filter p q [] fail = refl
  filter-filter p q (x ∷ xs) fail =
      let rest = filter-filter p q xs (All-tail (λ y. q y ≡ false → p y ≡ false) x xs fail) in
      elim (either (q x)) [
        | inl f ↦ elim (either (p x)) [
          | inl e ↦ ap (filter p) (filter-yes q x xs f) ∙ filter-yes p x (filter q xs) e ∙ ap (λ r. x ∷ r) rest ∙ sym (filter-yes p x xs e)
          | inr e ↦ ap (filter p) (filter-yes q x xs f) ∙ filter-no p x (filter q xs) e ∙ rest ∙ sym (filter-no p x xs e)
        ]
        | inr f ↦ ap (filter p) (filter-no q x xs f) ∙ rest ∙ sym (filter-no p x xs (All-head (λ y. q y ≡ false → p y ≡ false) x xs fail f))
      ]

  -- the pairs of a list's first element, and those of the rest
  pub pairs-head : (R : X → X → Type 0) (x : X) (xs : List X) → AllPairs R (x ∷ xs) → All (R x) xs
  pairs-head R x xs pairs k d inside = pairs 0 (suc k) d (omega arith) (omega (arith, inside))

  pub pairs-tail : (R : X → X → Type 0) (x : X) (xs : List X) → AllPairs R (x ∷ xs) → AllPairs R xs
  pairs-tail R x xs pairs i j d order inside = pairs (suc i) (suc j) d (omega (arith, order)) (omega (arith, inside))

  -- a test that no element passes before one that fails cuts the list in two
  pub record Cut (p : X → Bool) (xs : List X) : Type 0 where
    pub place : ℕ
    pub within : place ≤ length xs
    pub fail : All (λ x. p x ≡ false) (take place xs)
    pub pass : All (λ x. p x ≡ true) (drop place xs)

  pub cut : (p : X → Bool) (xs : List X) → AllPairs (λ x y. p x ≡ true → p y ≡ true) xs → Cut p xs
  cut p [] pairs = record { place = 0; within = omega arith; fail = All-nil (λ x. p x ≡ false); pass = All-nil (λ x. p x ≡ true) }
  cut p (x ∷ xs) pairs =
      elim (either (p x)) [
        | inl e ↦ record {
          place = 0;
          within = omega arith;
          fail = All-nil (λ y. p y ≡ false);
          pass = All-cons (λ y. p y ≡ true) x xs e (λ k d inside. pairs-head (λ a b. p a ≡ true → p b ≡ true) x xs pairs k d inside e);
        }
        | inr e ↦
            let rest = cut p xs (pairs-tail (λ a b. p a ≡ true → p b ≡ true) x xs pairs) in
            record {
              place = suc rest.place;
              within = omega (arith, rest.within);
              fail = All-cons (λ y. p y ≡ false) x (take rest.place xs) e rest.fail;
              pass = rest.pass;
            }
      ]

pub filter-map : {X Y : Type 0} (p : Y → Bool) (f : X → Y) (xs : List X) → filter p (map f xs) ≡ map f (filter (λ x. p (f x)) xs)
filter-map p f [] = refl
filter-map {X} {Y} p f (x ∷ xs) =
    let q : X → Bool = λ y. p (f y) in
    elim (either (p (f x))) [
      | inl e ↦ filter-yes p (f x) (map f xs) e ∙ ap (λ r. f x ∷ r) (filter-map p f xs) ∙ ap (map f) (sym (filter-yes q x xs e))
      | inr e ↦ filter-no p (f x) (map f xs) e ∙ filter-map p f xs ∙ ap (map f) (sym (filter-no q x xs e))
    ]
