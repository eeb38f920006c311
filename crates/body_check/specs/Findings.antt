-- What reading texts finds: whether they are of a language, which is told by the position that each of its texts
-- reaches, and else how many of them begin texts that are.
use Rattle.std.specs.Prelude.{◌≡◌, ℕ, ◌+◌, ◌≤◌, List, [], ◌∷◌, ◌++◌, length, take, drop, Result, Ok, Err}
use Rattle.body_check.specs.declared.found.Found.{Found}
use Rattle.body_check.specs.declared.found.Found.TheVariants.{Reached, Broken}

-- what follows the texts makes them texts of the language
abbrev pub Begins : (List (List ℕ) → ℕ → Type 0) → List (List ℕ) → Type 0
Begins Tells texts = (more : List (List ℕ)) × (p : ℕ) × Tells (texts ++ more) p

-- The texts are of the language, and this is the least position that they reach.
pub record IsReachedBy (Tells : List (List ℕ) → ℕ → Type 0) (texts : List (List ℕ)) (to : ℕ) : Type 0 where
  pub told : Tells texts to
  pub least : (p : ℕ) → Tells texts p → to ≤ p

-- They aren't, and this is the greatest number of them that begins texts of it.
pub record IsBrokenAt (Tells : List (List ℕ) → ℕ → Type 0) (texts : List (List ℕ)) (n : ℕ) : Type 0 where
  pub none : (p : ℕ) → Tells texts p → ⊥
  pub within : n ≤ length texts
  pub begun : Begins Tells (take n texts)
  pub greatest : (m : ℕ) → m ≤ length texts → Begins Tells (take m texts) → m ≤ n

abbrev pub IsFound : (List (List ℕ) → ℕ → Type 0) → List (List ℕ) → Found → Type 0
IsFound Tells texts (Reached to) = IsReachedBy Tells texts to
IsFound Tells texts (Broken n) = IsBrokenAt Tells texts n

-- what is found of texts behind n others
abbrev pub later : ℕ → Found → Found
later n (Reached to) = Reached to
later n (Broken m) = Broken (n + m)

-- first these texts, and then one of the language
abbrev pub Behind : List (List ℕ) → (List (List ℕ) → ℕ → Type 0) → List (List ℕ) → ℕ → Type 0
Behind first Tells texts p = (more : List (List ℕ)) × (texts ≡ first ++ more) × Tells more p

-- ---- how far texts agree with others

-- they don't begin with this one
abbrev pub BeginsOtherwise : List ℕ → List (List ℕ) → Type 0
BeginsOtherwise x [] = Unit {0}
BeginsOtherwise x (y ∷ more) = y ≡ x → ⊥

-- the others stand first
pub record AreFirst (first texts : List (List ℕ)) (n : ℕ) : Type 0 where
  pub counted : n ≡ length first
  pub agree : texts ≡ first ++ drop n texts

-- the first n of the others stand first, and not the next one
pub record ArePartly (first texts : List (List ℕ)) (n : ℕ) : Type 0 where
  pub good : List (List ℕ)
  pub missed : List ℕ
  pub others : List (List ℕ)
  pub counted : n ≡ length good
  pub parted : first ≡ good ++ missed ∷ others
  pub agree : texts ≡ good ++ drop n texts
  pub otherwise : BeginsOtherwise missed (drop n texts)

-- whether they stand first, by the number of those that do
abbrev pub AreCompared : List (List ℕ) → List (List ℕ) → Result ℕ ℕ → Type 0
AreCompared first texts (Ok n) = AreFirst first texts n
AreCompared first texts (Err n) = ArePartly first texts n

-- how many lines are good, where not all are
abbrev pub good_of : Found → ℕ
good_of (Reached to) = 0
good_of (Broken n) = n
