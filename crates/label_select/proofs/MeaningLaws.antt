-- The tests that compute a selector's meaning decide it.
use Rattle.std.proofs.Common.{◌≡◌, ℕ, zero, suc, ◌<◌, Bool, true, false, List, [], ◌∷◌, length, Option, Some, None, Decides, refl, sym, arith}
use Rattle.std.specs.Prelude.{◌&&◌, ◌||◌, not, is_some, IsNone, Contains, bytes_eq, slice_index_or}
use Rattle.std.specs.List.{list_all, list_any, AllByRecursion}
use Rattle.std.proofs.lemmas.List.Elements.{All-from_recursion, recursion_from_All}
use Rattle.std.proofs.lemmas.Slice.Eq.{bytes_eq-Decides}
use Rattle.kube_meta.specs.Labels.{Pairs, value_at}
use Rattle.label_select.specs.Values.{HasOneOf, has_one_of}
use Rattle.label_select.specs.Meaning.{Holds, Selects, holds, selects}
use Rattle.label_select.specs.declared.requirements.Requirement.{Requirement}
use Rattle.label_select.specs.declared.requirements.Requirement.TheVariants.{Exists, Absent, In, NotIn}

-- a test that fails decides what doesn't hold
pub not-Decides : {P : Type 0} (b : Bool) → Decides b P → Decides (not b) (¬ P)
not-Decides true d = (λ h. absurd (let wrong : false ≡ true = h in cc), λ n. absurd (n (d.0 refl)))
not-Decides false d = (λ h p. let wrong : false ≡ true = d.1 p in cc, λ n. refl)

and-Decides : {P Q : Type 0} (a b : Bool) → Decides a P → Decides b Q → Decides (a && b) (P × Q)
and-Decides true b d e = (λ h. (d.0 refl, e.0 h), λ w. e.1 w.1)
and-Decides false b d e = (λ h. absurd (let wrong : false ≡ true = h in cc), λ w. absurd (let wrong : false ≡ true = d.1 w.0 in cc))

all-Decides : {X : Type 0} (p : X → Bool) (P : X → Type 0) → ((x : X) → Decides (p x) (P x)) → (xs : List X) → Decides (list_all p xs) (AllByRecursion P xs)
all-Decides p P each [] = (λ _. tt, λ _. refl)
all-Decides p P each (x ∷ xs) = and-Decides (p x) (list_all p xs) (each x) (all-Decides p P each xs)

or_right : (x y : Bool) → y ≡ true → (x || y) ≡ true
or_right true y e = refl
or_right false y e = e

contains_later : (v w : List ℕ) (vs : List (List ℕ)) → Contains vs v → Contains (w ∷ vs) v
contains_later v w vs (k, lt, e) = (suc k, omega arith, e)

contains_by : (b : Bool) (v w : List ℕ) (vs : List (List ℕ)) → bytes_eq v w ≡ b → (b || list_any (bytes_eq v) vs) ≡ true → (list_any (bytes_eq v) vs ≡ true → Contains vs v) → Contains (w ∷ vs) v
contains_by true v w vs here e more = (0, omega arith, sym ((bytes_eq-Decides v w).0 here))
contains_by false v w vs here e more = contains_later v w vs (more e)

pub contains_from_any : (v : List ℕ) (vs : List (List ℕ)) → list_any (bytes_eq v) vs ≡ true → Contains vs v
contains_from_any v [] e = absurd (let wrong : false ≡ true = e in cc)
contains_from_any v (w ∷ vs) e = contains_by (bytes_eq v w) v w vs refl e (contains_from_any v vs)

pub any_from_contains : (v : List ℕ) (vs : List (List ℕ)) (k : ℕ) → k < length vs → slice_index_or vs k v ≡ v → list_any (bytes_eq v) vs ≡ true
any_from_contains v [] k lt e = absurd (omega arith)
any_from_contains v (w ∷ vs) zero lt e = rw ((bytes_eq-Decides v w).1 (sym e)) refl
any_from_contains v (w ∷ vs) (suc k) lt e = or_right (bytes_eq v w) (list_any (bytes_eq v) vs) (any_from_contains v vs k (omega arith) e)

has_one_of-Decides : (o : Option (List ℕ)) (vs : List (List ℕ)) → Decides (has_one_of o vs) (HasOneOf o vs)
has_one_of-Decides None vs = (λ h. let wrong : false ≡ true = h in cc, λ p. absurd p)
has_one_of-Decides (Some v) vs = (contains_from_any v vs, λ p. any_from_contains v vs p.0 p.1 p.2)

absent-Decides : (o : Option (List ℕ)) → Decides (not (is_some o)) (IsNone o)
absent-Decides None = (λ _. refl, λ _. refl)
absent-Decides (Some v) = (λ h. let wrong : false ≡ true = h in cc, λ p. let wrong : true ≡ false = p in cc)

holds-Decides : (labels : Pairs) (r : Requirement) → Decides (holds labels r) (Holds labels r)
holds-Decides labels (Exists key) = (λ h. h, λ h. h)
holds-Decides labels (Absent key) = absent-Decides (value_at labels key)
holds-Decides labels (In key vs) = has_one_of-Decides (value_at labels key) vs
holds-Decides labels (NotIn key vs) = not-Decides (has_one_of (value_at labels key) vs) (has_one_of-Decides (value_at labels key) vs)

pub selects-Decides : (labels : Pairs) (rs : List Requirement) → Decides (selects rs labels) (Selects rs labels)
selects-Decides labels rs =
    let d = all-Decides (holds labels) (Holds labels) (holds-Decides labels) rs in
    (λ h. All-from_recursion (Holds labels) rs (d.0 h), λ all. d.1 (recursion_from_All (Holds labels) rs all))
