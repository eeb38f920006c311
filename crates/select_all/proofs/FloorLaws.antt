-- The floors of windows: that a search finds them, and how those of several sizes lie.
use Rattle.std.proofs.Common.{◌≡◌, ℕ, zero, suc, ◌+◌, ◌-◌, ◌<◌, ◌≤◌, ◌⊎◌, inl, inr, Bool, true, false, leb, ltb, drop, refl, sym, ap, ◌∙◌, subst, arith}
use Rattle.std.specs.Prelude.{◌&&◌, sum_by}
use Rattle.std.proofs.lemmas.Bool.{cases_lt, lt-ltb, ltb-true, le-leb, leb-true}
use Rattle.std.proofs.lemmas.List.Sums.{sum_by-take-drop}
use Rattle.std.proofs.lemmas.List.{drop-drop}
use Rattle.kube_meta.specs.declared.resources.Resource.{Resource}
use Rattle.rev_log.specs.Logs.{Log, upto, between}
use Rattle.select_all.specs.Floors.{changes_in, changes_between, IsPassed, IsFloorOk, IsRingFloor, is_passed, greatest, ring_floor, IsBetweenFloors}
use Rattle.select_all.specs.FloorLaws.{FloorsAreGreatest, FloorsAreBetween}

either : (x : Bool) → (x ≡ true) ⊎ (x ≡ false)
either true = inl refl
either false = inr refl

and_true : (x y : Bool) → (x && y) ≡ true → (x ≡ true) × (y ≡ true)
and_true true y e = (refl, e)
and_true false y e = absurd cc

both_true : (x y : Bool) → x ≡ true → y ≡ true → (x && y) ≡ true
both_true true y e f = f
both_true false y e f = absurd cc

module _ (log : Log) (resource : Resource) where
  passes : (many e v : ℕ) → is_passed log resource many e v ≡ true → IsPassed log resource many e v
  passes many e v held =
      let h = and_true (ltb 0 (changes_between log resource (v - 1) v)) (leb many (changes_between log resource v e)) held in
      record { changed = ltb-true 0 _ h.0; above = leb-true many _ h.1 }

  is_found : (many e v : ℕ) → IsPassed log resource many e v → is_passed log resource many e v ≡ true
  is_found many e v passed = both_true (ltb 0 (changes_between log resource (v - 1) v)) (leb many (changes_between log resource v e)) (lt-ltb 0 _ passed.changed) (le-leb many _ passed.above)

lt_or_same : (a b : ℕ) → a ≤ b → (a < b) ⊎ (a ≡ b)
lt_or_same a b le =
    elim (cases_lt a b) [
      | inl lt ↦ inl lt
      | inr ge ↦ inr (omega arith)
    ]

base_or_above : (base x : ℕ) → base ≤ x → (x ≡ base) ⊎ (base < x)
base_or_above base x le =
    elim (lt_or_same base x le) [
      | inl lt ↦ inr lt
      | inr e ↦ inl (sym e)
    ]

-- what a search downwards finds
record Found (test : ℕ → Bool) (base n x : ℕ) : Type 0 where
  from_base : base ≤ x
  is : (x ≡ base) ⊎ ((base < x) × (x ≤ base + n) × (test x ≡ true))
  last : (v : ℕ) → base < v → v ≤ base + n → test v ≡ true → v ≤ x

found : (test : ℕ → Bool) (base n : ℕ) → Found test base n (greatest test base n)
found test base zero = record { from_base = omega arith; is = inl refl; last = λ v above le e. omega arith }
found test base (suc n) =
    elim (either (test (base + suc n))) [
      | inl here ↦ rw here (record { from_base = omega arith; is = inr (omega arith, omega arith, here); last = λ v above le e. le })
      | inr isnt ↦
          let f = found test base n in
          rw isnt (record {
            from_base = f.from_base;
            is = elim f.is [ inl e ↦ inl e | inr h ↦ inr (h.0, omega (arith, h.1), h.2) ];
            last = λ v above le e. elim (lt_or_same v (base + suc n) le) [
              | inl lt ↦ f.last v above (omega (arith, lt)) e
              | inr same ↦ absurd (let wrong : true ≡ false = sym e ∙ ap test same ∙ isnt in cc)
            ];
          })
    ]

floors_found : (log : Log) (resource : Resource) (many base e : ℕ) → IsRingFloor log resource many base e (ring_floor log resource many base e)
floors_found log resource many base e =
    let f = found (is_passed log resource many e) base (e - base) in
    record {
      from_base = f.from_base;
      dropped = elim f.is [ inl same ↦ inl same | inr h ↦ inr (h.0, omega (arith, h.0, h.1), passes log resource many e _ h.2) ];
      keeps = λ v above le passed. f.last v above (omega (arith, above, le)) (is_found log resource many e v passed);
    }

-- a floor is at most one that keeps what it drops
at_most : (log : Log) (resource : Resource) (low high base e x y other : ℕ) → IsFloorOk log resource low high base e x → IsFloorOk log resource other low base e y → x ≤ y
at_most log resource low high base e x y other is keeper =
    elim is.dropped [
      | inl same ↦ omega (arith, same, keeper.from_base)
      | inr h ↦ keeper.keeps x h.0 h.1 h.2
    ]

floors_unique : (log : Log) (resource : Resource) (many base e x y : ℕ) → IsRingFloor log resource many base e x → IsRingFloor log resource many base e y → x ≡ y
floors_unique log resource many base e x y is is' =
    let le = at_most log resource many many base e x y many is is' in
    let ge = at_most log resource many many base e y x many is' is in
    omega (arith, le, ge)

pub are_greatest : FloorsAreGreatest
are_greatest log resource many base e x = (
  λ is. floors_unique log resource many base e x (ring_floor log resource many base e) is (floors_found log resource many base e),
  λ is. subst (IsRingFloor log resource many base e) (sym is) (floors_found log resource many base e),
)

-- fewer changes stand above a later revision
count_falls : (log : Log) (resource : Resource) (e x y : ℕ) → x ≤ y → changes_between log resource y e ≤ changes_between log resource x e
count_falls log resource e x y le =
    let later : (y - log.first) ≡ (x - log.first) + ((y - log.first) - (x - log.first)) = omega arith in
    let whole = sum_by-take-drop (changes_in resource) (between log x e) ((y - log.first) - (x - log.first)) in
    let same : drop ((y - log.first) - (x - log.first)) (between log x e) ≡ between log y e = drop-drop ((y - log.first) - (x - log.first)) (x - log.first) (upto log e) ∙ ap (λ n. drop n (upto log e)) (omega arith) in
    omega (arith, whole, ap (sum_by (changes_in resource)) same)

candidate_of : (log : Log) (resource : Resource) (low base e x : ℕ) → (x ≡ base) ⊎ ((base < x) × (x ≤ e) × IsPassed log resource low e x) → (x ≡ base) ⊎ (0 < changes_between log resource (x - 1) x)
candidate_of log resource low base e x (inl same) = inl same
candidate_of log resource low base e x (inr h) = inr h.2.changed

floor_between : (log : Log) (resource : Resource) (low high base e x : ℕ) → IsFloorOk log resource low high base e x → IsBetweenFloors log resource low high base e x
floor_between log resource low high base e x is =
    let top = floors_found log resource high base e in
    let bottom = floors_found log resource low base e in
    record {
      candidate = candidate_of log resource low base e x is.dropped;
      above = at_most log resource high high base e (ring_floor log resource high base e) x low top is;
      below = at_most log resource low high base e x (ring_floor log resource low base e) low is bottom;
    }

between_floor : (log : Log) (resource : Resource) (low high base e x : ℕ) → IsBetweenFloors log resource low high base e x → IsFloorOk log resource low high base e x
between_floor log resource low high base e x is =
    let top = floors_found log resource high base e in
    let bottom = floors_found log resource low base e in
    record {
      from_base = omega (arith, top.from_base, is.above);
      dropped = elim is.candidate [
        | inl same ↦ inl same
        | inr changes ↦ elim bottom.dropped [
          | inl same ↦ inl (omega (arith, same, is.below, top.from_base, is.above))
          | inr h ↦ elim (base_or_above base x (omega (arith, top.from_base, is.above))) [
            | inl same ↦ inl same
            | inr above ↦ inr (above, omega (arith, h.1, is.below), record { changed = changes; above = omega (arith, h.2.above, count_falls log resource e x (ring_floor log resource low base e) is.below) })
          ]
        ]
      ];
      keeps = λ v above le passed. omega (arith, top.keeps v above le passed, is.above);
    }

pub are_between : FloorsAreBetween
are_between log resource low high base e x = (floor_between log resource low high base e x, between_floor log resource low high base e x)
