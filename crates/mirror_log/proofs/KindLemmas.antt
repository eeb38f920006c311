-- Lines of an object, and what stands of it.
use Rattle.std.proofs.Common.{◌≡◌, ℕ, Bool, true, false, not, List, [], ◌∷◌, fold, Option, bytes_eq, is_some, refl, sym, ap, ◌∙◌, subst, inl, inr, arith, suc, zero}
use Rattle.std.specs.Prelude.{◌&&◌, ◌||◌, AllPairs}
use Rattle.std.specs.List.{AllByRecursion}
use Rattle.std.proofs.lemmas.Bool.{cases_Bool, not-true}
use Rattle.std.proofs.lemmas.Cmp.{nat_list_eq_equiv}
use Rattle.std.proofs.lemmas.List.Elements.{recursion_from_All}
use Rattle.std.proofs.lemmas.Slice.Eq.{bytes_eq-Decides}
use Rattle.kube_meta.specs.declared.objects.Obj.{Obj}
use Rattle.kube_meta.specs.Rows.{RowData}
use Rattle.select_all.specs.declared.selection.Kind.{Kind}
use Rattle.select_all.specs.declared.selection.Kind.TheVariants.{Added, Modified, Deleted}
use Rattle.select_all.specs.Listings.{row_left, row_told}
use Rattle.select_all.specs.Streams.{TransitionData, Standing}
use Rattle.mirror_log.specs.Intakes.{same_kind, fits_kind, is_of, tells}

pub and_false : (b : Bool) → (b && false) ≡ false
and_false true = refl
and_false false = refl

pub or_false : (b : Bool) → (b || false) ≡ b
or_false true = refl
or_false false = refl

pub and_true : (b : Bool) → (b && true) ≡ b
and_true true = refl
and_true false = refl

-- no later line is of the object of an earlier one
abbrev pub AreApart : List TransitionData → Type 0
AreApart [] = Unit {0}
AreApart (t ∷ lines) = AllByRecursion (λ u. is_of u.obj.key t ≡ false) lines × AreApart lines

pub apart : (lines : List TransitionData) → AllPairs (λ t u. is_of u.obj.key t ≡ false) lines → AreApart lines
apart [] pairs = tt
apart (t ∷ lines) pairs = (
  recursion_from_All (λ u. is_of u.obj.key t ≡ false) lines (λ j d below. pairs zero (suc j) d (omega arith) (omega (arith, below))),
  apart lines (λ i j d less below. pairs (suc i) (suc j) d (omega (arith, less)) (omega (arith, below))),
)

-- ---- lines of other objects

-- if the first line is of the object, no other is
pub others : (key : List ℕ) (t : TransitionData) (lines : List TransitionData) → is_of key t ≡ true → AllByRecursion (λ u. is_of u.obj.key t ≡ false) lines
    → AllByRecursion (λ u. is_of key u ≡ false) lines
others key t [] here later = tt
others key t (u ∷ lines) here later = (
  nat_list_eq_equiv.symm u.obj.key key ∙ subst (λ (k : List ℕ). bytes_eq k u.obj.key ≡ false) ((bytes_eq-Decides t.obj.key key).0 here) later.0,
  others key t lines here later.1,
)

-- they change no row
pub past : (key : List ℕ) (row : Option RowData) (lines : List TransitionData) → AllByRecursion (λ t. is_of key t ≡ false) lines → fold (row_told key) row lines ≡ row
past key row [] none = refl
past key row (t ∷ lines) none = rw none.0 (past key row lines none.1)

-- and tell nothing of it
pub tells_none : (kind : Kind) (key : List ℕ) (lines : List TransitionData) → AllByRecursion (λ t. is_of key t ≡ false) lines → tells kind lines key ≡ false
tells_none kind key [] none = refl
tells_none kind key (t ∷ lines) none = rw (none.0, and_false (same_kind t.kind kind)) (tells_none kind key lines none.1)

-- ---- kinds

-- each line fits what stands
abbrev pub AllFit : Standing → List TransitionData → Type 0
AllFit rows lines = AllByRecursion (λ t. fits_kind t.kind (is_some (rows t.obj.key)) ≡ true) lines

-- an object that is added wasn't there
pub added_new : (rows : Standing) (key : List ℕ) (lines : List TransitionData) → AllFit rows lines → tells Added lines key ≡ true → is_some (rows key) ≡ false
added_new rows key [] fit told = cc
added_new rows key (t ∷ lines) fit told = elim (cases_Bool (is_of key t)) [
  | inl here ↦ one t.kind refl here (λ (more : tells Added lines key ≡ true). added_new rows key lines fit.1 more)
  | inr other ↦ added_new rows key lines fit.1 (sym (rw (other, and_false (same_kind t.kind Added)) refl) ∙ told)
]
  where
    fits : is_of key t ≡ true → fits_kind t.kind (is_some (rows key)) ≡ true
    fits here = subst (λ (k : List ℕ). fits_kind t.kind (is_some (rows k)) ≡ true) ((bytes_eq-Decides t.obj.key key).0 here) fit.0

    rest : (kind : Kind) → t.kind ≡ kind → same_kind kind Added ≡ false → tells Added lines key ≡ true
    rest kind is isnt = sym (rw (is, isnt) refl) ∙ told

    one : (kind : Kind) → t.kind ≡ kind → is_of key t ≡ true → (tells Added lines key ≡ true → is_some (rows key) ≡ false) → is_some (rows key) ≡ false
    one Added is here next = not-true (is_some (rows key)) (ap (λ k. fits_kind k (is_some (rows key))) (sym is) ∙ fits here)
    one Modified is here next = next (rest Modified is refl)
    one Deleted is here next = next (rest Deleted is refl)

-- what stands, of the keys that stand or are added
pub stood_before : (rows : Standing) (key : List ℕ) (lines : List TransitionData) → AllFit rows lines →
    ((is_some (rows key) || tells Added lines key) && not (tells Added lines key)) ≡ is_some (rows key)
stood_before rows key lines fit = elim (cases_Bool (tells Added lines key)) [
  | inl told ↦ rw (told, added_new rows key lines fit told) refl
  | inr not_told ↦ rw (not_told, or_false (is_some (rows key)), and_true (is_some (rows key))) refl
]

left_by : (kind : Kind) (obj : Obj) (rev : ℕ) (stood : Bool) → fits_kind kind stood ≡ true →
    ((stood || ((same_kind kind Added && true) || false)) && not ((same_kind kind Deleted && true) || false)) ≡ is_some (row_left (record { kind = kind; obj = obj; rev = rev }))
left_by Added obj rev true fits = refl
left_by Added obj rev false fits = refl
left_by Modified obj rev true fits = refl
left_by Modified obj rev false fits = cc
left_by Deleted obj rev true fits = refl
left_by Deleted obj rev false fits = refl

-- what stands after the lines
pub stood_after : (rows : Standing) (key : List ℕ) (lines : List TransitionData) → AreApart lines → AllFit rows lines →
    ((is_some (rows key) || tells Added lines key) && not (tells Deleted lines key)) ≡ is_some (fold (row_told key) (rows key) lines)
stood_after rows key [] distinct fit = rw (or_false (is_some (rows key)), and_true (is_some (rows key))) refl
stood_after rows key (t ∷ lines) distinct fit = elim (cases_Bool (is_of key t)) [
  | inl here ↦
      let none = others key t lines here distinct.0 in
      let fits : fits_kind t.kind (is_some (rows key)) ≡ true = subst (λ (k : List ℕ). fits_kind t.kind (is_some (rows k)) ≡ true) ((bytes_eq-Decides t.obj.key key).0 here) fit.0 in
      rw (here, tells_none Added key lines none, tells_none Deleted key lines none, past key (row_left t) lines none) (left_by t.kind t.obj t.rev (is_some (rows key)) fits)
  | inr other ↦ rw (other, and_false (same_kind t.kind Added), and_false (same_kind t.kind Deleted)) (stood_after rows key lines distinct.1 fit.1)
]
