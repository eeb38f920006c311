-- Rows in the order of their keys, and what steps make of them.
use Rattle.std.proofs.Common.{◌≡◌, ℕ, ◌+◌, ◌<◌, ◌≤◌, ◌&&◌, true, false, cond, List, [], ◌∷◌, length, get_or, take, fold, Option, Some, None, IfSome, option_map, bytes_eq, refl, sym, ap, ◌∙◌, subst}
use Rattle.std.proofs.lemmas.Cmp.{nat_list_eq_equiv}
use Rattle.kube_meta.specs.Rows.{RowData, key_of, row_with, AreRising}
use Rattle.kube_meta.specs.declared.objects.Obj.{Obj}
use Rattle.kube_meta.specs.declared.resources.Resource.{Resource}
use Rattle.kube_meta.specs.Resources.{same_resource}
use Rattle.obj_tree.specs.Maps.{with_row, without}
use Rattle.obj_tree.proofs.MapLemmas.{put_is_update, removal_is_update, put_stays_rising, removal_stays_rising}
use Rattle.rev_log.specs.Changes.{ChangeData, HasItsKey}
use Rattle.rev_log.specs.States.{row_after}
use Rattle.rev_log.proofs.MapLemmas.{fold_step, take_all}
use Rattle.up_store.specs.Kept.{AreStepped}
use Rattle.up_store.specs.Shared.{made_row}

take-none : {A : Type 0} (xs : List A) → take 0 xs ≡ []
take-none [] = refl
take-none (x ∷ xs) = refl

-- ---- folds of steps

-- none of them
pub stepped-none : {X : Type 0} (f : List ℕ → Option RowData → X → Option RowData) (rows : List RowData) (xs : List X) → AreStepped rows rows (λ key row. fold (f key) row (take 0 xs))
stepped-none f rows xs = record {
  rising = λ up. up;
  reads = λ key. ap (fold (f key) (row_with rows key)) {x = []} (sym (take-none xs));
}

-- one more
pub stepped-more : {X : Type 0} (f : List ℕ → Option RowData → X → Option RowData) (old mid new : List RowData) (xs : List X) (i : ℕ) (x : X) → i < length xs → x ≡ get_or xs i x →
    AreStepped old mid (λ key row. fold (f key) row (take i xs)) → AreStepped mid new (λ key row. f key row x) → AreStepped old new (λ key row. fold (f key) row (take (i + 1) xs))
stepped-more f old mid new xs i x inside is so_far next = record {
  rising = λ up. next.rising (so_far.rising up);
  reads = λ key. next.reads key ∙ ap (λ row. f key row x) (so_far.reads key) ∙ fold_step (f key) (row_with old key) xs i x inside is;
}

-- all of them
pub stepped-all : {X : Type 0} (f : List ℕ → Option RowData → X → Option RowData) (old new : List RowData) (xs : List X) (i : ℕ) → length xs ≤ i →
    AreStepped old new (λ key row. fold (f key) row (take i xs)) → AreStepped old new (λ key row. fold (f key) row xs)
stepped-all f old new xs i past so_far = record {
  rising = so_far.rising;
  reads = λ key. so_far.reads key ∙ ap (fold (f key) (row_with old key)) (take_all xs i past);
}

-- ---- a change

-- one of another resource makes nothing
pub stepped-other : (rows : List RowData) (resource : Resource) (change : ChangeData) (rev : ℕ) → same_resource change.resource resource ≡ false → AreStepped rows rows (λ key row. row_after resource key rev row change)
stepped-other rows resource change rev other = record {
  rising = λ up. up;
  reads = λ key. ap (λ mine. cond (mine && bytes_eq change.key key) (made_row rev change) (row_with rows key)) {x = false} (sym other);
}

-- the row that a change makes has the change's key
row-key : (rev : ℕ) (new : Option Obj) (key : List ℕ) (row : RowData) → Some row ≡ option_map (λ obj. record { obj = obj; rev = rev }) new → IfSome new (λ obj. obj.key ≡ key) → key_of row ≡ key
row-key rev None key row made keyed = cc
row-key rev (Some obj) key row made keyed = let same : row ≡ record { obj = obj; rev = rev } = cc in ap key_of same ∙ keyed

-- a row that a change of the resource makes is put
pub stepped-written : (old new : List RowData) (resource : Resource) (change : ChangeData) (rev : ℕ) (row : RowData) → same_resource change.resource resource ≡ true → HasItsKey change →
    Some row ≡ made_row rev change → new ≡ with_row old row → AreStepped old new (λ key row. row_after resource key rev row change)
stepped-written old new resource change rev row of keyed made put = record {
  rising = λ up. subst AreRising (sym put) (put_stays_rising old row up);
  reads = λ key.
      let here : bytes_eq key (key_of row) ≡ bytes_eq change.key key = ap (bytes_eq key) (row-key rev change.new change.key row made keyed) ∙ sym (nat_list_eq_equiv.symm change.key key) in
      ap (λ rows. row_with rows key) put ∙ put_is_update old row key
      ∙ ap (λ at. cond at (Some row) (row_with old key)) here
      ∙ ap (λ new_row. cond (bytes_eq change.key key) new_row (row_with old key)) made
      ∙ ap (λ mine. cond (mine && bytes_eq change.key key) (made_row rev change) (row_with old key)) {x = true} (sym of);
}

-- where it makes none the row of its key is removed
pub stepped-removed : (old new : List RowData) (resource : Resource) (change : ChangeData) (rev : ℕ) → same_resource change.resource resource ≡ true →
    None ≡ made_row rev change → new ≡ without old change.key → AreStepped old new (λ key row. row_after resource key rev row change)
stepped-removed old new resource change rev of made gone = record {
  rising = λ up. subst AreRising (sym gone) (removal_stays_rising old change.key up);
  reads = λ key.
      ap (λ rows. row_with rows key) gone ∙ removal_is_update old change.key key
      ∙ ap (λ at. cond at None (row_with old key)) (sym (nat_list_eq_equiv.symm change.key key))
      ∙ ap (λ new_row. cond (bytes_eq change.key key) new_row (row_with old key)) made
      ∙ ap (λ mine. cond (mine && bytes_eq change.key key) (made_row rev change) (row_with old key)) {x = true} (sym of);
}
