-- A map of rows by their keys, and what steps make of it.
use Rattle.std.proofs.Common.{◌≡◌, ℕ, true, false, cond, List, [], ◌∷◌, map, length, Option, Some, None, IfSome, All, bytes_eq, refl, sym, ap, ◌∙◌, subst, inl, inr, Result, Ok, Err, OnOk, OnErr, ◌+◌, ◌<◌, ◌≤◌, get_or, take, fold, zero, suc, is_some, arith}
use Rattle.std.specs.BTreeMap.{BTreeMap, IsOrdered, Updates, get, is_at, values}
use Rattle.std.specs.Map.{lookup, values_of, keys_of}
use Rattle.std.specs.Cmp.Lexicographic.{slice_cmp}
use Rattle.std.specs.Ordering.{nat_cmp}
use Rattle.std.specs.Option.{option_or}
use Rattle.std.proofs.lemmas.Cmp.{nat_list_cmp_total, nat_list_eq_equiv}
use Rattle.std.proofs.lemmas.Bool.{cases_Bool, false≢true}
use Rattle.std.proofs.lemmas.List.{take_more}
use Rattle.std.proofs.Math.Seq.{take-nil}
use Rattle.std.proofs.lemmas.List.Folds.{find-append}
use Rattle.std.proofs.lemmas.List.Sums.{fold_more}
use Rattle.std.proofs.lemmas.Map.Text.{is_eq-slice_cmp}
use Rattle.std.proofs.lemmas.Map.Views.{All-found}
use Rattle.std.proofs.lemmas.List.Elements.{All-head, All-tail, All-weaker}
use Rattle.std.proofs.lemmas.Slice.Eq.{bytes_eq-Decides}
use Rattle.kube_meta.specs.Rows.{RowData, key_of, row_with, AreRising}
use Rattle.kube_meta.specs.declared.objects.Obj.{Obj}
use Rattle.kube_meta.specs.declared.resources.Resource.{Resource}
use Rattle.kube_meta.specs.Resources.{same_resource}
use Rattle.rev_log.specs.Changes.{ChangeData, HasItsKey}
use Rattle.rev_log.specs.Rows.{Holds, Follows}
use Rattle.rev_log.specs.States.{row_after}

-- what stands at each key
abbrev pub Standing : Type 0
Standing = List ℕ → Option RowData

-- two ways to say what stands
pub Holds-same : (m : BTreeMap (List ℕ) RowData) (f g : Standing) → ((key : List ℕ) → f key ≡ g key) → Holds m f → Holds m g
Holds-same m f g same holds = record {
  ordered = holds.ordered;
  reads = λ key. holds.reads key ∙ same key;
  keyed = λ key. subst (λ row. IfSome row (λ r. key_of r ≡ key)) (same key) (holds.keyed key);
}

-- the key that a step is at, and every other one
at_key : (key other : List ℕ) → is_at (slice_cmp nat_cmp key) other ≡ bytes_eq other key
at_key key other = is_eq-slice_cmp key other ∙ nat_list_eq_equiv.symm key other

-- the row of a key is put
pub Follows-put : (m n : BTreeMap (List ℕ) RowData) (row : RowData) → IsOrdered (slice_cmp nat_cmp) n → Updates (slice_cmp nat_cmp) m n (key_of row) (Some row) → Follows m n (λ key old. cond (bytes_eq key (key_of row)) (Some row) old)
Follows-put m n row ordered updates stands holds = record {
  ordered = ordered;
  reads = λ key. updates.0 key ∙ ap (λ here. cond here (Some row) (get (slice_cmp nat_cmp) m key)) (at_key (key_of row) key) ∙ ap (cond (bytes_eq key (key_of row)) (Some row)) (holds.reads key);
  keyed = λ key. elim (cases_Bool (bytes_eq key (key_of row))) [
    | inl here ↦ rw here (sym ((bytes_eq-Decides key (key_of row)).0 here))
    | inr other ↦ rw other (holds.keyed key)
  ];
}

-- the row of a key is removed
pub Follows-remove : (m n : BTreeMap (List ℕ) RowData) (at : List ℕ) → IsOrdered (slice_cmp nat_cmp) n → Updates (slice_cmp nat_cmp) m n at None → Follows m n (λ key old. cond (bytes_eq key at) None old)
Follows-remove m n at ordered updates stands holds = record {
  ordered = ordered;
  reads = λ key. updates.0 key ∙ ap (λ here. cond here None (get (slice_cmp nat_cmp) m key)) (at_key at key) ∙ ap (cond (bytes_eq key at) None) (holds.reads key);
  keyed = λ key. elim (cases_Bool (bytes_eq key at)) [
    | inl here ↦ rw here tt
    | inr other ↦ rw other (holds.keyed key)
  ];
}

-- each entry of the map has its row's key
entry_keys : (m : BTreeMap (List ℕ) RowData) (stands : Standing) → Holds m stands → All (λ e. key_of e.1 ≡ e.0) m.entries
entry_keys m stands holds =
    All-weaker (λ e. get (slice_cmp nat_cmp) m e.0 ≡ Some e.1) (λ e. key_of e.1 ≡ e.0)
    (λ e found. subst (λ row. IfSome row (λ r. key_of r ≡ e.0)) {y = Some e.1} (sym (holds.reads e.0) ∙ found) (holds.keyed e.0))
    m.entries (All-found nat_list_cmp_total m holds.ordered)

keys_of_values : (es : List (List ℕ × RowData)) → All (λ e. key_of e.1 ≡ e.0) es → map key_of (values_of es) ≡ keys_of es
keys_of_values [] keyed = refl
keys_of_values (e ∷ es) keyed = λ i. All-head (λ e. key_of e.1 ≡ e.0) e es keyed i ∷ keys_of_values es (All-tail (λ e. key_of e.1 ≡ e.0) e es keyed) i

row_with_values : (es : List (List ℕ × RowData)) (key : List ℕ) → All (λ e. key_of e.1 ≡ e.0) es → row_with (values_of es) key ≡ lookup (is_at (slice_cmp nat_cmp key)) es
row_with_values [] key keyed = refl
row_with_values (e ∷ es) key keyed =
    rw (All-head (λ e. key_of e.1 ≡ e.0) e es keyed, row_with_values es key (All-tail (λ e. key_of e.1 ≡ e.0) e es keyed), is_eq-slice_cmp key e.0) refl

-- the values of the map, in order, are the rows that stand
pub values_rise : (m : BTreeMap (List ℕ) RowData) (stands : Standing) → Holds m stands → AreRising (values m)
values_rise m stands holds = rw (keys_of_values m.entries (entry_keys m stands holds)) holds.ordered

pub row_with-values : (m : BTreeMap (List ℕ) RowData) (stands : Standing) (key : List ℕ) → Holds m stands → row_with (values m) key ≡ stands key
row_with-values m stands key holds = row_with_values m.entries key (entry_keys m stands holds) ∙ holds.reads key

-- ---- steps

-- two steps that do the same to what stands
pub Follows-same : (m n : BTreeMap (List ℕ) RowData) (step other : List ℕ → Option RowData → Option RowData) → ((stands : Standing) → Holds m stands → (key : List ℕ) → step key (stands key) ≡ other key (stands key)) → Follows m n step → Follows m n other
Follows-same m n step other same follows stands holds = Holds-same n (λ key. step key (stands key)) (λ key. other key (stands key)) (same stands holds) (follows stands holds)

-- a fact of the one outcome, from another
pub on_ok : {A E : Type 0} (r : Result A E) {P Q : Type 0} → (P → Q) → OnOk r P → OnOk r Q
on_ok (Ok x) follows fact = follows fact
on_ok (Err e) follows fact = fact

pub on_err : {A E : Type 0} (r : Result A E) {P : Type 0} → P → OnErr r P
on_err (Ok x) fact = tt
on_err (Err e) fact = fact

-- the next row joins those so far, unless its key is there
pub row_with_more : (rows : List RowData) (i : ℕ) (row : RowData) (key : List ℕ) → i < length rows → row ≡ get_or rows i row → option_or (row_with (take i rows) key) (cond (bytes_eq key (key_of row)) (Some row) None) ≡ row_with (take (i + 1) rows) key
row_with_more rows i row key inside is =
    rw (take_more rows i row inside, ← is) (sym (find-append (λ r. bytes_eq key (key_of r)) (take i rows) (row ∷ [])))

-- one more step of a fold
pub fold_step : {A B : Type 0} (f : B → A → B) (b : B) (xs : List A) (i : ℕ) (x : A) → i < length xs → x ≡ get_or xs i x → f (fold f b (take i xs)) x ≡ fold f b (take (i + 1) xs)
fold_step f b xs i x inside is = ap (f (fold f b (take i xs))) is ∙ sym (fold_more f b xs i x inside)

-- all of the list
pub take_all : {A : Type 0} (xs : List A) (i : ℕ) → length xs ≤ i → take i xs ≡ xs
take_all [] i past = take-nil i
take_all (x ∷ xs) zero past = absurd (omega arith)
take_all (x ∷ xs) (suc i) past = ap (λ rest. x ∷ rest) (take_all xs i (omega arith))

-- ---- the first row of a key

or_none : {A : Type 0} (o : Option A) → option_or o None ≡ o
or_none None = refl
or_none (Some x) = refl

none_from : {A : Type 0} (o : Option A) → is_some o ≡ false → o ≡ None
none_from None e = refl
none_from (Some x) e = absurd (false≢true (sym e))

-- where no row has the key, this row becomes the one
pub Follows-put_first : (m n : BTreeMap (List ℕ) RowData) (row : RowData) → is_some (get (slice_cmp nat_cmp) m (key_of row)) ≡ false → Follows m n (λ key old. cond (bytes_eq key (key_of row)) (Some row) old) → Follows m n (λ key old. option_or old (cond (bytes_eq key (key_of row)) (Some row) None))
Follows-put_first m n row missing put = Follows-same m n (λ key old. cond (bytes_eq key (key_of row)) (Some row) old) (λ key old. option_or old (cond (bytes_eq key (key_of row)) (Some row) None)) same put
  where
    same : (stands : Standing) → Holds m stands → (key : List ℕ) → cond (bytes_eq key (key_of row)) (Some row) (stands key) ≡ option_or (stands key) (cond (bytes_eq key (key_of row)) (Some row) None)
    same stands holds key = elim (cases_Bool (bytes_eq key (key_of row))) [
      | inl here ↦
          let key_is : key ≡ key_of row = (bytes_eq-Decides key (key_of row)).0 here in
          let none : stands key ≡ None = rw key_is (sym (holds.reads (key_of row)) ∙ none_from _ missing) in
          rw (here, none) refl
      | inr other ↦ rw other (sym (or_none (stands key)))
    ]

-- ---- a change

-- an object that a change of the resource writes
pub Follows-written : (m n : BTreeMap (List ℕ) RowData) (resource : Resource) (change : ChangeData) (rev : ℕ) (obj : Obj) → same_resource change.resource resource ≡ true → change.new ≡ Some obj → HasItsKey change → Follows m n (λ key old. cond (bytes_eq key obj.key) (Some (record { obj = obj; rev = rev })) old) → Follows m n (λ key old. row_after resource key rev old change)
Follows-written m n resource change rev obj of written keyed put = Follows-same m n (λ key old. cond (bytes_eq key obj.key) (Some (record { obj = obj; rev = rev })) old) (λ key old. row_after resource key rev old change) (λ stands holds key.
    let keys : obj.key ≡ change.key = rw written at keyed in
    rw (of, written, nat_list_eq_equiv.symm change.key key, ← keys) refl) put

-- one that it removes
pub Follows-removed : (m n : BTreeMap (List ℕ) RowData) (resource : Resource) (change : ChangeData) (rev : ℕ) → same_resource change.resource resource ≡ true → change.new ≡ None → Follows m n (λ key old. cond (bytes_eq key change.key) None old) → Follows m n (λ key old. row_after resource key rev old change)
Follows-removed m n resource change rev of removed follows = Follows-same m n (λ key old. cond (bytes_eq key change.key) None old) (λ key old. row_after resource key rev old change) (λ stands holds key.
    rw (of, removed, nat_list_eq_equiv.symm change.key key) refl) follows
