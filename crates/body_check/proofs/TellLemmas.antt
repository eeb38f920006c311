-- What an event makes of a map of rows.
use Rattle.std.proofs.Common.{◌≡◌, ℕ, ◌+◌, ◌<◌, List, [], ◌∷◌, ◌++◌, length, get_or, drop, Option, Some, None, true, false, bytes_eq, cond, refl, sym, ap, ◌∙◌, subst, append_assoc, inl, inr, arith}
use Rattle.std.specs.Prelude.{nat_eq}
use Rattle.std.specs.BTreeMap.{BTreeMap}
use Rattle.std.proofs.lemmas.Bool.{cases_Bool, false_from_ne_true, eq-eqb, ne_eqb}
use Rattle.std.proofs.lemmas.List.{drop_more}
use Rattle.std.proofs.lemmas.List.Elements.{All-push}
use Rattle.std.proofs.lemmas.Slice.Eq.{bytes_eq-Decides}
use Rattle.kube_meta.specs.declared.objects.Obj.{Obj}
use Rattle.kube_meta.specs.Rows.{RowData}
use Rattle.rev_log.specs.Rows.{Follows, Holds}
use Rattle.rev_log.proofs.MapLemmas.{Follows-same}
use Rattle.select_all.specs.declared.selection.Kind.{Kind}
use Rattle.select_all.specs.declared.selection.Kind.TheVariants.{Added, Modified, Deleted}
use Rattle.select_all.specs.Listings.{row_told}
use Rattle.watch_record.specs.Between.{LaterData}
use Rattle.body_check.specs.declared.walk.Last.{Last}
use Rattle.body_check.specs.Turns.{ArePassed, count_with}

turned : (a b : List ℕ) → bytes_eq a b ≡ bytes_eq b a
turned a b = elim (cases_Bool (bytes_eq a b)) [
  | inl same ↦ same ∙ sym ((bytes_eq-Decides b a).1 (sym ((bytes_eq-Decides a b).0 same)))
  | inr other ↦ other ∙ sym (false_from_ne_true (bytes_eq b a) (λ same. absurd (let bad : true ≡ false = sym ((bytes_eq-Decides a b).1 (sym ((bytes_eq-Decides b a).0 same))) ∙ other in cc)))
]

module _ (m n : BTreeMap (List ℕ) RowData) where
  pub told_put : (kind : Kind) (obj : Obj) (rev : ℕ) → ¬ (kind ≡ Deleted) → Follows m n (λ key old. cond (bytes_eq key obj.key) (Some (record { obj = obj; rev = rev })) old)
      → Follows m n (λ key row. row_told key row (record { kind = kind; obj = obj; rev = rev }))
  told_put Added obj rev not follows =
      Follows-same m n (λ key old. cond (bytes_eq key obj.key) (Some (record { obj = obj; rev = rev })) old) (λ key row. row_told key row (record { kind = Added; obj = obj; rev = rev }))
      (λ stands holds key. ap (λ here. cond here (Some (record { obj = obj; rev = rev })) (stands key)) (turned key obj.key)) follows
  told_put Modified obj rev not follows =
      Follows-same m n (λ key old. cond (bytes_eq key obj.key) (Some (record { obj = obj; rev = rev })) old) (λ key row. row_told key row (record { kind = Modified; obj = obj; rev = rev }))
      (λ stands holds key. ap (λ here. cond here (Some (record { obj = obj; rev = rev })) (stands key)) (turned key obj.key)) follows
  told_put Deleted obj rev not follows = absurd (not refl)

  pub told_out : (kind : Kind) (obj : Obj) (rev : ℕ) → kind ≡ Deleted → Follows m n (λ key old. cond (bytes_eq key obj.key) None old)
      → Follows m n (λ key row. row_told key row (record { kind = kind; obj = obj; rev = rev }))
  told_out kind obj rev is follows =
      subst (λ k. Follows m n (λ key row. row_told key row (record { kind = k; obj = obj; rev = rev }))) (sym is)
      (Follows-same m n (λ key old. cond (bytes_eq key obj.key) None old) (λ key row. row_told key row (record { kind = Deleted; obj = obj; rev = rev }))
      (λ stands holds key. ap (λ here. cond here None (stands key)) (turned key obj.key)) follows)

-- ---- how many are of one revision

pub counted_first : (last : Option Last) (rev to count : ℕ) → count ≡ cond (nat_eq rev to) (count_with last) 1 → to < rev → count ≡ 1
counted_first last rev to count is later = is ∙ rw (ne_eqb rev to (λ same. absurd (omega (arith, same, later)))) refl

pub counted_more : (last : Option Last) (rev to count : ℕ) → count ≡ cond (nat_eq rev to) (count_with last) 1 → to ≡ rev → count ≡ count_with last
counted_more last rev to count is same = is ∙ rw (eq-eqb rev to (sym same)) refl

-- ---- passing lists

pub pass_more : (stands : List RowData) (below n : ℕ) (left : List LaterData) (x : LaterData) → n < length left → x ≡ get_or left n x → x.at < below → x.rows ≡ stands
    → ArePassed stands below left (drop n left) → ArePassed stands below left (drop (n + 1) left)
pass_more stands below n left x inside is low same passed =
    let next : drop n left ≡ x ∷ drop (n + 1) left = drop_more left n x inside ∙ ap (λ (l : LaterData). l ∷ drop (n + 1) left) (sym is) in
    record {
      gone = passed.gone ++ x ∷ [];
      parted = passed.parted ∙ ap (λ (l : List LaterData). passed.gone ++ l) next ∙ sym (append_assoc passed.gone (x ∷ []) (drop (n + 1) left));
      same = All-push (λ l. (l.at < below) × (l.rows ≡ stands)) passed.gone x passed.same (low, same);
    }
