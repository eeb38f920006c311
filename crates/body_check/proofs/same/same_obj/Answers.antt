-- Where all parts are the same, the objects are.
use Rattle.std.proofs.Common.{◌≡◌, false, not, List, ℕ, bytes_eq, refl, sym, ap}
use Rattle.std.proofs.lemmas.Bool.{eqb-true, eq-eqb, not-false}
use Rattle.std.proofs.lemmas.Slice.Eq.{bytes_eq-Decides}
use Rattle.kube_meta.specs.declared.objects.Obj.{Obj}
use Rattle.body_check.proofs.ObjLemmas.{same_parts}
use Rattle.body_check.proofs.same.same_obj.Goals as goal

same_text : (a b : List ℕ) → false ≡ not (bytes_eq a b) → a ≡ b
same_text a b e = (bytes_eq-Decides a b).0 (not-false (bytes_eq a b) (sym e))

pub returns-then-a-b : goal.returns-then-a-b
returns-then-a-b c =
    let a = c.args.a.now in
    let b = c.args.b.now in (
      λ is. same_parts a b (same_text a.key b.key c.if-ne.ensures) (same_text a.front b.front c.if-ne-2.ensures) (same_text a.back b.back c.if-ne-3.ensures)
          (c.if-not-same_labels.ensures.0 refl) (c.if-not-same_fields.ensures.0 refl) c.if-a-b.true (eqb-true a.meta_to b.meta_to is),
      λ e. eq-eqb a.meta_to b.meta_to (ap (λ (o : Obj). o.meta_to) e),
    )
