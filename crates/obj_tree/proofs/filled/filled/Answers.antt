use Rattle.std.proofs.Common.{◌≡◌, List, ap, sym, ◌∙◌, subst}
use Rattle.kube_meta.specs.Rows.{RowData, AreRising}
use Rattle.obj_tree.specs.Pages.{values_of, joined, AreSized, AreFull}
use Rattle.obj_tree.proofs.FillLemmas.{ok_follows}
use Rattle.obj_tree.proofs.filled.filled.Goals as goal

pub noded-requires-clause-paged : goal.noded-requires-clause-paged
noded-requires-clause-paged c =
    let rows : joined (values_of c.deref.result.now) ≡ values_of c.args.rows.items = ap (λ (xs : List _). joined (values_of xs)) c.deref.ensures.value ∙ c.in_ok-pages.ensures.rows_are in
    record {
      sized = subst (λ (xs : List _). AreSized (values_of xs)) (sym c.deref.ensures.value) c.in_ok-pages.ensures.sized;
      full = subst (λ (xs : List _). AreFull (values_of xs)) (sym c.deref.ensures.value) c.in_ok-pages.ensures.full;
      rising = subst (λ (r : List RowData). AreRising r) (sym rows) c.requires;
    }

pub returns-clause-rows : goal.returns-clause-rows
returns-clause-rows c =
    let rows : joined (values_of c.deref.result.now) ≡ values_of c.args.rows.items = ap (λ (xs : List _). joined (values_of xs)) c.deref.ensures.value ∙ c.in_ok-pages.ensures.rows_are in
    ok_follows c.noded.result _ _ (λ nodes is. is ∙ rows) c.noded.ensures.rows
