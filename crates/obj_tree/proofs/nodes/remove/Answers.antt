use Rattle.std.proofs.Common.{◌≡◌, List, Option, Some, None, Bool, true, false, refl, ap, sym, ◌∙◌, subst, arith}
use Rattle.std.proofs.lemmas.Bool.{true≢false}
use Rattle.std.proofs.lemmas.List.{length-map}
use Rattle.kube_meta.specs.Rows.{RowData, row_with}
use Rattle.obj_tree.specs.Pages.{values_of, joined, page_at, AreParts}
use Rattle.obj_tree.proofs.MapLemmas.{rising, none_without}
use Rattle.obj_tree.proofs.PageLemmas.{indexed}
use Rattle.obj_tree.proofs.NodeLemmas.{parts_of_nodes, place_same, row_found}
use Rattle.obj_tree.proofs.nodes.remove.Goals as goal

pub part_for-requires : goal.part_for-requires
part_for-requires c = subst (λ (xs : List _). AreParts (values_of xs)) (sym c.slice_of-slice.ensures) (parts_of_nodes (values_of c.args.nodes.now.value.items) c.requires.noded)

pub remove_owned-requires-clause-place : goal.remove_owned-requires-clause-place
remove_owned-requires-clause-place c = place_same _ (values_of c.args.nodes.now.value.items) _ c.args.key.now c.in-Some.at (ap values_of c.slice_of-slice.ensures) c.new-sought.ensures c.in-Some.ensures

abbrev told_some : {A : Type 0} → Option A → Bool
told_some None = false
told_some (Some x) = true

pub returns-in-Some-get-clause-absent : goal.returns-in-Some-get-clause-absent
returns-in-Some-get-clause-absent c = λ none.
    let slice = c.slice_of-slice.result.now in
    let nodes = values_of c.args.nodes.now.value.items in
    let key = c.args.key.now in
    let at = c.in-Some.at in
    let found = place_same _ nodes _ key at (ap values_of c.slice_of-slice.ensures) c.new-sought.ensures c.in-Some.ensures in
    let read = indexed (λ p. p.value) slice at c.index-slice-at.result (omega (arith, c.in-Some.ensures.inside, length-map slice (λ p. p.value))) c.index-slice-at.is in
    let same : page_at nodes at ≡ c.deref.result.now = sym (ap (λ (xs : List _). page_at (values_of xs) at) c.slice_of-slice.ensures) ∙ read ∙ sym c.deref.ensures in
    let told =
    c.in-Some-get.ensures
    ∙ ap (row_with c.deref.result.now) c.new-sought.ensures
    ∙ sym (ap (λ (r : List RowData). row_with r key) same)
    ∙ sym (row_found nodes key at found)
    ∙ none in
    absurd (true≢false (ap told_some told))

pub returns-in-None : goal.returns-in-None
returns-in-None c =
    let slice = c.slice_of-slice.result.now in
    let nodes = values_of c.args.nodes.now.value.items in
    let key = c.args.key.now in
    let at = c.in-Some.at in
    let found = place_same _ nodes _ key at (ap values_of c.slice_of-slice.ensures) c.new-sought.ensures c.in-Some.ensures in
    let read = indexed (λ p. p.value) slice at c.index-slice-at.result (omega (arith, c.in-Some.ensures.inside, length-map slice (λ p. p.value))) c.index-slice-at.is in
    let same : page_at nodes at ≡ c.deref.result.now = sym (ap (λ (xs : List _). page_at (values_of xs) at) c.slice_of-slice.ensures) ∙ read ∙ sym c.deref.ensures in
    let none : row_with (joined nodes) key ≡ None =
    row_found nodes key at found
    ∙ ap (λ (r : List RowData). row_with r key) same
    ∙ ap (row_with c.deref.result.now) (sym c.new-sought.ensures)
    ∙ sym c.in-None.ensures in
    record {
      rows = sym (none_without (joined nodes) key (rising (joined nodes) c.requires.noded.rising) none);
      answer = sym none;
      len = refl;
      noded = c.requires.noded;
      absent = λ _. (refl, refl);
      err = tt;
    }
