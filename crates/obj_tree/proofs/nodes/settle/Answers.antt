use Rattle.std.proofs.Common.{◌≡◌, ◌++◌, ◌<◌, List, length, ap, sym, ◌∙◌, subst, arith}
use Rattle.std.proofs.lemmas.List.{length-map}
use Rattle.kube_meta.specs.Rows.{RowData}
use Rattle.obj_tree.specs.Pages.{values_of, joined, page_at, IsNoded}
use Rattle.obj_tree.proofs.PageLemmas.{indexed}
use Rattle.obj_tree.proofs.NodeLemmas.{two_rows, noded_two, either}
use Rattle.obj_tree.proofs.nodes.settle.Goals as goal

pub returns-clause-rows : goal.returns-clause-rows
returns-clause-rows c =
    let items = c.args.nodes.now.items in
    let nodes = values_of items in
    let at = c.args.at in
    let inside : at < length nodes = omega (arith, c.requires.inside, length-map items (λ p. p.value)) in
    let read : page_at nodes at ≡ c.deref.result.now = indexed (λ p. p.value) items at c.index.result.now c.requires.inside c.index.ensures ∙ sym c.deref.ensures in
    let both : c.in-Some.front ++ c.in-Some.back ≡ page_at nodes at = rw c.in-Some.is at c.in-Ok.ensures.rows ∙ sym read in
    either c.put_both.result _ _ _ c.put_both.ensures.ok c.put_both.ensures.err
    (λ is. ap joined is ∙ two_rows nodes at c.requires.noded inside c.in-Some.front c.in-Some.back both)
    (λ is. ap joined is)

pub returns-clause-noded : goal.returns-clause-noded
returns-clause-noded c =
    let items = c.args.nodes.now.items in
    let nodes = values_of items in
    let at = c.args.at in
    let inside : at < length nodes = omega (arith, c.requires.inside, length-map items (λ p. p.value)) in
    let read : page_at nodes at ≡ c.deref.result.now = indexed (λ p. p.value) items at c.index.result.now c.requires.inside c.index.ensures ∙ sym c.deref.ensures in
    let both : c.in-Some.front ++ c.in-Some.back ≡ page_at nodes at = rw c.in-Some.is at c.in-Ok.ensures.rows ∙ sym read in
    either c.put_both.result _ _ _ c.put_both.ensures.ok c.put_both.ensures.err
    (λ is. subst (λ (p : List (List RowData)). IsNoded p) (sym is) (noded_two nodes at c.requires.noded inside c.in-Some.front c.in-Some.back both (rw c.in-Some.is at c.in-Ok.ensures.front) (rw c.in-Some.is at c.in-Ok.ensures.back)))
    (λ is. subst (λ (p : List (List RowData)). IsNoded p) (sym is) c.requires.noded)
