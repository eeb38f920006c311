use Rattle.std.proofs.Common.{List, ap, sym, ◌∙◌, arith}
use Rattle.std.proofs.lemmas.List.{length-map}
use Rattle.kube_meta.specs.Rows.{RowData, row_with}
use Rattle.obj_tree.specs.Pages.{values_of, joined}
use Rattle.obj_tree.proofs.PageLemmas.{indexed}
use Rattle.obj_tree.proofs.NodeLemmas.{parts_of_nodes, row_found}
use Rattle.obj_tree.proofs.nodes.row_of.Goals as goal

pub part_for-requires : goal.part_for-requires
part_for-requires c = parts_of_nodes (values_of c.args.nodes.now) c.requires

pub returns-in-None : goal.returns-in-None
returns-in-None c = sym (ap (λ (p : List (List RowData)). row_with (joined p) c.args.sought.now) c.in-None.ensures)

pub returns-in-Some : goal.returns-in-Some
returns-in-Some c =
    let items = c.args.nodes.now in
    let key = c.args.sought.now in
    let found = c.in-Some.ensures in
    let read = indexed (λ p. p.value) items c.in-Some.at c.index-nodes-at.result (omega (arith, found.inside, length-map items (λ p. p.value))) c.index-nodes-at.is in
    c.get.ensures ∙ ap (λ (r : List RowData). row_with r key) (c.deref.ensures ∙ sym read) ∙ sym (row_found (values_of items) key c.in-Some.at found)
