use Rattle.std.proofs.Common.{◌≡◌, ℕ, List, ap, sym, ◌∙◌, subst}
use Rattle.std.specs.Prelude.{option_copied}
use Rattle.kube_meta.specs.Rows.{RowData, behind, within}
use Rattle.obj_tree.specs.Edges.{edge_text, rows_before, AreBefore}
use Rattle.obj_tree.specs.Pages.{values_of, joined, AreParts}
use Rattle.obj_tree.proofs.EdgeLemmas.{within_is}
use Rattle.obj_tree.proofs.NodeLemmas.{parts_of_nodes}
use Rattle.obj_tree.proofs.snapshot.Snapshot.within.Goals as goal

pub returns-clause-rows : goal.returns-clause-rows
returns-clause-rows c =
    let nodes = values_of c.slice_of-nodes.result.now in
    let ns = c.args.ns.now in
    let after = option_copied c.args.after in
    let i = rows_before nodes c.spot_of-from.result in
    let j = rows_before nodes c.spot_of-to.result in
    let those = subst (λ (text : List ℕ). AreBefore text (joined nodes) j) c.last_edge.ensures c.spot_of-to.ensures.rows in
    let same : joined nodes ≡ c.args.self.now = ap (λ (items : List _). joined (values_of items)) c.slice_of-nodes.ensures ∙ c.self.view_is in
    c.between.ensures
    ∙ sym (within_is ns (edge_text c.first_edge.result) after (joined nodes) i j c.first_edge.ensures c.spot_of-from.ensures.rows those)
    ∙ ap (λ (rows : List RowData). within ns (behind after rows)) same

pub spot_of-from-requires : goal.spot_of-from-requires
spot_of-from-requires c = subst (λ (xs : List _). AreParts (values_of xs)) (sym c.slice_of-nodes.ensures) (parts_of_nodes (values_of c.self.inside.nodes.value.items) c.self.invariant.0)

pub spot_of-to-requires : goal.spot_of-to-requires
spot_of-to-requires c = subst (λ (xs : List _). AreParts (values_of xs)) (sym c.slice_of-nodes.ensures) (parts_of_nodes (values_of c.self.inside.nodes.value.items) c.self.invariant.0)
