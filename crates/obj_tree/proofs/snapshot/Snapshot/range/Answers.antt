use Rattle.std.proofs.Common.{◌≡◌, List, ap, sym, ◌∙◌, subst}
use Rattle.obj_tree.specs.Edges.{edge_text, rows_before}
use Rattle.obj_tree.specs.Maps.{above}
use Rattle.obj_tree.specs.Pages.{values_of, joined, AreParts}
use Rattle.obj_tree.proofs.EdgeLemmas.{above_is}
use Rattle.obj_tree.proofs.NodeLemmas.{parts_of_nodes}
use Rattle.obj_tree.proofs.snapshot.Snapshot.range.Goals as goal

pub spot_of-from-requires : goal.spot_of-from-requires
spot_of-from-requires c = subst (λ (xs : List _). AreParts (values_of xs)) (sym c.slice_of-nodes.ensures) (parts_of_nodes (values_of c.self.inside.nodes.value.items) c.self.invariant.0)

pub returns-in-Some-clause-rows : goal.returns-in-Some-clause-rows
returns-in-Some-clause-rows c =
    let nodes = values_of c.slice_of-nodes.result.now in
    let key = c.in-Some.key.now in
    let i = rows_before nodes c.spot_of-from.result in
    let same : joined nodes ≡ c.args.self.now = ap (λ (items : List _). joined (values_of items)) c.slice_of-nodes.ensures ∙ c.self.view_is in
    let told = c.behind.ensures ∙ above_is (edge_text c.edge_behind.result) key (joined nodes) i c.edge_behind.ensures c.spot_of-from.ensures.rows in
    rw c.in-Some.is (told ∙ ap (above key) same)
