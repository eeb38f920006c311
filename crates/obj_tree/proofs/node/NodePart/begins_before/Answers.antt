use Rattle.std.proofs.Common.{◌<◌, length, ap, ◌∙◌}
use Rattle.obj_tree.specs.Edges.{edge_text, begins_below}
use Rattle.obj_tree.proofs.PrefixLemmas.{begins_below_page}
use Rattle.obj_tree.proofs.node.NodePart.begins_before.Goals as goal

pub returns-in-Some : goal.returns-in-Some
returns-in-Some c =
    let text = edge_text c.args.edge.now in
    let item = c.in-Some.ensures.item in
    let items = c.as_slice.result.now in
    let some : 0 < length items = item.3.0 in
    c.begins_before.ensures
    ∙ ap (begins_below text) c.deref.ensures
    ∙ begins_below_page (λ p. p.value) items c.in-Some.page.now text some item.1 (rw c.as_slice.ensures.value c.self.invariant.0.sized)
    ∙ rw c.as_slice.ensures.value (ap (begins_below text) c.self.view_is)
