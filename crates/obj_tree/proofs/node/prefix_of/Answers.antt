use Rattle.std.proofs.Common.{◌<◌, List, length, subst}
use Rattle.kube_meta.specs.Rows.{RowData}
use Rattle.obj_tree.specs.Prefixes.{IsPrefix}
use Rattle.obj_tree.proofs.PrefixLemmas.{prefix_page}
use Rattle.obj_tree.proofs.node.prefix_of.Goals as goal

pub returns-in-Some : goal.returns-in-Some
returns-in-Some c =
    let item = c.in-Some.ensures.item in
    let some : 0 < length c.args.pages.now = item.3.0 in
    prefix_page (λ p. p.value) c.args.pages.now c.in-Some.page.now c.prefix.result.now some item.1 c.requires (subst (λ (r : List RowData). IsPrefix c.prefix.result.now r) c.deref.ensures c.prefix.ensures)
