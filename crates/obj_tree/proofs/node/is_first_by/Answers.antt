use Rattle.std.proofs.Common.{◌<◌, List, length, ap, ◌∙◌}
use Rattle.kube_meta.specs.Rows.{RowData}
use Rattle.obj_tree.specs.Pages.{begins_by}
use Rattle.obj_tree.proofs.PrefixLemmas.{begins_by_page}
use Rattle.obj_tree.proofs.node.is_first_by.Goals as goal

pub returns-in-Some : goal.returns-in-Some
returns-in-Some c =
    let item = c.in-Some.ensures.item in
    let some : 0 < length c.args.pages.now = item.3.0 in
    c.begins_by.ensures
    ∙ ap (λ (r : List RowData). begins_by c.args.sought.now r) c.deref.ensures
    ∙ begins_by_page (λ p. p.value) c.args.pages.now c.in-Some.page.now c.args.sought.now some item.1 c.requires
