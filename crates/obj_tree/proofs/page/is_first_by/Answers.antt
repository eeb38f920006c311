use Rattle.std.proofs.Common.{◌<◌, length, ap, ◌∙◌}
use Rattle.std.specs.Prelude.{not}
use Rattle.std.specs.Cmp.Lexicographic.{slice_cmp}
use Rattle.std.specs.Ordering.{nat_cmp, is_gt}
use Rattle.kube_meta.specs.Rows.{key_of}
use Rattle.obj_tree.proofs.PrefixLemmas.{begins_first}
use Rattle.obj_tree.proofs.page.is_first_by.Goals as goal

pub returns-in-Some : goal.returns-in-Some
returns-in-Some c =
    let item = c.in-Some.ensures.item in
    let some : 0 < length c.args.rows.now = item.3.0 in
    let key = c.args.sought.now in
    ap not (c.is_gt.ensures ∙ ap is_gt c.key_order.ensures ∙ ap (λ r. is_gt (slice_cmp nat_cmp (key_of r) key)) c.deref.ensures)
    ∙ begins_first (λ p. p.value) c.args.rows.now c.in-Some.shown.now key some item.1
