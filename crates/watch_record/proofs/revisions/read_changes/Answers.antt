use Rattle.std.proofs.Common.{◌≡◌, ◌+◌, ◌<◌, ◌≤◌, length, get_or, arith, subst, sym, ap, ◌∙◌}
use Rattle.serde_json.specs.Data.{depth, items_depth}
use Rattle.serde_json.specs.View.{view, items_view}
use Rattle.watch_record.proofs.DepthLemmas.{depth-item}
use Rattle.watch_record.proofs.ReadLemmas.{HasRead, has_read-more, some-later}
use Rattle.watch_record.proofs.revisions.read_changes.Goals as goal

pub read_change-requires : goal.read_change-requires
read_change-requires c =
    let vs = c.args.items.now.items in
    let i = c.loop-item.item-index in
    let v = c.item-item.result in
    let within : i < length vs = omega (arith, c.loop-item-test.true, ap length c.deref-item-items.ensures.value) in
    let at : v ≡ get_or vs i v = c.item-item.is ∙ ap (λ l. get_or l i v) c.deref-item-items.ensures.value in
    let deep : depth (view v) ≤ items_depth (items_view vs) =
    subst (λ x. depth (view x) ≤ items_depth (items_view vs)) (sym at) (depth-item vs i v within) in
    omega (arith, deep, c.requires)

pub loop-item-preserved : goal.loop-item-preserved
loop-item-preserved c =
    let vs = c.args.items.now.items in
    let i = c.loop-item.item-index in
    let v = c.item-item.result in
    let done = c.loop-item.changes.items in
    let within : i < length vs = omega (arith, c.loop-item-test.true, ap length c.deref-item-items.ensures.value) in
    let at : v ≡ get_or vs i v = c.item-item.is ∙ ap (λ l. get_or l i v) c.deref-item-items.ensures.value in
    subst (λ l. HasRead c.args.rev vs (i + 1) l c.args.out.now.items c.read_change.new.out.items) (sym c.in_ok-push.ensures.items)
    (has_read-more c.args.rev vs i v done c.in-Some.change _ c.args.out.now.items c.loop-item.out.items c.read_change.new.out.items within at c.loop-item.invariant
    (some-later done _ c.is_empty-later.result c.is_empty-later.ensures c.as_slice.ensures.value) (rw c.in-Some.is at c.in_ok-change.ensures))
