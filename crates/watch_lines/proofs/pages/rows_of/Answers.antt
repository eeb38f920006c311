use Rattle.std.proofs.Common.{◌≡◌, ◌+◌, ◌<◌, ◌≤◌, length, get_or, arith, subst, sym}
use Rattle.serde_json.specs.View.{items_view}
use Rattle.watch_lines.proofs.PageLemmas.{AreBehind, from, more-behind, no-rows, all-rows, no-more}
use Rattle.watch_lines.proofs.pages.rows_of.Goals as goal

pub returns-in_default : goal.returns-in_default
returns-in_default c =
    let vs = c.args.items.now in
    let i = c.loop-item.item-index in
    let v = c.item-item.result in
    let within : i < length vs = omega (arith, c.loop-item-test.true) in
    let at : v ≡ get_or vs i v = c.item-item.is in
    no-rows c.args.resource vs i v c.loop-item.rows.items within at c.loop-item.invariant (rw c.in_default.is at c.in_ok-obj.ensures)

pub loop-item-preserved : goal.loop-item-preserved
loop-item-preserved c =
    let vs = c.args.items.now in
    let i = c.loop-item.item-index in
    let v = c.item-item.result in
    let within : i < length vs = omega (arith, c.loop-item-test.true) in
    let at : v ≡ get_or vs i v = c.item-item.is in
    subst (AreBehind c.args.resource (items_view vs) (from vs (i + 1))) (sym c.in_ok-add.ensures)
    (more-behind c.args.resource vs i v c.loop-item.rows.items c.in-Some.obj c.in-Some.rev within at c.loop-item.invariant (rw c.in-Some.is at c.in_ok-obj.ensures))

pub returns : goal.returns
returns c =
    let vs = c.args.items.now in
    let i = c.loop-item.item-index in
    let past : length vs ≤ i = omega (arith, c.loop-item-test.false) in
    all-rows c.args.resource (items_view vs) c.loop-item.rows.items (subst (λ rest. AreBehind c.args.resource (items_view vs) rest c.loop-item.rows.items) (no-more vs i past) c.loop-item.invariant)
