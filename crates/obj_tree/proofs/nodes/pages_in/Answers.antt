use Rattle.std.proofs.Common.{◌≡◌, ◌+◌, ◌<◌, suc, length, take, ap, sym, ◌∙◌, arith}
use Rattle.std.proofs.lemmas.List.{length-map}
use Rattle.obj_tree.specs.Pages.{values_of, joined, page_at}
use Rattle.obj_tree.proofs.PageLemmas.{indexed}
use Rattle.obj_tree.proofs.SpanLemmas.{count_more, count_part}
use Rattle.obj_tree.proofs.NodeLemmas.{few_all, some_count, take_all}
use Rattle.obj_tree.proofs.nodes.pages_in.Goals as goal

pub overflow_add-count : goal.overflow_add-count
overflow_add-count c =
    let items = c.args.nodes.now in
    let nodes = values_of items in
    let at = c.loop-node.node-index in
    let inside : at < length nodes = omega (arith, c.loop-node-test.true, length-map items (λ p. p.value)) in
    let read = indexed (λ p. p.value) items at c.node-item.result (omega (arith, c.loop-node-test.true)) c.node-item.is in
    let more = count_more nodes at inside in
    let long : length (page_at nodes at) ≡ length c.deref.result.now = ap length (read ∙ sym c.deref.ensures) in
    omega (arith, more, long, c.count-count.ensures.few, c.loop-node.invariant.few, count_part nodes (suc at), some_count nodes (suc at) c.requires.noded.some inside, c.requires.few)

pub loop-node-preserved : goal.loop-node-preserved
loop-node-preserved c =
    let items = c.args.nodes.now in
    let nodes = values_of items in
    let at = c.loop-node.node-index in
    let inside : at < length nodes = omega (arith, c.loop-node-test.true, length-map items (λ p. p.value)) in
    let read = indexed (λ p. p.value) items at c.node-item.result (omega (arith, c.loop-node-test.true)) c.node-item.is in
    let on : suc at ≡ at + 1 = omega arith in
    let more : length (joined (take (at + 1) nodes)) ≡ length (joined (take at nodes)) + length (page_at nodes at) = sym (ap (λ (n : _). length (joined (take n nodes))) on) ∙ count_more nodes at inside in
    let long : length (page_at nodes at) ≡ length c.deref.result.now = ap length (read ∙ sym c.deref.ensures) in
    record {
      few = omega (arith, more, long, c.count-count.ensures.few, c.loop-node.invariant.few);
      enough = omega (arith, more, long, c.count-count.ensures.enough, c.loop-node.invariant.enough);
    }

pub returns : goal.returns
returns c =
    let items = c.args.nodes.now in
    let nodes = values_of items in
    let at = c.loop-node.node-index in
    let end : at ≡ length items = omega arith in
    let all = ap (λ (p : _). length (joined p)) (take_all nodes at (omega (arith, end, length-map items (λ p. p.value)))) in
    record {
      few = few_all nodes c.loop-node.count c.requires.noded (omega (arith, all, end, length-map items (λ p. p.value), c.loop-node.invariant.few));
      enough = omega (arith, all, c.loop-node.invariant.enough);
    }
