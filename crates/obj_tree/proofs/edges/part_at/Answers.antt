use Rattle.std.proofs.Common.{◌≡◌, ℕ, ◌+◌, ◌-◌, ◌/◌, ◌<◌, true, false, length, take, drop, ap, sym, ◌∙◌, subst, arith}
use Rattle.std.specs.List.{list_all}
use Rattle.std.proofs.lemmas.List.{length-map}
use Rattle.obj_tree.specs.Edges.{edge_text, is_from, begins_below}
use Rattle.obj_tree.specs.Maps.{is_below}
use Rattle.obj_tree.specs.Pages.{parts_of, joined, page_at}
use Rattle.obj_tree.proofs.EdgeLemmas.{below_pages, from_pages, from_rest, halfway}
use Rattle.obj_tree.proofs.PageLemmas.{indexed}
use Rattle.obj_tree.proofs.edges.part_at.Goals as goal

pub loop-low-preserved-then-begins_before : goal.loop-low-preserved-then-begins_before
loop-low-preserved-then-begins_before g c =
    let items = c.args.parts.now in
    let parts = parts_of g.P.Part.rows items in
    let text = edge_text c.args.edge.now in
    let at = c.loop-low.low + (c.loop-low.high - c.loop-low.low) / 2 in
    let less : at < c.loop-low.high = halfway c.loop-low.low c.loop-low.high c.loop-low-test.true in
    let within : at < length items = omega (arith, less, c.loop-low.invariant.inside) in
    let read = indexed (λ p. g.P.Part.rows p.value) items at c.index-parts-middle.result within c.index-parts-middle.is in
    let begun : begins_below text (page_at parts at) ≡ true =
    ap (begins_below text) (read ∙ ap g.P.Part.rows (sym c.deref.ensures)) ∙ sym c.begins_before.ensures ∙ c.if-begins_before.true in
    let all = below_pages parts text at (omega (arith, within, length-map items (λ p. g.P.Part.rows p.value))) c.requires begun in
    let on : at ≡ at + 1 - 1 = omega arith in
    record {
      order = omega (arith, less);
      inside = c.loop-low.invariant.inside;
      before = subst (λ (n : ℕ). list_all (is_below text) (joined (take n parts)) ≡ true) on all;
      after = c.loop-low.invariant.after;
    }

pub loop-low-preserved : goal.loop-low-preserved
loop-low-preserved g c =
    let items = c.args.parts.now in
    let parts = parts_of g.P.Part.rows items in
    let text = edge_text c.args.edge.now in
    let at = c.loop-low.low + (c.loop-low.high - c.loop-low.low) / 2 in
    let less : at < c.loop-low.high = halfway c.loop-low.low c.loop-low.high c.loop-low-test.true in
    let within : at < length items = omega (arith, less, c.loop-low.invariant.inside) in
    let read = indexed (λ p. g.P.Part.rows p.value) items at c.index-parts-middle.result within c.index-parts-middle.is in
    let from : begins_below text (page_at parts at) ≡ false =
    ap (begins_below text) (read ∙ ap g.P.Part.rows (sym c.deref.ensures)) ∙ sym c.begins_before.ensures ∙ c.if-begins_before.false in
    record {
      order = omega arith;
      inside = omega (arith, less, c.loop-low.invariant.inside);
      before = c.loop-low.invariant.before;
      after = from_pages parts text at (omega (arith, within, length-map items (λ p. g.P.Part.rows p.value))) c.requires from;
    }

pub returns-clause-after : goal.returns-clause-after
returns-clause-after g c =
    let parts = parts_of g.P.Part.rows c.args.parts.now in
    let text = edge_text c.args.edge.now in
    let same : c.loop-low.high ≡ c.loop-low.low = omega (arith, c.loop-low.invariant.order, c.loop-low-test.false) in
    let all = subst (λ (n : ℕ). list_all (is_from text) (joined (drop n parts)) ≡ true) same c.loop-low.invariant.after in
    rw c.saturating_sub.ensures (from_rest text parts c.loop-low.low all)
