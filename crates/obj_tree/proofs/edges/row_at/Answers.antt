use Rattle.std.proofs.Common.{◌≡◌, ℕ, ◌+◌, ◌-◌, ◌/◌, ◌<◌, suc, true, false, List, length, take, ap, sym, ◌∙◌, subst, refl, arith}
use Rattle.std.specs.List.{list_all}
use Rattle.std.specs.Cmp.Lexicographic.{slice_cmp}
use Rattle.std.specs.Ordering.{nat_cmp, is_lt}
use Rattle.std.proofs.lemmas.List.{length-map}
use Rattle.kube_meta.specs.Rows.{RowData, key_of}
use Rattle.obj_tree.specs.Edges.{edge_text}
use Rattle.obj_tree.specs.Maps.{is_below}
use Rattle.obj_tree.specs.Pages.{values_of}
use Rattle.obj_tree.proofs.EdgeLemmas.{from_on, halfway}
use Rattle.obj_tree.proofs.MapLemmas.{rising, lt_of}
use Rattle.obj_tree.proofs.MapEdits.{row_read}
use Rattle.obj_tree.proofs.SearchLemmas.{below_upto}
use Rattle.obj_tree.proofs.edges.row_at.Goals as goal

pub loop-low-preserved-then-is_before : goal.loop-low-preserved-then-is_before
loop-low-preserved-then-is_before c =
    let items = c.args.rows.now in
    let rows = values_of items in
    let text = edge_text c.args.edge.now in
    let at = c.loop-low.low + (c.loop-low.high - c.loop-low.low) / 2 in
    let row = c.index-rows-middle.result.value in
    let less : at < c.loop-low.high = halfway c.loop-low.low c.loop-low.high c.loop-low-test.true in
    let inside : at < length rows = omega (arith, less, c.loop-low.invariant.inside, length-map items (λ p. p.value)) in
    let read = row_read (λ p. p.value) items rows at c.index-rows-middle.result row inside refl c.index-rows-middle.is in
    let told : is_lt (slice_cmp nat_cmp (key_of row) text) ≡ true =
    ap (λ (r : RowData). is_lt (slice_cmp nat_cmp (key_of r) text)) (sym c.deref.ensures)
    ∙ ap (λ (k : List ℕ). is_lt (slice_cmp nat_cmp k text)) (sym c.key_of.ensures)
    ∙ sym c.is_before.ensures
    ∙ c.if-is_before.true in
    let here = lt_of _ text (ap (is_below text) (sym read) ∙ told) in
    let all = below_upto rows at row text inside (rising rows c.requires) here in
    let on : suc at ≡ at + 1 = omega arith in
    record {
      order = omega (arith, less);
      inside = c.loop-low.invariant.inside;
      before = subst (λ (n : ℕ). list_all (is_below text) (take n rows) ≡ true) on all;
      after = c.loop-low.invariant.after;
    }

pub loop-low-preserved : goal.loop-low-preserved
loop-low-preserved c =
    let items = c.args.rows.now in
    let rows = values_of items in
    let text = edge_text c.args.edge.now in
    let at = c.loop-low.low + (c.loop-low.high - c.loop-low.low) / 2 in
    let row = c.index-rows-middle.result.value in
    let less : at < c.loop-low.high = halfway c.loop-low.low c.loop-low.high c.loop-low-test.true in
    let inside : at < length rows = omega (arith, less, c.loop-low.invariant.inside, length-map items (λ p. p.value)) in
    let read = row_read (λ p. p.value) items rows at c.index-rows-middle.result row inside refl c.index-rows-middle.is in
    let told : is_lt (slice_cmp nat_cmp (key_of row) text) ≡ false =
    ap (λ (r : RowData). is_lt (slice_cmp nat_cmp (key_of r) text)) (sym c.deref.ensures)
    ∙ ap (λ (k : List ℕ). is_lt (slice_cmp nat_cmp k text)) (sym c.key_of.ensures)
    ∙ sym c.is_before.ensures
    ∙ c.if-is_before.false in
    record {
      order = omega arith;
      inside = omega (arith, less, c.loop-low.invariant.inside);
      before = c.loop-low.invariant.before;
      after = from_on rows at row text inside (rising rows c.requires) (ap (is_below text) (sym read) ∙ told);
    }
