use Rattle.std.proofs.Common.{◌≡◌, ◌+◌, ◌<◌, ◌≤◌, suc, true, ℕ, length, take, ap, sym, ◌∙◌, subst, refl, arith}
use Rattle.std.specs.List.{list_all}
use Rattle.std.specs.Cmp.Lexicographic.{slice_cmp}
use Rattle.std.specs.Ordering.{nat_cmp, is_lt}
use Rattle.std.proofs.lemmas.List.{length-map}
use Rattle.kube_meta.specs.Rows.{RowData, key_of}
use Rattle.obj_tree.specs.Maps.{is_below}
use Rattle.obj_tree.specs.Pages.{values_of}
use Rattle.obj_tree.proofs.MapLemmas.{rising, lt_of}
use Rattle.obj_tree.proofs.MapEdits.{row_read}
use Rattle.obj_tree.proofs.SearchLemmas.{below_upto}
use Rattle.obj_tree.proofs.search.passed.Goals as goal

pub loop-at-preserved : goal.loop-at-preserved
loop-at-preserved c =
    let items = c.args.rows.now in
    let rows = values_of items in
    let key = c.args.sought.now in
    let at = c.loop-at.at in
    let i = at + 7 in
    let row = c.index-rows-at.result.value in
    let within : at + 8 ≤ length items = omega (arith, c.loop-at.invariant.0, c.loop-at-test.true) in
    let inside : i < length rows = omega (arith, within, length-map items (λ p. p.value)) in
    let read = row_read (λ p. p.value) items rows i c.index-rows-at.result row inside refl c.index-rows-at.is in
    let told : is_lt (slice_cmp nat_cmp (key_of row) key) ≡ true =
    ap (λ (r : RowData). is_lt (slice_cmp nat_cmp (key_of r) key)) (sym c.deref.ensures)
    ∙ ap is_lt (sym c.key_order.ensures)
    ∙ sym c.is_lt.ensures
    ∙ c.if-is_lt.true in
    let all = below_upto rows i row key inside (rising rows c.requires) (ap (λ (r : RowData). slice_cmp nat_cmp (key_of r) key) (sym read) ∙ lt_of (key_of row) key told) in
    let on : suc i ≡ at + 8 = omega arith in
    (within, subst (λ (n : ℕ). list_all (is_below key) (take n rows) ≡ true) on all)
