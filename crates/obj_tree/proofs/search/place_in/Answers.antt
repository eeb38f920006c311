use Rattle.std.proofs.Common.{◌≡◌, ◌+◌, ◌<◌, suc, true, ℕ, length, take, Less, Equal, Greater, ap, sym, ◌∙◌, subst, refl, arith}
use Rattle.std.specs.List.{list_all}
use Rattle.std.specs.Cmp.Lexicographic.{slice_cmp}
use Rattle.std.specs.Ordering.{nat_cmp}
use Rattle.std.proofs.lemmas.List.{length-map}
use Rattle.kube_meta.specs.Rows.{RowData, key_of}
use Rattle.obj_tree.specs.Maps.{is_below}
use Rattle.obj_tree.specs.Pages.{values_of}
use Rattle.obj_tree.proofs.MapLemmas.{rising, same_text}
use Rattle.obj_tree.proofs.MapEdits.{row_read}
use Rattle.obj_tree.proofs.SearchLemmas.{below_upto, behind_from, row_at}
use Rattle.obj_tree.proofs.search.place_in.Goals as goal

pub loop-at-preserved : goal.loop-at-preserved
loop-at-preserved c =
    let items = c.args.rows.now in
    let rows = values_of items in
    let key = c.args.sought.now in
    let at = c.loop-at.at in
    let row = c.index-rows-at.result.value in
    let inside : at < length rows = omega (arith, c.loop-at-test.true, length-map items (λ p. p.value)) in
    let told : slice_cmp nat_cmp (key_of row) key ≡ Less =
    ap (λ (r : RowData). slice_cmp nat_cmp (key_of r) key) (sym c.deref.ensures)
    ∙ sym c.key_order.ensures
    ∙ c.in-Less.is in
    let read = row_read (λ p. p.value) items rows at c.index-rows-at.result row inside refl c.index-rows-at.is in
    let all = below_upto rows at row key inside (rising rows c.requires) (ap (λ (r : RowData). slice_cmp nat_cmp (key_of r) key) (sym read) ∙ told) in
    let on : suc at ≡ at + 1 = omega arith in
    (omega (arith, inside, length-map items (λ p. p.value)), subst (λ (n : ℕ). list_all (is_below key) (take n rows) ≡ true) on all)

pub returns-in-Equal-clause-found : goal.returns-in-Equal-clause-found
returns-in-Equal-clause-found c =
    let items = c.args.rows.now in
    let rows = values_of items in
    let key = c.args.sought.now in
    let at = c.loop-at.at in
    let row = c.index-rows-at.result.value in
    let inside : at < length rows = omega (arith, c.loop-at-test.true, length-map items (λ p. p.value)) in
    let told : slice_cmp nat_cmp (key_of row) key ≡ Equal =
    ap (λ (r : RowData). slice_cmp nat_cmp (key_of r) key) (sym c.deref.ensures)
    ∙ sym c.key_order.ensures
    ∙ c.in-Equal.is in
    row_at rows key at inside c.requires (λ d.
    let read = row_read (λ p. p.value) items rows at c.index-rows-at.result d inside refl c.index-rows-at.is in
    ap key_of (sym read) ∙ same_text (key_of row) key told)

pub returns-in-Greater-clause-absent : goal.returns-in-Greater-clause-absent
returns-in-Greater-clause-absent c =
    let items = c.args.rows.now in
    let rows = values_of items in
    let key = c.args.sought.now in
    let at = c.loop-at.at in
    let row = c.index-rows-at.result.value in
    let inside : at < length rows = omega (arith, c.loop-at-test.true, length-map items (λ p. p.value)) in
    let told : slice_cmp nat_cmp (key_of row) key ≡ Greater =
    ap (λ (r : RowData). slice_cmp nat_cmp (key_of r) key) (sym c.deref.ensures)
    ∙ sym c.key_order.ensures
    ∙ c.in-Greater.is in
    let read = row_read (λ p. p.value) items rows at c.index-rows-at.result row inside refl c.index-rows-at.is in
    record {
      inside = omega (arith, inside);
      before = c.loop-at.invariant.1;
      after = behind_from rows at row key inside (rising rows c.requires) (ap (λ (r : RowData). slice_cmp nat_cmp (key_of r) key) (sym read) ∙ told);
    }
