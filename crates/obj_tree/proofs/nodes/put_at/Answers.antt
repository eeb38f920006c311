use Rattle.std.proofs.Common.{◌≡◌, ◌+◌, ◌<◌, ◌≤◌, ◌∷◌, [], List, length, set, ap, sym, ◌∙◌, subst, arith}
use Rattle.std.proofs.Math.ListN.{length-set}
use Rattle.std.proofs.lemmas.List.{length-map}
use Rattle.kube_meta.specs.Rows.{RowData, key_of, row_with}
use Rattle.obj_tree.specs.Maps.{with_row}
use Rattle.obj_tree.specs.Pages.{values_of, joined, page_at, replaced, IsNoded}
use Rattle.obj_tree.proofs.PageLemmas.{indexed, set_page, set_same, OnErr-always}
use Rattle.obj_tree.proofs.NodeLemmas.{part_few, grows, put_count, put_noded, put_rows, with_length, row_found}
use Rattle.obj_tree.proofs.nodes.put_at.Goals as goal

pub put_in-requires : goal.put_in-requires
put_in-requires c =
    let items = c.args.nodes.now.items in
    let inside : c.args.at < length items = omega (arith, c.requires.place.inside, length-map items (λ p. p.value)) in
    let read = indexed (λ p. p.value) items c.args.at c.index_mut.result.now inside c.index_mut.ensures.value in
    omega (arith, ap length read, part_few (values_of items) c.args.at c.requires.place.inside, c.requires.room)

pub settle-requires : goal.settle-requires
settle-requires c =
    let items = c.args.nodes.now.items in
    let nodes = values_of items in
    let at = c.args.at in
    let row = c.args.shown.value in
    let node = page_at nodes at in
    let new = with_row node row in
    let inside : at < length items = omega (arith, c.requires.place.inside, length-map items (λ p. p.value)) in
    let read : node ≡ c.index_mut.result.now.value = indexed (λ p. p.value) items at c.index_mut.result.now inside c.index_mut.ensures.value in
    let same : c.put_in.new.node.value ≡ new = c.in_ok-old.ensures.rows ∙ ap (λ (p : List RowData). with_row p row) (sym read) in
    let all : values_of (set items at c.put_in.new.node) ≡ replaced nodes at (at + 1) (new ∷ []) = set_page (λ p. p.value) items at c.put_in.new.node new inside same in
    let more : length node ≤ length new = omega (arith, grows c.in_ok-old.old _ _ c.in_ok-old.ensures.len, ap length same, ap length read) in
    record {
      inside = simp length-set inside;
      noded = subst (λ (p : List (List RowData)). IsNoded p) (sym all) (put_noded nodes row at c.requires.noded c.requires.place more);
    }

pub returns-in_err-old-clause-noded : goal.returns-in_err-old-clause-noded
returns-in_err-old-clause-noded c =
    let items = c.args.nodes.now.items in
    let inside : c.args.at < length items = omega (arith, c.requires.place.inside, length-map items (λ p. p.value)) in
    let same = set_same (λ p. p.value) items c.args.at c.put_in.new.node c.index_mut.result.now inside c.index_mut.ensures.value c.in_err-old.ensures.err in
    subst (λ (p : List (List RowData)). IsNoded p) (sym same) c.requires.noded

pub returns-in_err-old-clause-err : goal.returns-in_err-old-clause-err
returns-in_err-old-clause-err c =
    let items = c.args.nodes.now.items in
    let inside : c.args.at < length items = omega (arith, c.requires.place.inside, length-map items (λ p. p.value)) in
    let same = set_same (λ p. p.value) items c.args.at c.put_in.new.node c.index_mut.result.now inside c.index_mut.ensures.value c.in_err-old.ensures.err in
    OnErr-always c.from_residual.result _ (ap joined same)

pub returns : goal.returns
returns c =
    let items = c.args.nodes.now.items in
    let nodes = values_of items in
    let at = c.args.at in
    let row = c.args.shown.value in
    let node = page_at nodes at in
    let new = with_row node row in
    let inside : at < length items = omega (arith, c.requires.place.inside, length-map items (λ p. p.value)) in
    let read : node ≡ c.index_mut.result.now.value = indexed (λ p. p.value) items at c.index_mut.result.now inside c.index_mut.ensures.value in
    let same : c.put_in.new.node.value ≡ new = c.in_ok-old.ensures.rows ∙ ap (λ (p : List RowData). with_row p row) (sym read) in
    let all : values_of (set items at c.put_in.new.node) ≡ replaced nodes at (at + 1) (new ∷ []) = set_page (λ p. p.value) items at c.put_in.new.node new inside same in
    let rows = c.settle.ensures.rows ∙ ap joined all ∙ put_rows nodes row at c.requires.place in
    record {
      rows = rows;
      answer = c.in_ok-old.ensures.answer ∙ ap (λ (r : List RowData). row_with r (key_of row)) (sym read) ∙ sym (row_found nodes (key_of row) at c.requires.place);
      len = put_count c.in_ok-old.old _ _ _ _ c.in_ok-old.ensures.len (omega (arith, ap length rows, with_length nodes row at c.requires.place, ap length same, ap length read));
      noded = c.settle.ensures.noded;
      err = tt;
    }
