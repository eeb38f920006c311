use Rattle.std.proofs.Common.{◌≡◌, ◌+◌, ◌<◌, ◌∷◌, [], List, length, ap, sym, ◌∙◌, subst, arith}
use Rattle.std.proofs.lemmas.List.{length-map}
use Rattle.kube_meta.specs.Rows.{RowData, row_with, AreRising}
use Rattle.obj_tree.specs.Maps.{without}
use Rattle.obj_tree.specs.Pages.{values_of, joined, page_at, replaced}
use Rattle.obj_tree.proofs.PageLemmas.{indexed}
use Rattle.obj_tree.proofs.NodeLemmas.{shrinks, gone_count, gone_rows, gone_rising, without_length, row_found}
use Rattle.obj_tree.proofs.nodes.remove_low.Goals as goal

pub put_smaller-requires-clause-rising : goal.put_smaller-requires-clause-rising
put_smaller-requires-clause-rising c =
    let items = c.args.nodes.now.items in
    let nodes = values_of items in
    let at = c.args.at in
    let key = c.args.key.now in
    let inside : at < length items = omega (arith, c.requires.place.inside, length-map items (λ p. p.value)) in
    let read : page_at nodes at ≡ c.in_ok-node.node = indexed (λ p. p.value) items at c.index.result.now inside c.index.ensures ∙ sym c.deref.ensures ∙ sym c.in_ok-node.ensures in
    let same : c.remove.new.self ≡ without (page_at nodes at) key = c.in_ok-old.ensures.rows ∙ ap (λ (p : List RowData). without p key) (sym read) in
    subst (λ (p : List RowData). AreRising (joined (replaced nodes at (at + 1) (p ∷ [])))) (sym same) (gone_rising nodes key at c.requires.noded c.requires.place)

pub put_smaller-requires-clause-few : goal.put_smaller-requires-clause-few
put_smaller-requires-clause-few c =
    let items = c.args.nodes.now.items in
    let nodes = values_of items in
    let at = c.args.at in
    let key = c.args.key.now in
    let inside : at < length items = omega (arith, c.requires.place.inside, length-map items (λ p. p.value)) in
    let read : page_at nodes at ≡ c.in_ok-node.node = indexed (λ p. p.value) items at c.index.result.now inside c.index.ensures ∙ sym c.deref.ensures ∙ sym c.in_ok-node.ensures in
    let same : c.remove.new.self ≡ without (page_at nodes at) key = c.in_ok-old.ensures.rows ∙ ap (λ (p : List RowData). without p key) (sym read) in
    let rows = ap (λ (p : List RowData). joined (replaced nodes at (at + 1) (p ∷ []))) same ∙ gone_rows nodes key at c.requires.place in
    let less = shrinks c.in_ok-old.old _ _ c.in_ok-old.ensures.len in
    omega (arith, ap length rows, without_length nodes key at c.requires.place, less.1, ap length same, ap length read, c.requires.few)

pub returns : goal.returns
returns c =
    let items = c.args.nodes.now.items in
    let nodes = values_of items in
    let at = c.args.at in
    let key = c.args.key.now in
    let inside : at < length items = omega (arith, c.requires.place.inside, length-map items (λ p. p.value)) in
    let read : page_at nodes at ≡ c.in_ok-node.node = indexed (λ p. p.value) items at c.index.result.now inside c.index.ensures ∙ sym c.deref.ensures ∙ sym c.in_ok-node.ensures in
    let same : c.remove.new.self ≡ without (page_at nodes at) key = c.in_ok-old.ensures.rows ∙ ap (λ (p : List RowData). without p key) (sym read) in
    let rows = c.in_ok-put_smaller.ensures.ok ∙ ap (λ (p : List RowData). joined (replaced nodes at (at + 1) (p ∷ []))) same ∙ gone_rows nodes key at c.requires.place in
    record {
      rows = rows;
      answer = c.in_ok-old.ensures.answer ∙ ap (λ (r : List RowData). row_with r key) (sym read) ∙ sym (row_found nodes key at c.requires.place);
      len = gone_count c.in_ok-old.old _ _ _ _ c.in_ok-old.ensures.len (omega (arith, ap length rows, without_length nodes key at c.requires.place, ap length same, ap length read));
      noded = c.put_smaller.ensures.noded;
      err = tt;
    }
