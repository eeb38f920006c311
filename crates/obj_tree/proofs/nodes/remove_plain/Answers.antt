use Rattle.std.proofs.Common.{◌≡◌, ◌+◌, ◌<◌, ◌≤◌, ◌∷◌, [], List, length, set, ap, sym, ◌∙◌, subst, arith}
use Rattle.std.proofs.Math.ListN.{length-set}
use Rattle.std.proofs.lemmas.List.{length-map}
use Rattle.kube_meta.specs.Rows.{RowData, row_with}
use Rattle.obj_tree.specs.Maps.{without}
use Rattle.obj_tree.specs.Pages.{values_of, joined, page_at, replaced, IsNoded}
use Rattle.obj_tree.proofs.PageLemmas.{indexed, set_page, set_same, OnErr-always}
use Rattle.obj_tree.proofs.NodeLemmas.{sole_of, shrinks, gone_count, gone_noded, gone_rows, whole_rows, whole_noded, without_length, row_found, page_put, put_gone}
use Rattle.obj_tree.proofs.nodes.remove_plain.Goals as goal

pub returns-in_err-old-clause-noded : goal.returns-in_err-old-clause-noded
returns-in_err-old-clause-noded c =
    let items = c.args.nodes.now.items in
    let inside : c.args.at < length items = omega (arith, c.requires.place.inside, length-map items (λ p. p.value)) in
    let same = set_same (λ p. p.value) items c.args.at c.remove_in.new.node c.index_mut.result.now inside c.index_mut.ensures.value c.in_err-old.ensures.err in
    subst (λ (p : List (List RowData)). IsNoded p) (sym same) c.requires.noded

pub returns-in_err-old-clause-err : goal.returns-in_err-old-clause-err
returns-in_err-old-clause-err c =
    let items = c.args.nodes.now.items in
    let inside : c.args.at < length items = omega (arith, c.requires.place.inside, length-map items (λ p. p.value)) in
    let same = set_same (λ p. p.value) items c.args.at c.remove_in.new.node c.index_mut.result.now inside c.index_mut.ensures.value c.in_err-old.ensures.err in
    OnErr-always c.from_residual.result _ (ap joined same)

pub returns-then-len-eq0 : goal.returns-then-len-eq0
returns-then-len-eq0 c =
    let items = c.args.nodes.now.items in
    let nodes = values_of items in
    let at = c.args.at in
    let key = c.args.key.now in
    let node = page_at nodes at in
    let new = without node key in
    let inside : at < length items = omega (arith, c.requires.place.inside, length-map items (λ p. p.value)) in
    let read : node ≡ c.index_mut.result.now.value = indexed (λ p. p.value) items at c.index_mut.result.now inside c.index_mut.ensures.value in
    let same : c.remove_in.new.node.value ≡ new = c.in_ok-old.ensures.rows ∙ ap (λ (p : List RowData). without p key) (sym read) in
    let all : values_of (set items at c.remove_in.new.node) ≡ replaced nodes at (at + 1) (new ∷ []) = set_page (λ p. p.value) items at c.remove_in.new.node new inside same in
    let within : at < length (set items at c.remove_in.new.node) = simp length-set inside in
    let again = indexed (λ p. p.value) (set items at c.remove_in.new.node) at c.index.result.now within c.index.ensures in
    let none : length new ≡ 0 = omega (arith, ap length (sym (page_put nodes at new c.requires.place.inside) ∙ sym (ap (λ (p : List (List RowData)). page_at p at) all) ∙ again ∙ sym c.deref.ensures), c.len.ensures, c.if-len-eq0.true) in
    let less = shrinks c.in_ok-old.old _ _ c.in_ok-old.ensures.len in
    let sole : length nodes ≤ 1 = omega (arith, sole_of (length items) (length node) c.requires.large (omega (arith, less.0, none, ap length same, ap length read)), length-map items (λ p. p.value)) in
    let gone = c.drop_node.ensures ∙ ap (λ (p : List (List RowData)). replaced p at (at + 1) []) all ∙ put_gone nodes at new c.requires.place.inside in
    let rows = ap joined gone ∙ whole_rows nodes key at c.requires.noded c.requires.place none in
    record {
      rows = rows;
      answer = c.in_ok-old.ensures.answer ∙ ap (λ (r : List RowData). row_with r key) (sym read) ∙ sym (row_found nodes key at c.requires.place);
      len = gone_count c.in_ok-old.old _ _ _ _ c.in_ok-old.ensures.len (omega (arith, ap length rows, without_length nodes key at c.requires.place, ap length same, ap length read));
      noded = subst (λ (p : List (List RowData)). IsNoded p) (sym gone) (whole_noded nodes key at c.requires.noded c.requires.place none sole);
      err = tt;
    }

pub returns : goal.returns
returns c =
    let items = c.args.nodes.now.items in
    let nodes = values_of items in
    let at = c.args.at in
    let key = c.args.key.now in
    let node = page_at nodes at in
    let new = without node key in
    let inside : at < length items = omega (arith, c.requires.place.inside, length-map items (λ p. p.value)) in
    let read : node ≡ c.index_mut.result.now.value = indexed (λ p. p.value) items at c.index_mut.result.now inside c.index_mut.ensures.value in
    let same : c.remove_in.new.node.value ≡ new = c.in_ok-old.ensures.rows ∙ ap (λ (p : List RowData). without p key) (sym read) in
    let all : values_of (set items at c.remove_in.new.node) ≡ replaced nodes at (at + 1) (new ∷ []) = set_page (λ p. p.value) items at c.remove_in.new.node new inside same in
    let within : at < length (set items at c.remove_in.new.node) = simp length-set inside in
    let again = indexed (λ p. p.value) (set items at c.remove_in.new.node) at c.index.result.now within c.index.ensures in
    let left : length new ≡ c.len.result = omega (arith, ap length (sym (page_put nodes at new c.requires.place.inside) ∙ sym (ap (λ (p : List (List RowData)). page_at p at) all) ∙ again ∙ sym c.deref.ensures), c.len.ensures) in
    let less = shrinks c.in_ok-old.old _ _ c.in_ok-old.ensures.len in
    let large : 1 < length nodes → 512 ≤ length new = λ many. omega (arith, c.requires.large (omega (arith, many, length-map items (λ p. p.value))), less.0, ap length same, ap length read) in
    let rows = ap joined all ∙ gone_rows nodes key at c.requires.place in
    record {
      rows = rows;
      answer = c.in_ok-old.ensures.answer ∙ ap (λ (r : List RowData). row_with r key) (sym read) ∙ sym (row_found nodes key at c.requires.place);
      len = gone_count c.in_ok-old.old _ _ _ _ c.in_ok-old.ensures.len (omega (arith, ap length rows, without_length nodes key at c.requires.place, ap length same, ap length read));
      noded = subst (λ (p : List (List RowData)). IsNoded p) (sym all) (gone_noded nodes key at c.requires.noded c.requires.place (omega (arith, left, c.if-len-eq0.false)) large);
      err = tt;
    }
