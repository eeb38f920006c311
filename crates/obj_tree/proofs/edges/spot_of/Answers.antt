use Rattle.std.proofs.Common.{◌≡◌, ◌<◌, List, length, ap, sym, ◌∙◌, subst, arith}
use Rattle.std.proofs.lemmas.List.{length-map}
use Rattle.kube_meta.specs.Rows.{RowData, AreRising}
use Rattle.obj_tree.specs.Edges.{edge_text, AreBefore, IsSpot}
use Rattle.obj_tree.specs.Pages.{parts_of, page_at}
use Rattle.obj_tree.proofs.EdgeLemmas.{at_spot, page_end, none_before}
use Rattle.obj_tree.proofs.PageLemmas.{indexed, rising_at}
use Rattle.obj_tree.proofs.edges.spot_of.Goals as goal

pub count_before-row-requires : goal.count_before-row-requires
count_before-row-requires g c =
    let items = c.args.parts.now in
    let pages = parts_of g.P.Part.rows items in
    let at = c.part_at-part.result in
    let inside : at < length items = omega (arith, c.part_at-part.ensures.inside, c.if-part-parts.false) in
    let read = indexed (λ p. g.P.Part.rows p.value) items at c.index-parts-part.result inside c.index-parts-part.is in
    let same : page_at pages at ≡ g.P.Part.rows c.deref.result.now = read ∙ ap g.P.Part.rows (sym c.deref.ensures) in
    subst (λ (rows : List RowData). AreRising rows) same (rising_at pages at c.requires.rising (omega (arith, inside, length-map items (λ p. g.P.Part.rows p.value))))

pub returns-then-part-parts-clause-spot : goal.returns-then-part-parts-clause-spot
returns-then-part-parts-clause-spot g c = record {
  part_is = omega (arith, c.part_at-part.ensures.inside, length-map c.args.parts.now (λ p. g.P.Part.rows p.value));
  row_is = omega arith;
}

pub returns-then-part-parts-clause-rows : goal.returns-then-part-parts-clause-rows
returns-then-part-parts-clause-rows g c =
    let pages = parts_of g.P.Part.rows c.args.parts.now in
    let text = edge_text c.args.edge.now in
    let at = c.part_at-part.result in
    let all = length-map c.args.parts.now (λ p. g.P.Part.rows p.value) in
    let is : IsSpot pages (record { part = at; row = 0 }) = record { part_is = omega (arith, c.part_at-part.ensures.inside, all); row_is = omega arith } in
    at_spot text pages (record { part = at; row = 0 }) is c.part_at-part.ensures.before (none_before text (page_at pages at) (page_end pages at (omega (arith, all, c.if-part-parts.true)))) c.part_at-part.ensures.after

pub returns-clause-spot : goal.returns-clause-spot
returns-clause-spot g c =
    let items = c.args.parts.now in
    let pages = parts_of g.P.Part.rows items in
    let at = c.part_at-part.result in
    let inside : at < length items = omega (arith, c.part_at-part.ensures.inside, c.if-part-parts.false) in
    let read = indexed (λ p. g.P.Part.rows p.value) items at c.index-parts-part.result inside c.index-parts-part.is in
    let same : page_at pages at ≡ g.P.Part.rows c.deref.result.now = read ∙ ap g.P.Part.rows (sym c.deref.ensures) in
    record {
      part_is = omega (arith, c.part_at-part.ensures.inside, length-map items (λ p. g.P.Part.rows p.value));
      row_is = omega (arith, c.count_before-row.ensures.inside, ap length same);
    }

pub returns-clause-rows : goal.returns-clause-rows
returns-clause-rows g c =
    let items = c.args.parts.now in
    let pages = parts_of g.P.Part.rows items in
    let text = edge_text c.args.edge.now in
    let at = c.part_at-part.result in
    let row = c.count_before-row.result in
    let inside : at < length items = omega (arith, c.part_at-part.ensures.inside, c.if-part-parts.false) in
    let read = indexed (λ p. g.P.Part.rows p.value) items at c.index-parts-part.result inside c.index-parts-part.is in
    let same : page_at pages at ≡ g.P.Part.rows c.deref.result.now = read ∙ ap g.P.Part.rows (sym c.deref.ensures) in
    let is : IsSpot pages (record { part = at; row = row }) = record {
      part_is = omega (arith, c.part_at-part.ensures.inside, length-map items (λ p. g.P.Part.rows p.value));
      row_is = omega (arith, c.count_before-row.ensures.inside, ap length same);
    } in
    at_spot text pages (record { part = at; row = row }) is c.part_at-part.ensures.before (subst (λ (rows : List RowData). AreBefore text rows row) (sym same) c.count_before-row.ensures) c.part_at-part.ensures.after
