use Rattle.std.proofs.Common.{◌≡◌, ◌+◌, suc, length, take, ap, sym, ◌∙◌, arith}
use Rattle.std.proofs.lemmas.List.{length-map}
use Rattle.obj_tree.specs.Pages.{parts_of, joined, page_at}
use Rattle.obj_tree.proofs.PageLemmas.{indexed}
use Rattle.obj_tree.proofs.SpanLemmas.{count_more, count_part}
use Rattle.obj_tree.proofs.rows.rows_in.Goals as goal

pub overflow_add-count : goal.overflow_add-count
overflow_add-count g c =
    let items = c.args.parts.now in
    let parts = parts_of g.P.Part.rows items in
    let at = c.loop-part.part-index in
    let read = indexed (λ p. g.P.Part.rows p.value) items at c.part-item.result (omega (arith, c.loop-part-test.true)) c.part-item.is in
    let more = count_more parts at (omega (arith, c.loop-part-test.true, length-map items (λ p. g.P.Part.rows p.value))) in
    let counted : c.len-count.result ≡ length (page_at parts at) = c.len-count.ensures ∙ ap length (ap g.P.Part.rows c.deref.ensures ∙ sym read) in
    omega (arith, more, counted, count_part parts (suc at), c.requires, c.loop-part.invariant)

pub loop-part-preserved : goal.loop-part-preserved
loop-part-preserved g c =
    let items = c.args.parts.now in
    let parts = parts_of g.P.Part.rows items in
    let at = c.loop-part.part-index in
    let read = indexed (λ p. g.P.Part.rows p.value) items at c.part-item.result (omega (arith, c.loop-part-test.true)) c.part-item.is in
    let more = count_more parts at (omega (arith, c.loop-part-test.true, length-map items (λ p. g.P.Part.rows p.value))) in
    let counted : c.len-count.result ≡ length (page_at parts at) = c.len-count.ensures ∙ ap length (ap g.P.Part.rows c.deref.ensures ∙ sym read) in
    let on : suc at ≡ at + 1 = omega arith in
    omega (arith, more, counted, c.loop-part.invariant) ∙ ap (λ (n : _). length (joined (take n parts))) on
