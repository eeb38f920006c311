use Rattle.std.proofs.Common.{◌≡◌, ◌+◌, ◌<◌, suc, true, false, ℕ, length, drop, ap, sym, ◌∙◌, subst, arith}
use Rattle.std.specs.List.{list_all}
use Rattle.std.proofs.lemmas.List.{length-map}
use Rattle.kube_meta.specs.Rows.{is_behind}
use Rattle.obj_tree.specs.Pages.{parts_of, joined, page_at, begins_by}
use Rattle.obj_tree.proofs.PageLemmas.{indexed}
use Rattle.obj_tree.proofs.SearchLemmas.{below_page, behind_page}
use Rattle.obj_tree.proofs.search.last_begun.Goals as goal

pub loop-at-preserved : goal.loop-at-preserved
loop-at-preserved g c =
    let items = c.args.parts.now in
    let parts = parts_of g.P.Part.rows items in
    let key = c.args.sought.now in
    let next = c.loop-at.at + c.args.step in
    let within : next < length items = omega (arith, c.loop-at-test.true, c.loop-at.invariant.0) in
    let read = indexed (λ p. g.P.Part.rows p.value) items next c.index-parts-at.result within c.index-parts-at.is in
    let begun : begins_by key (page_at parts next) ≡ true =
    ap (begins_by key) (read ∙ ap g.P.Part.rows (sym c.deref.ensures)) ∙ sym c.begins_by.ensures ∙ c.if-begins_by.true in
    (within, below_page parts key next (omega (arith, within, length-map items (λ p. g.P.Part.rows p.value))) c.requires.parted begun)

pub returns-else-begins_by-clause-after : goal.returns-else-begins_by-clause-after
returns-else-begins_by-clause-after g c = λ one.
    let items = c.args.parts.now in
    let parts = parts_of g.P.Part.rows items in
    let key = c.args.sought.now in
    let next = c.loop-at.at + c.args.step in
    let within : next < length items = omega (arith, c.loop-at-test.true, c.loop-at.invariant.0) in
    let read = indexed (λ p. g.P.Part.rows p.value) items next c.index-parts-at.result within c.index-parts-at.is in
    let above : begins_by key (page_at parts next) ≡ false =
    ap (begins_by key) (read ∙ ap g.P.Part.rows (sym c.deref.ensures)) ∙ sym c.begins_by.ensures ∙ c.if-begins_by.false in
    let on : next ≡ suc c.loop-at.at = omega (arith, one) in
    subst (λ (n : ℕ). list_all (is_behind key) (joined (drop n parts)) ≡ true) on (behind_page parts key next (omega (arith, within, length-map items (λ p. g.P.Part.rows p.value))) c.requires.parted above)
