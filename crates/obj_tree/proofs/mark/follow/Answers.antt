use Rattle.std.proofs.Common.{◌≡◌, List, length, arith, sym, ◌∙◌, subst}
use Rattle.std.proofs.lemmas.List.{length-map}
use Rattle.kube_meta.specs.Rows.{RowData}
use Rattle.obj_tree.specs.Marks.{IsMark}
use Rattle.obj_tree.specs.Pages.{values_of}
use Rattle.obj_tree.proofs.PageLemmas.{indexed}
use Rattle.obj_tree.proofs.MarkLemmas.{marks_set}
use Rattle.obj_tree.proofs.mark.follow.Goals as goal

pub returns-then-at-len : goal.returns-then-at-len
returns-then-at-len c =
    let pages = c.args.pages.now in
    let old = c.requires.old in
    let same : length pages ≡ c.args.count = omega (arith, c.if-pages-count.true) in
    let read = indexed (λ p. p.value) pages c.args.at c.index-pages-at.result (omega (arith, same, c.requires.inside)) c.index-pages-at.is in
    let is = subst (λ (p : List RowData). IsMark c.mark.result p) (c.deref.ensures ∙ sym read) c.mark.ensures in
    marks_set c.args.marks.now.items old.0 (values_of pages) c.args.at c.mark.result old.2 (old.3 (omega (arith, same)))
    (omega (arith, same, old.1, length-map pages (λ p. p.value))) (omega (arith, old.1, c.requires.inside)) (omega (arith, c.if-at-len.true, c.len.ensures)) is

pub follow_divided-requires-clause-old : goal.follow_divided-requires-clause-old
follow_divided-requires-clause-old c =
    let old = c.requires.old in
    (old.0, omega (arith, old.1), omega (arith, old.1, c.requires.inside), old.2, old.3 (omega arith))
