use Rattle.std.proofs.Common.{◌+◌, ◌<◌, length, arith, List, sym, ◌∙◌, subst}
use Rattle.std.proofs.lemmas.List.{length-map}
use Rattle.kube_meta.specs.Rows.{RowData}
use Rattle.obj_tree.specs.Marks.{IsMark}
use Rattle.obj_tree.specs.Pages.{values_of}
use Rattle.obj_tree.proofs.PageLemmas.{indexed}
use Rattle.obj_tree.proofs.MarkLemmas.{marks_cut, marks_divided}
use Rattle.obj_tree.proofs.mark.follow_divided.Goals as goal

pub returns-in-Ok : goal.returns-in-Ok
returns-in-Ok c =
    let pages = c.args.pages.now in
    let old = c.requires.old in
    let two : c.args.at + 1 < length pages = omega (arith, old.1, old.2, length-map pages (λ p. p.value)) in
    let read = indexed (λ p. p.value) pages c.args.at c.index-pages-at.result (omega (arith, two)) c.index-pages-at.is in
    let read_next = indexed (λ p. p.value) pages (c.args.at + 1) c.index-pages-at-2.result two c.index-pages-at-2.is in
    let first = subst (λ (p : List RowData). IsMark c.mark.result p) (c.deref.ensures ∙ sym read) c.mark.ensures in
    let second = subst (λ (p : List RowData). IsMark c.mark-2.result p) (c.deref-2.ensures ∙ sym read_next) c.mark-2.ensures in
    rw c.in-Ok.ensures.items (marks_divided c.args.marks.now.items old.0 (values_of pages) c.args.at c.mark.result c.mark-2.result old.3 old.4 (old.1 ∙ sym (length-map pages (λ p. p.value))) old.2 c.requires.inside first second)

pub returns-in-Err : goal.returns-in-Err
returns-in-Err c =
    let pages = c.args.pages.now in
    let old = c.requires.old in
    let two : c.args.at + 1 < length pages = omega (arith, old.1, old.2, length-map pages (λ p. p.value)) in
    let read = indexed (λ p. p.value) pages c.args.at c.index-pages-at.result (omega (arith, two)) c.index-pages-at.is in
    let first = subst (λ (p : List RowData). IsMark c.mark.result p) (c.deref.ensures ∙ sym read) c.mark.ensures in
    rw (c.truncate.ensures.items, c.in-Err.ensures.items) (marks_cut c.args.marks.now.items old.0 (values_of pages) c.args.at c.mark.result c.mark-2.result old.3 old.4 (old.1 ∙ sym (length-map pages (λ p. p.value))) old.2 c.requires.inside first)
