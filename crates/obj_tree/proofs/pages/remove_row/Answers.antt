use Rattle.std.proofs.Common.{◌≡◌, ◌-◌, ◌<◌, length, List, [], ◌∷◌, refl, ap, sym, ◌∙◌, subst, arith}
use Rattle.std.proofs.lemmas.List.{length-map}
use Rattle.kube_meta.specs.Rows.{RowData}
use Rattle.obj_tree.specs.Pages.{values_of, page_at, row_gone, FitsBefore, FitsAfter}
use Rattle.obj_tree.proofs.PageLemmas.{indexed, set_page, set_same, OnErr-always}
use Rattle.obj_tree.proofs.EditLemmas.{gone, stays, one_less}
use Rattle.obj_tree.proofs.pages.remove_row.Goals as goal

pub returns-then-left-eq0-clause-ok : goal.returns-then-left-eq0-clause-ok
returns-then-left-eq0-clause-ok c =
    let items = c.args.pages.now.items in
    let page = page_at (values_of items) c.args.at in
    let inside : c.args.at < length (values_of items) = omega (arith, length-map items (λ p. p.value), c.requires.inside) in
    let read : page ≡ c.index.result.now.value = indexed (λ p. p.value) items c.args.at c.index.result.now c.requires.inside c.index.ensures in
    let less = one_less page c.args.place c.requires.place in
    let empty : length (row_gone page c.args.place) ≡ 0 = omega (arith, less, ap length read, ap length c.deref.ensures, c.len-left.ensures, c.if-left-eq0.true) in
    rw c.drop_page.ensures (gone (values_of items) c.args.at (row_gone page c.args.place) inside c.requires.sized c.requires.full less empty)

pub returns-in_err-remove_in-clause-err : goal.returns-in_err-remove_in-clause-err
returns-in_err-remove_in-clause-err c =
    let items = c.args.pages.now.items in
    OnErr-always c.from_residual.result _ (set_same (λ p. p.value) items c.args.at c.remove_in.new.page c.index_mut.result.now c.requires.inside c.index_mut.ensures.value c.in_err-remove_in.ensures.err)

pub returns-then-stays-clause-ok : goal.returns-then-stays-clause-ok
returns-then-stays-clause-ok c =
    let items = c.args.pages.now.items in
    let page = page_at (values_of items) c.args.at in
    let new = row_gone page c.args.place in
    let inside : c.args.at < length (values_of items) = omega (arith, length-map items (λ p. p.value), c.requires.inside) in
    let first : page ≡ c.index.result.now.value = indexed (λ p. p.value) items c.args.at c.index.result.now c.requires.inside c.index.ensures in
    let read : page ≡ c.index_mut.result.now.value = indexed (λ p. p.value) items c.args.at c.index_mut.result.now c.requires.inside c.index_mut.ensures.value in
    let same : c.remove_in.new.page.value ≡ new = c.in_ok-remove_in.ensures.ok ∙ ap (λ (p : List RowData). row_gone p c.args.place) (sym read) in
    let less = one_less page c.args.place c.requires.place in
    let left : length new ≡ c.len-left.result - 1 = omega (arith, less, ap length first, ap length c.deref.ensures, c.len-left.ensures) in
    let not_before : FitsBefore (values_of items) c.args.at (length new) → ⊥ = λ fits.
    c.stays.ensures.before c.if-stays.true (rw c.deref-2.ensures.value (subst (λ n. FitsBefore (values_of items) c.args.at n) left fits)) in
    let not_after : FitsAfter (values_of items) c.args.at (length new) → ⊥ = λ fits.
    c.stays.ensures.after c.if-stays.true (rw c.deref-2.ensures.value (subst (λ n. FitsAfter (values_of items) c.args.at n) left fits)) in
    let now = stays (values_of items) c.args.at new inside c.requires.sized c.requires.full less (omega (arith, left, c.if-left-eq0.false)) not_before not_after in
    rw (set_page (λ p. p.value) items c.args.at c.remove_in.new.page new c.requires.inside same) now

pub returns-then-stays-clause-near : goal.returns-then-stays-clause-near
returns-then-stays-clause-near c = λ more.
    let new = c.remove_in.new.page in
    (new.value ∷ [], set_page (λ p. p.value) c.args.pages.now.items c.args.at new new.value c.requires.inside refl)
