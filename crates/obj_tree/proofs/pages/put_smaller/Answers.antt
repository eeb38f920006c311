use Rattle.std.proofs.Common.{◌≡◌, ◌+◌, ◌-◌, ◌++◌, List, length, ap, sym, ◌∙◌, subst, arith}
use Rattle.std.proofs.lemmas.Bool.{true≢false}
use Rattle.std.proofs.lemmas.List.{length-map}
use Rattle.kube_meta.specs.Rows.{RowData}
use Rattle.obj_tree.specs.Pages.{values_of, page_at, FitsBefore, FitsAfter}
use Rattle.obj_tree.proofs.PageLemmas.{indexed}
use Rattle.obj_tree.proofs.EditLemmas.{with_before, with_next, stays}
use Rattle.obj_tree.proofs.MarkLemmas.{joined_fewer}
use Rattle.obj_tree.proofs.pages.put_smaller.Goals as goal

pub returns-then-fits_before-clause-ok : goal.returns-then-fits_before-clause-ok
returns-then-fits_before-clause-ok c =
    let items = c.args.pages.now.items in
    let before = c.args.at - 1 in
    let counted : c.len.result ≡ length c.args.page = c.len.ensures in
    let told : FitsBefore (values_of items) c.args.at c.len.result = rw c.deref.ensures.value at (c.fits_before.ensures.0 c.if-fits_before.true) in
    let fits : FitsBefore (values_of items) c.args.at (length c.args.page) = subst (λ n. FitsBefore (values_of items) c.args.at n) counted told in
    let read = indexed (λ p. p.value) items before c.index.result.now (omega (arith, fits.0, c.requires.inside)) c.index.ensures in
    let both : c.in_ok-both.both ≡ page_at (values_of items) before ++ c.args.page =
    c.in_ok-both.ensures ∙ ap (λ (p : List RowData). p ++ c.args.page) (c.deref-then-fits_before.ensures ∙ sym read) in
    let now = with_before (values_of items) c.args.at c.args.page (omega (arith, length-map items (λ p. p.value), c.requires.inside)) c.requires.sized c.requires.full c.requires.smaller c.requires.some fits in
    rw (c.in_ok-put_joined.ensures.ok, both) now

pub returns-then-fits_after-clause-ok : goal.returns-then-fits_after-clause-ok
returns-then-fits_after-clause-ok c =
    let items = c.args.pages.now.items in
    let after = c.args.at + 1 in
    let counted : c.len-2.result ≡ length c.args.page = c.len-2.ensures in
    let told : FitsAfter (values_of items) c.args.at c.len-2.result = rw c.deref-2.ensures.value at (c.fits_after.ensures.0 c.if-fits_after.true) in
    let fits : FitsAfter (values_of items) c.args.at (length c.args.page) = subst (λ n. FitsAfter (values_of items) c.args.at n) counted told in
    let read = indexed (λ p. p.value) items after c.index-then-fits_after.result.now (omega (arith, fits.0, length-map items (λ p. p.value))) c.index-then-fits_after.ensures in
    let both : c.in_ok-both-2.both ≡ c.args.page ++ page_at (values_of items) after =
    c.in_ok-both-2.ensures ∙ ap (λ (p : List RowData). c.args.page ++ p) (c.deref-then-fits_after.ensures ∙ sym read) in
    let now = with_next (values_of items) c.args.at c.args.page (omega (arith, length-map items (λ p. p.value), c.requires.inside)) c.requires.sized c.requires.full c.requires.smaller c.requires.some fits in
    rw (c.in_ok-put_joined-2.ensures.ok, both) now

pub returns-clause-ok : goal.returns-clause-ok
returns-clause-ok c =
    let items = c.args.pages.now.items in
    let not_before : FitsBefore (values_of items) c.args.at (length c.args.page) → ⊥ = λ fits.
    let counted : length c.args.page ≡ c.len.result = sym c.len.ensures in
    let told : FitsBefore (values_of items) c.args.at c.len.result = subst (λ n. FitsBefore (values_of items) c.args.at n) counted fits in
    true≢false (sym (c.fits_before.ensures.1 (rw c.deref.ensures.value told)) ∙ c.if-fits_before.false) in
    let not_after : FitsAfter (values_of items) c.args.at (length c.args.page) → ⊥ = λ fits.
    let counted : length c.args.page ≡ c.len-2.result = sym c.len-2.ensures in
    let told : FitsAfter (values_of items) c.args.at c.len-2.result = subst (λ n. FitsAfter (values_of items) c.args.at n) counted fits in
    true≢false (sym (c.fits_after.ensures.1 (rw c.deref-2.ensures.value told)) ∙ c.if-fits_after.false) in
    let now = stays (values_of items) c.args.at c.args.page (omega (arith, length-map items (λ p. p.value), c.requires.inside)) c.requires.sized c.requires.full c.requires.smaller c.requires.some not_before not_after in
    rw c.in_ok-put_page.ensures.ok now

-- where two became one there are fewer
pub returns-then-fits_before-clause-near : goal.returns-then-fits_before-clause-near
returns-then-fits_before-clause-near c = λ more.
    let items = c.args.pages.now.items in
    let told : FitsBefore (values_of items) c.args.at c.len.result = rw c.deref.ensures.value at (c.fits_before.ensures.0 c.if-fits_before.true) in
    let fewer = joined_fewer (values_of items) (values_of c.put_joined.new.pages.items) (c.args.at - 1) c.in_ok-both.both (omega (arith, told.0, c.requires.inside, length-map items (λ p. p.value))) c.in_ok-put_joined.ensures.ok in
    absurd (omega (arith, more, fewer, length-map items (λ p. p.value), length-map c.put_joined.new.pages.items (λ p. p.value)))

pub returns-then-fits_after-clause-near : goal.returns-then-fits_after-clause-near
returns-then-fits_after-clause-near c = λ more.
    let items = c.args.pages.now.items in
    let told : FitsAfter (values_of items) c.args.at c.len-2.result = rw c.deref-2.ensures.value at (c.fits_after.ensures.0 c.if-fits_after.true) in
    let fewer = joined_fewer (values_of items) (values_of c.put_joined-then-fits_after.new.pages.items) c.args.at c.in_ok-both-2.both told.0 c.in_ok-put_joined-2.ensures.ok in
    absurd (omega (arith, more, fewer, length-map items (λ p. p.value), length-map c.put_joined-then-fits_after.new.pages.items (λ p. p.value)))
