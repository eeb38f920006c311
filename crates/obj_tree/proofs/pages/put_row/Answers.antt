use Rattle.std.proofs.Common.{◌≡◌, ◌∷◌, [], ◌+◌, nat_lt, not, true, false, length, take, drop, ℕ, List, OnOk, sym, ap, ◌∙◌, subst, arith}
use Rattle.std.proofs.lemmas.List.{length-map}
use Rattle.kube_meta.specs.Rows.{RowData}
use Rattle.obj_tree.specs.Pages.{values_of, page_at, row_put, divided, replaced}
use Rattle.obj_tree.proofs.PageLemmas.{set_page, set_same, OnErr-always, indexed, undivided, two_halves, no_room, sized_at}
use Rattle.obj_tree.proofs.pages.put_row.Goals as goal

pub returns-then-has_room-clause-ok : goal.returns-then-has_room-clause-ok
returns-then-has_room-clause-ok c =
    let items = c.args.pages.now.items in
    let page = page_at (values_of items) c.args.at in
    let row = c.args.shown.value in
    let new = row_put page c.args.from c.args.to row in
    let read : page ≡ c.index_mut.result.now.value = indexed (λ p. p.value) items c.args.at c.index_mut.result.now c.requires.inside c.index_mut.ensures.value in
    let same : c.put_in.new.page.value ≡ new = c.in_ok-put_in.ensures.ok ∙ ap (λ (p : List RowData). row_put p c.args.from c.args.to row) (sym read) in
    let told = sym c.if-has_room.true ∙ c.has_room.ensures row in
    let small : true ≡ not (nat_lt 64 (length new)) = rw c.deref.ensures.value at told in
    let whole : divided new ≡ new ∷ [] = undivided new small in
    rw whole (set_page (λ p. p.value) items c.args.at c.put_in.new.page new c.requires.inside same)

pub returns-in_err-put_in-clause-err : goal.returns-in_err-put_in-clause-err
returns-in_err-put_in-clause-err c =
    let items = c.args.pages.now.items in
    OnErr-always c.from_residual.result _ (set_same (λ p. p.value) items c.args.at c.put_in.new.page c.index_mut.result.now c.requires.inside c.index_mut.ensures.value c.in_err-put_in.ensures.err)

pub put_full-requires-clause-long : goal.put_full-requires-clause-long
put_full-requires-clause-long c =
    let pages = values_of c.args.pages.now.items in
    let page = page_at pages c.args.at in
    let row = c.args.shown.value in
    let told : false ≡ not (nat_lt 64 (length (row_put page c.args.from c.args.to row))) = rw c.deref.ensures.value at (sym c.if-has_room.false ∙ c.has_room.ensures row) in
    let few = sized_at pages c.args.at c.requires.sized (omega (arith, c.requires.inside, length-map c.args.pages.now.items (λ p. p.value))) in
    let full = no_room page c.args.from c.args.to row c.requires.order c.requires.place few.1 told in
    omega (arith, full.0)

pub returns-clause-ok : goal.returns-clause-ok
returns-clause-ok c =
    let pages = values_of c.args.pages.now.items in
    let at = c.args.at in
    let page = page_at pages at in
    let row = c.args.shown.value in
    let new = row_put page c.args.from c.args.to row in
    let told : false ≡ not (nat_lt 64 (length new)) = rw c.deref.ensures.value at (sym c.if-has_room.false ∙ c.has_room.ensures row) in
    let few = sized_at pages at c.requires.sized (omega (arith, c.requires.inside, length-map c.args.pages.now.items (λ p. p.value))) in
    let full = no_room page c.args.from c.args.to row c.requires.order c.requires.place few.1 told in
    let halves = subst (λ (t : ℕ). OnOk c.put_full.result (values_of c.put_full.new.pages.items ≡ replaced pages at (at + 1) (take 32 (row_put page c.args.from t row) ∷ drop 32 (row_put page c.args.from t row) ∷ []))) full.1 c.put_full.ensures.ok in
    subst (λ (others : List (List RowData)). OnOk c.put_full.result (values_of c.put_full.new.pages.items ≡ replaced pages at (at + 1) others)) (sym (two_halves new told)) halves
