use Rattle.std.proofs.Common.{◌≡◌, ◌∷◌, ◌++◌, ◌+◌, List, length, drop, ap, sym, ◌∙◌, subst, arith, length-append, length-drop}
use Rattle.std.proofs.lemmas.List.{length-map}
use Rattle.kube_meta.specs.Rows.{RowData}
use Rattle.obj_tree.specs.Pages.{values_of, joined}
use Rattle.obj_tree.specs.Marks.{IsFirstMark}
use Rattle.obj_tree.specs.Words.{AreUnfit}
use Rattle.obj_tree.proofs.MapEdits.{within_first}
use Rattle.obj_tree.proofs.MarkLemmas.{mark_first}
use Rattle.obj_tree.proofs.WordLemmas.{no_page, page_stays, page_passes}
use Rattle.obj_tree.proofs.rows.passed.Goals as goal

pub returns-in_err-page : goal.returns-in_err-page
returns-in_err-page c =
    let none : length (values_of c.args.pages.now) ≡ 0 = length-map c.args.pages.now (λ p. p.value) ∙ c.in_err-page.ensures.cases in
    rw c.from_residual.ensures (no_page c.args.mask c.args.left c.args.place (values_of c.args.pages.now) (values_of c.args.nodes.now) none c.requires.place)

pub unfit_of-unfit-requires-clause-from : goal.unfit_of-unfit-requires-clause-from
unfit_of-unfit-requires-clause-from c =
    let same : values_of c.args.pages.now ≡ c.in_ok-page.page.now.value ∷ values_of c.in_ok-page.field-0-1.now = ap values_of c.in_ok-page.ensures.cases.0 in
    let inside = within_first (values_of c.args.pages.now) (values_of c.args.nodes.now) c.in_ok-page.page.now.value (values_of c.in_ok-page.field-0-1.now) c.args.place same c.requires.place in
    omega (arith, inside, ap length c.deref.ensures)

pub unfit_of-unfit-requires-clause-marks : goal.unfit_of-unfit-requires-clause-marks
unfit_of-unfit-requires-clause-marks c =
    subst (λ (p : List RowData). IsFirstMark c.args.marks.now p) (sym c.deref.ensures)
    (mark_first c.args.marks.now (values_of c.args.pages.now) (values_of c.in_ok-page.field-0-1.now) c.in_ok-page.page.now.value (ap values_of c.in_ok-page.ensures.cases.0) c.requires.marks)

pub overflow_add-place : goal.overflow_add-place
overflow_add-place c = omega (arith, c.unfit_of-unfit.ensures.fits, c.min-over.ensures)

pub returns-then-over-eq0 : goal.returns-then-over-eq0
returns-then-over-eq0 c =
    let pages = values_of c.args.pages.now in
    let nodes = values_of c.args.nodes.now in
    let first = c.in_ok-page.page.now.value in
    let rest = values_of c.in_ok-page.field-0-1.now in
    let same : pages ≡ first ∷ rest = ap values_of c.in_ok-page.ensures.cases.0 in
    let inside = within_first pages nodes first rest c.args.place same c.requires.place in
    let are = subst (λ (p : List RowData). AreUnfit c.args.mask (drop c.args.place p) c.unfit_of-unfit.result) c.deref.ensures c.unfit_of-unfit.ensures.unfit in
    page_stays pages nodes first rest c.args.place c.args.left same inside c.args.mask c.unfit_of-unfit.result are (sym c.min-over.ensures ∙ c.if-over-eq0.true)

pub lent-requires-clause-place : goal.lent-requires-clause-place
lent-requires-clause-place c =
    let pages = values_of c.args.pages.now in
    let first = c.in_ok-page.page.now.value in
    let rest = values_of c.in_ok-page.field-0-1.now in
    let same : pages ≡ first ∷ rest = ap values_of c.in_ok-page.ensures.cases.0 in
    let inside = within_first pages (values_of c.args.nodes.now) first rest c.args.place same c.requires.place in
    let are = subst (λ (p : List RowData). AreUnfit c.args.mask (drop c.args.place p) c.unfit_of-unfit.result) c.deref.ensures c.unfit_of-unfit.ensures.unfit in
    omega (arith, inside, are.inside, c.min-over.ensures, length-drop c.args.place first, ap (λ (p : List (List RowData)). length (joined p)) same, length-append first (joined rest))

pub lent-requires-clause-left : goal.lent-requires-clause-left
lent-requires-clause-left c =
    let all = joined (values_of c.args.pages.now ++ values_of c.args.nodes.now) in
    omega (arith, c.requires.left, c.min-over.ensures, length-drop c.args.place all, length-drop (c.args.place + c.min-over.result) all)

pub returns : goal.returns
returns c =
    let pages = values_of c.args.pages.now in
    let nodes = values_of c.args.nodes.now in
    let first = c.in_ok-page.page.now.value in
    let rest = values_of c.in_ok-page.field-0-1.now in
    let same : pages ≡ first ∷ rest = ap values_of c.in_ok-page.ensures.cases.0 in
    let inside = within_first pages nodes first rest c.args.place same c.requires.place in
    let are = subst (λ (p : List RowData). AreUnfit c.args.mask (drop c.args.place p) c.unfit_of-unfit.result) c.deref.ensures c.unfit_of-unfit.ensures.unfit in
    page_passes pages nodes first rest c.args.place c.args.left same inside c.args.mask c.unfit_of-unfit.result c.min-over.result c.lent.result are
    (omega (arith, c.min-over.ensures)) (omega (arith, c.min-over.ensures)) (omega (arith, c.if-over-eq0.false)) c.lent.ensures
