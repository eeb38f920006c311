use Rattle.std.proofs.Common.{◌≡◌, ◌-◌, List, length, drop, ap, ◌∙◌, sym, subst, arith}
use Rattle.std.proofs.lemmas.List.{length-map}
use Rattle.kube_meta.specs.Rows.{RowData}
use Rattle.kube_meta.specs.Words.{labels_word, fields_word}
use Rattle.obj_tree.specs.Words.{AreUnfit}
use Rattle.obj_tree.proofs.WordLemmas.{columns_tell}
use Rattle.obj_tree.proofs.page.Page.unfit.Goals as goal

pub first_with-middle-requires : goal.first_with-middle-requires
first_with-middle-requires c =
    let items = c.self.inside.rows.items in
    omega (arith, c.requires, ap length c.self.view_is, length-map items (λ p. p.value), ap length c.self.invariant.1, length-map items (λ p. fields_word p.value.obj.fields))

pub first_with-at-requires : goal.first_with-at-requires
first_with-at-requires c =
    let items = c.self.inside.rows.items in
    let many : length c.self.inside.fields ≡ length c.self.inside.labels =
    ap length c.self.invariant.1 ∙ length-map items (λ p. fields_word p.value.obj.fields) ∙ sym (ap length c.self.invariant.2 ∙ length-map items (λ p. labels_word p.value.obj.labels)) in
    omega (arith, many, c.first_with-middle.ensures.inside)

pub overflow_sub-result : goal.overflow_sub-result
overflow_sub-result c = omega (arith, c.first_with-middle.ensures.behind, c.first_with-at.ensures.behind)

pub returns-clause-fits : goal.returns-clause-fits
returns-clause-fits c = omega (arith, c.first_with-middle.ensures.behind, c.first_with-at.ensures.behind)

pub returns-clause-unfit : goal.returns-clause-unfit
returns-clause-unfit c =
    subst (λ (rows : List RowData). AreUnfit c.args.mask (drop c.args.from rows) (c.first_with-at.result - c.args.from)) c.self.view_is
    (columns_tell (λ p. p.value) c.self.inside.rows.items c.args.from c.args.mask c.self.inside.fields c.self.inside.labels c.first_with-middle.result c.first_with-at.result
    c.self.invariant.1 c.self.invariant.2 c.first_with-middle.ensures c.first_with-at.ensures)
