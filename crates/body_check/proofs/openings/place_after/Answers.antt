use Rattle.std.proofs.Common.{◌≡◌, ◌<◌, true, length, sym, ap, ◌∙◌, arith}
use Rattle.kube_meta.specs.Rows.{RowData}
use Rattle.select_all.specs.Selecting.{selects}
use Rattle.body_check.proofs.OpeningLemmas.{placed_line}
use Rattle.body_check.proofs.openings.place_after.Goals as goal

pub returns-then-n-len : goal.returns-then-n-len
returns-then-n-len c =
    let s = c.args.case.now.ask.selection in
    let obj_is : c.deref.result.now ≡ c.args.row.now.obj = c.deref.ensures ∙ ap (λ (r : RowData). r.obj) c.row.view_is in
    let chosen : selects s c.args.row.now.obj ≡ true = ap (selects s) (sym obj_is) ∙ sym c.selects.ensures.computed ∙ c.if-not-selects.false in
    let inside : c.args.n < length c.args.case.now.lines.items = omega (arith, c.if-n-len.true, c.len.ensures, c.args.case.now.lines.ok.0) in
    placed_line c.args.case.now c.args.n c.args.row.now c.index.result.now c.is_initial.result c.one_more.result chosen inside c.index.ensures c.is_initial.ensures c.one_more.ensures
