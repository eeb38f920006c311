use Rattle.std.proofs.Common.{◌++◌, take, ap, ◌∙◌}
use Rattle.std.specs.BTreeMap.{values}
use Rattle.body_check.specs.Places.{texts_of_rows}
use Rattle.body_check.proofs.OpeningLemmas.{compared_more, compared_all}
use Rattle.body_check.proofs.openings.compared.Goals as goal

pub loop-row-preserved : goal.loop-row-preserved
loop-row-preserved c =
    let case = c.args.case.now in
    let all = texts_of_rows case (values c.args.rows.now) in
    record {
      parted = compared_more case all c.loop-row.n c.in-Some-place_after.next c.in-Some.row.now c.next.new.self
          (c.loop-row.invariant.parted ∙ ap (λ rows. take c.loop-row.n case.lines.items ++ texts_of_rows case rows) c.in-Some.ensures.steps) c.in-Some-place_after.ensures;
      within = c.in-Some-place_after.ensures.within;
    }

pub returns : goal.returns
returns c =
    let case = c.args.case.now in
    compared_all case (texts_of_rows case (values c.args.rows.now)) c.loop-row.n
    (c.loop-row.invariant.parted ∙ ap (λ rows. take c.loop-row.n case.lines.items ++ texts_of_rows case rows) c.in-None.ensures.steps.0) c.loop-row.invariant.within
