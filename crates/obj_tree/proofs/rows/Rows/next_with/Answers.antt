use Rattle.std.proofs.Common.{sym, ◌∙◌}
use Rattle.obj_tree.proofs.rows.Rows.next_with.Goals as goal

pub loop-rest-preserved : goal.loop-rest-preserved
loop-rest-preserved c = c.in-Some.ensures.same ∙ c.loop-rest.invariant

pub loop-rest-smaller : goal.loop-rest-smaller
loop-rest-smaller c = c.in-Some.ensures.fewer

-- none is left
pub returns-in_err-shown : goal.returns-in_err-shown
returns-in_err-shown c = rw c.from_residual.ensures (sym c.loop-rest.invariant ∙ c.in_default.ensures ∙ c.in_err-shown.ensures, c.in_err-shown.ensures)

pub returns : goal.returns
returns c = sym c.loop-rest.invariant ∙ c.in_default.ensures ∙ c.in_ok-shown.ensures
