use Rattle.std.proofs.Common.{[], ◌∷◌, sym, subst, arith}
use Rattle.std.proofs.lemmas.Bool.{iff_false}
use Rattle.watch_rules.specs.Bodies.{Closing}
use Rattle.body_check.specs.Courses.{course_of, text_in}
use Rattle.body_check.specs.Findings.{Behind, IsFound}
use Rattle.body_check.specs.Reading.{Reads}
use Rattle.body_check.proofs.OpeningLemmas.{closed_not, closed_none, closed_other, closed}
use Rattle.body_check.proofs.openings.after_closing.Goals as goal

pub returns-in_default : goal.returns-in_default
returns-in_default c =
    closed_not c.args.case.now c.args.at c.args.rest.now c.args.lines.now c.requires.under_way (closed_none c.args.case.now c.args.at c.args.rest.now c.args.lines.now (omega arith))

pub returns-then-is_closing : goal.returns-then-is_closing
returns-then-is_closing c =
    subst (IsFound (Behind (text_in c.args.case.now (Closing c.args.at) ∷ []) (Reads (course_of c.args.case.now c.args.at) c.args.rest.now c.args.at)) c.args.lines.now) (sym c.behind.ensures)
    (closed c.args.case.now c.args.at c.args.rest.now c.args.lines.now c.line-item.result c.follow.result c.in-len1-up.len_at_least c.line-item.is (c.is_closing.ensures.0 c.if-is_closing.true) c.follow.ensures)

pub returns-else-is_closing : goal.returns-else-is_closing
returns-else-is_closing c =
    closed_not c.args.case.now c.args.at c.args.rest.now c.args.lines.now c.requires.under_way
    (closed_other c.args.case.now c.args.at c.args.rest.now c.args.lines.now c.line-item.result c.line-item.is (iff_false c.is_closing.ensures c.if-is_closing.false))
