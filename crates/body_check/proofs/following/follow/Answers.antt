use Rattle.std.proofs.Common.{sym, subst, arith}
use Rattle.body_check.specs.Courses.{course_of}
use Rattle.body_check.specs.Findings.{IsFound}
use Rattle.body_check.specs.Reading.{Reads}
use Rattle.body_check.proofs.Findings.{later-none}
use Rattle.body_check.proofs.LineLemmas.{follow_more, follow_bad, follow_end, follow_none}
use Rattle.body_check.proofs.following.follow.Goals as goal

pub loop-n-init : goal.loop-n-init
loop-n-init c = record {
  found = λ r is. subst (IsFound (Reads (course_of c.args.case.now c.args.at) c.args.rest.now c.args.at) c.args.lines.now) (sym (later-none r)) is;
  under_way = c.requires;
}

pub loop-n-preserved : goal.loop-n-preserved
loop-n-preserved c =
    let course = course_of c.args.case.now c.args.at in
    record {
      found = follow_more (Reads course c.args.rest.now c.args.at) (Reads course c.loop-n.untold.now c.loop-n.low) (Reads course c.in-On.more.now c.in-On.next) c.args.lines.now c.loop-n.n c.index-lines-n.result
          c.loop-n-test.true c.index-lines-n.is c.loop-n.invariant.found c.in-On.ensures.found;
      under_way = c.in-On.ensures.under_way;
    }

pub returns-in-Bad : goal.returns-in-Bad
returns-in-Bad c =
    let course = course_of c.args.case.now c.args.at in
    follow_bad (Reads course c.args.rest.now c.args.at) (Reads course c.loop-n.untold.now c.loop-n.low) c.args.lines.now c.loop-n.n c.index-lines-n.result
    c.loop-n-test.true c.index-lines-n.is c.loop-n.invariant.found c.in-Bad.ensures

pub returns-in-End : goal.returns-in-End
returns-in-End c =
    let course = course_of c.args.case.now c.args.at in
    follow_end (Reads course c.args.rest.now c.args.at) (Reads course c.loop-n.untold.now c.loop-n.low) c.args.lines.now c.loop-n.n c.index-lines-n.result c.in-End.position c.ended.result
    c.loop-n-test.true c.index-lines-n.is c.loop-n.invariant.found c.in-End.ensures.last c.in-End.ensures.followed c.ended.ensures

pub returns : goal.returns
returns c =
    follow_none (course_of c.args.case.now c.args.at) (Reads (course_of c.args.case.now c.args.at) c.args.rest.now c.args.at) c.args.lines.now c.loop-n.n c.loop-n.untold.now c.loop-n.low c.highest_at.result c.passed.result
    (omega arith) (omega arith) c.loop-n.invariant.found c.loop-n.invariant.under_way c.highest_at.ensures c.passed.ensures
