use Rattle.std.proofs.Common.{drop}
use Rattle.body_check.specs.declared.found.Found.{Found}
use Rattle.body_check.specs.Courses.{course_of}
use Rattle.body_check.specs.Findings.{IsFound, later}
use Rattle.body_check.specs.Reading.{IsUnderWay, Reads}
use Rattle.body_check.proofs.following.follow.Given as goal

-- what is found of the lines that are left is found of all
abbrev pub invariant-loop-n : goal.invariant-loop-n
invariant-loop-n l = record {
  found : (r : Found) → IsFound (Reads (course_of l.case l.at) l.untold l.low) (drop l.n l.lines) r → IsFound (Reads (course_of l.case l.at) l.rest l.at) l.lines (later l.n r);
  under_way : IsUnderWay (course_of l.case l.at) l.untold l.low;
}
