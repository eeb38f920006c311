use Rattle.std.proofs.Common.{◌+◌, ℕ, List, subst, sym, arith}
use Rattle.std.specs.BTreeMap.{values}
use Rattle.std.proofs.lemmas.Bool.{iff_false}
use Rattle.select_all.specs.Streams.{TransitionData}
use Rattle.body_check.specs.declared.found.Found.TheVariants.{Reached, Broken}
use Rattle.body_check.specs.Courses.{course_of, opening_texts}
use Rattle.body_check.specs.Findings.{Behind, IsFound}
use Rattle.body_check.specs.Judging.{record_log, MayStart, IsToldBy}
use Rattle.body_check.specs.Reading.{IsUnderWay, Reads}
use Rattle.body_check.specs.Rounds.{IsTriedBy}
use Rattle.body_check.proofs.StartLemmas.{under_way, found_told_by}
use Rattle.body_check.proofs.JudgeLemmas.{allowed_from, allowed_parts, decided}
use Rattle.body_check.proofs.Trials.{tried_over, tried_more}
use Rattle.body_check.proofs.judging.attempt.Goals as goal

pub read_start-requires : goal.read_start-requires
read_start-requires c = record {
  closing = λ closing. omega (arith, c.requires.reached, c.args.case.now.ends);
  under_way = subst (λ (moves : List TransitionData). IsUnderWay (course_of c.args.case.now c.args.at) moves c.args.at) (sym c.requires.rest) (under_way c.args.case.now c.args.at);
}

pub returns-then-not-admits : goal.returns-then-not-admits
returns-then-not-admits c =
    let case = c.args.case.now in
    tried_over (MayStart case) (IsToldBy case) case.lines.items c.args.at c.args.best
    (λ allowed. iff_false c.admits.ensures c.if-not-admits.true (allowed_parts (record_log case) case.ask.start c.args.at c.requires.ranged allowed).2) c.requires.tried

pub returns-in-Reached : goal.returns-in-Reached
returns-in-Reached c =
    let case = c.args.case.now in
    let at = c.args.at in
    let rows = values c.args.rows.now in
    let found = subst (λ (moves : List TransitionData). IsFound (Behind (opening_texts case at rows) (Reads (course_of case at) moves at)) case.lines.items (Reached c.in-Reached.to)) c.requires.rest c.in-Reached.ensures in
    decided case at c.args.best c.in-Reached.to (allowed_from (record_log case) case.ask.start at c.requires.ranged c.requires.begun c.requires.reached (c.admits.ensures.0 c.if-not-admits.false))
    (found_told_by case at rows case.lines.items (Reached c.in-Reached.to) c.requires.stands found) c.requires.tried

pub returns-in-Broken : goal.returns-in-Broken
returns-in-Broken c =
    let case = c.args.case.now in
    let at = c.args.at in
    let rows = values c.args.rows.now in
    let found = subst (λ (moves : List TransitionData). IsFound (Behind (opening_texts case at rows) (Reads (course_of case at) moves at)) case.lines.items (Broken c.in-Broken.line)) c.requires.rest c.in-Broken.ensures in
    subst (λ (n : ℕ). IsTriedBy case (at + 1) n) (sym c.max.ensures)
    (tried_more (MayStart case) (IsToldBy case) case.lines.items at c.args.best c.in-Broken.line
    (allowed_from (record_log case) case.ask.start at c.requires.ranged c.requires.begun c.requires.reached (c.admits.ensures.0 c.if-not-admits.false))
    (found_told_by case at rows case.lines.items (Broken c.in-Broken.line) c.requires.stands found) c.requires.tried)
