use Rattle.std.proofs.Common.{◌≡◌, List, subst, sym, ap, ◌∙◌}
use Rattle.std.specs.BTreeMap.{values}
use Rattle.select_all.specs.Streams.{TransitionData}
use Rattle.body_check.specs.declared.found.Found.TheVariants.{Reached, Broken}
use Rattle.body_check.specs.Courses.{course_of, opening_texts, untold_at}
use Rattle.body_check.specs.Findings.{Behind, IsFound}
use Rattle.body_check.specs.Moves.{drop_upto}
use Rattle.body_check.specs.Reading.{IsUnderWay, Reads}
use Rattle.body_check.proofs.StartLemmas.{under_way, found_told_by, untold_from_first}
use Rattle.body_check.proofs.JudgeLemmas.{one_opens, one_unclosed, one_lawful, one_unlawful}
use Rattle.body_check.proofs.judging.from_one.Goals as goal

pub read_start-requires : goal.read_start-requires
read_start-requires c =
    let case = c.args.case.now in
    let untold : c.above.result.now ≡ untold_at case c.args.revision = c.above.ensures ∙ ap (drop_upto c.args.revision) c.requires.moves ∙ untold_from_first case c.args.revision in
    record {
      closing = one_unclosed case c.args.revision c.requires.start;
      under_way = subst (λ (moves : List TransitionData). IsUnderWay (course_of case c.args.revision) moves c.args.revision) (sym untold) (under_way case c.args.revision);
    }

pub returns-in-Reached : goal.returns-in-Reached
returns-in-Reached c =
    let case = c.args.case.now in
    let at = c.args.revision in
    let rows = values c.new-rows.result in
    let untold : c.above.result.now ≡ untold_at case at = c.above.ensures ∙ ap (drop_upto at) c.requires.moves ∙ untold_from_first case at in
    let found = subst (λ (moves : List TransitionData). IsFound (Behind (opening_texts case at rows) (Reads (course_of case at) moves at)) case.lines.items (Reached c.in-Reached.to)) untold c.in-Reached.ensures in
    one_lawful case at c.requires.start c.in-Reached.to (found_told_by case at rows case.lines.items (Reached c.in-Reached.to) (one_opens case at c.requires.start rows) found)

pub returns : goal.returns
returns c =
    let case = c.args.case.now in
    let at = c.args.revision in
    let rows = values c.new-rows.result in
    let untold : c.above.result.now ≡ untold_at case at = c.above.ensures ∙ ap (drop_upto at) c.requires.moves ∙ untold_from_first case at in
    let found = subst (λ (moves : List TransitionData). IsFound (Behind (opening_texts case at rows) (Reads (course_of case at) moves at)) case.lines.items (Broken c.in-Broken.line)) untold c.in-Broken.ensures in
    one_unlawful case at c.requires.start c.in-Broken.line (found_told_by case at rows case.lines.items (Broken c.in-Broken.line) (one_opens case at c.requires.start rows) found)
