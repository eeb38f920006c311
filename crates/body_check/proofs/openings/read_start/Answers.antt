use Rattle.std.proofs.Common.{◌-◌, List, ℕ, length, take, drop, map, sym, subst, arith}
use Rattle.std.specs.BTreeMap.{values}
use Rattle.watch_rules.specs.Bodies.{initial_lines}
use Rattle.body_check.specs.Courses.{course_of, closing_texts, opening_texts, rows_told, text_in}
use Rattle.body_check.specs.Findings.{Behind, IsFound}
use Rattle.body_check.specs.Reading.{Reads}
use Rattle.body_check.proofs.OpeningLemmas.{started, unstarted, start_fits}
use Rattle.body_check.proofs.openings.read_start.Goals as goal

pub behind-requires : goal.behind-requires
behind-requires c =
    let case = c.args.case.now in
    let rest = Behind (closing_texts case c.args.at) (Reads (course_of case c.args.at) c.args.rest.now c.args.at) in
    let first = map (text_in case) (initial_lines (rows_told case.ask.start case.ask.selection (values c.args.rows.now))) in
    let found = subst (λ (l : List (List ℕ)). IsFound rest (take (length l - c.in-Ok.n) (drop c.in-Ok.n l)) c.after_rows.result) c.deref.ensures.value c.after_rows.ensures in
    start_fits first case.lines.items c.in-Ok.n c.len.result rest c.after_rows.result c.in-Ok.ensures found (omega (arith, c.len.ensures, case.lines.ok.0))

pub returns-in-Ok : goal.returns-in-Ok
returns-in-Ok c =
    let case = c.args.case.now in
    let rest = Behind (closing_texts case c.args.at) (Reads (course_of case c.args.at) c.args.rest.now c.args.at) in
    let found = subst (λ (l : List (List ℕ)). IsFound rest (take (length l - c.in-Ok.n) (drop c.in-Ok.n l)) c.after_rows.result) c.deref.ensures.value c.after_rows.ensures in
    subst (IsFound (Behind (opening_texts case c.args.at (values c.args.rows.now)) (Reads (course_of case c.args.at) c.args.rest.now c.args.at)) case.lines.items) (sym c.behind.ensures)
    (started case c.args.at c.args.rest.now (values c.args.rows.now) c.in-Ok.n c.after_rows.result c.in-Ok.ensures found)

pub returns-in-Err : goal.returns-in-Err
returns-in-Err c = unstarted c.args.case.now c.args.at c.args.rest.now (values c.args.rows.now) c.in-Err.n c.requires.under_way c.in-Err.ensures
