use Rattle.std.proofs.Common.{◌+◌, ◌≤◌, List, length, take, subst, ap, ◌∙◌, arith}
use Rattle.rev_log.specs.Changes.{RevisionData}
use Rattle.rev_log.specs.Rows.{Holds}
use Rattle.body_check.specs.Moves.{drop_upto, standing}
use Rattle.body_check.proofs.StartLemmas.{opens, untold_later}
use Rattle.body_check.proofs.JudgeLemmas.{finished}
use Rattle.body_check.proofs.judging.from_several.Goals as goal

pub attempt-requires-clause-stands : goal.attempt-requires-clause-stands
attempt-requires-clause-stands c =
    let case = c.args.case.now in
    let within : c.loop-place.place ≤ length case.log.items = omega (arith, c.loop-place-test.true, c.len-place-end.ensures, case.log.ok.0) in
    opens case case.ask.start c.requires.ranged c.loop-place.place c.loop-place.at c.loop-place.invariant.at_is within c.loop-place.rows c.loop-place.invariant.stands

pub loop-place-preserved : goal.loop-place-preserved
loop-place-preserved c =
    let case = c.args.case.now in
    let resource = case.ask.selection.resource in
    let i = c.loop-place.place in
    record {
      at_is = omega (arith, c.loop-place.invariant.at_is);
      tried = c.in-Broken.ensures;
      stands = subst (λ (log : List RevisionData). Holds c.loop-place.rows (standing resource (take i log)) → Holds c.go_on.new.rows (standing resource (take (i + 1) log))) c.deref.ensures.value c.in_ok-go_on.ensures c.loop-place.invariant.stands;
      untold = c.above-rest.ensures ∙ ap (drop_upto (c.loop-place.at + 1)) c.loop-place.invariant.untold ∙ untold_later case c.loop-place.at (c.loop-place.at + 1) (omega arith);
    }

pub returns : goal.returns
returns c =
    let case = c.args.case.now in
    finished case c.loop-place.at c.loop-place.best c.requires.ranged (omega (arith, c.loop-place-test.false, c.len-place-end.ensures, c.loop-place.invariant.at_is, case.log.ok.0)) c.loop-place.invariant.tried
