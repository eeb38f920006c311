use Rattle.std.proofs.Common.{◌≡◌, ℕ, ◌+◌, cond, not, List, [], ◌∷◌, ◌++◌, map, sym, subst, arith}
use Rattle.std.proofs.lemmas.List.{map-append}
use Rattle.std.proofs.lemmas.List.Sums.{sum_by-append}
use Rattle.std.proofs.lemmas.Iterator.Splits.{YieldsList-from_lines}
use Rattle.std.proofs.lemmas.Iterator.Consumers.{YieldsList-end}
use Rattle.cases.specs.Rows.{is_silent, rows_among, CountsRows}
use Rattle.cases.proofs.rows.steps.run_rows.Goals as goal

counts_on : (done : List (List ℕ)) (line : List ℕ) (old mid new : ℕ) → CountsRows done old mid → CountsRows (line ∷ []) mid new → CountsRows (done ++ line ∷ []) old new
counts_on done line old mid new before one within =
    let step : new ≡ mid + rows_among (line ∷ []) = one within in
    let so_far : mid ≡ old + rows_among done = before (omega (arith, step, within)) in
    omega (arith, step, so_far, sum_by-append (λ l. cond (not (is_silent l)) 1 0) done (line ∷ []))

pub loop-line-preserved : goal.loop-line-preserved
loop-line-preserved g c =
    subst (λ lines. CountsRows lines c.args.tally.now.rows c.run_line.new.tally.rows)
    (sym (map-append (λ line. line.now) c.loop-line.yielded (c.in-Some.line ∷ [])))
    (counts_on (map (λ line. line.now) c.loop-line.yielded) c.in-Some.line.now c.args.tally.now.rows c.loop-line.tally.rows c.run_line.new.tally.rows c.loop-line.invariant c.in_ok-run_line.ensures)

pub returns : goal.returns
returns g c =
    let all = YieldsList-end (YieldsList-from_lines c.args.lines.text.now cc) c.loop-line.yielded _ c.loop-line.yielded_by _ _ c.in-None.is c.next.ensures.steps in
    subst (λ lines. CountsRows lines c.args.tally.now.rows c.loop-line.tally.rows) all.0 c.loop-line.invariant
