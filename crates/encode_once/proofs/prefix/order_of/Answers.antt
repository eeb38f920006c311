use Rattle.std.proofs.Common.{◌≡◌, ◌+◌, ◌*◌, ◌≤◌, length, drop, ap, sym, ◌∙◌, arith}
use Rattle.std.specs.Cmp.Lexicographic.{slice_cmp}
use Rattle.std.specs.Ordering.{nat_cmp}
use Rattle.encode_once.proofs.PrefixLemmas.{number_at, number_decides, number_passes}
use Rattle.encode_once.proofs.prefix.order_of.Goals as goal

pub returns-then-here-there : goal.returns-then-here-there
returns-then-here-there c =
    let these = c.args.these.now in
    let those = c.args.those.now in
    let at = 8 * c.loop-at.at in
    let here : at + 8 ≤ length these = omega (arith, c.told-these, c.loop-at-test.true) in
    let there : at + 8 ≤ length those = omega (arith, c.told-those, c.loop-at-test.true) in
    let all = number_at at these those here there c.fits-these c.fits-those in
    c.cmp.ensures
    ∙ number_decides c.word-here.result c.word-there.result (slice_cmp nat_cmp (drop (at + 8) these) (drop (at + 8) those)) c.if-here-there.true
    ∙ rw (c.word-here.ensures, c.word-there.ensures) (sym all)
    ∙ sym c.loop-at.invariant

pub loop-at-preserved : goal.loop-at-preserved
loop-at-preserved c =
    let these = c.args.these.now in
    let those = c.args.those.now in
    let at = 8 * c.loop-at.at in
    let here : at + 8 ≤ length these = omega (arith, c.told-these, c.loop-at-test.true) in
    let there : at + 8 ≤ length those = omega (arith, c.told-those, c.loop-at-test.true) in
    let all = number_at at these those here there c.fits-these c.fits-those in
    let on : 8 * (c.loop-at.at + 1) ≡ at + 8 = omega arith in
    c.loop-at.invariant
    ∙ all
    ∙ number_passes _ _ _ (sym c.word-here.ensures ∙ c.if-here-there.false ∙ c.word-there.ensures)
    ∙ ap (λ n. slice_cmp nat_cmp (drop n these) (drop n those)) (sym on)
