use Rattle.std.proofs.Common.{◌≡◌, ◌<◌, ◌≤◌, length, ap, ◌∙◌, arith}
use Rattle.watch_record.specs.Between.{LaterData}
use Rattle.watch_record.proofs.LaterLemmas.{none-later-more, first-later, none-later-all}
use Rattle.watch_record.proofs.between_lists.place_in.Goals as goal

pub loop-n-preserved : goal.loop-n-preserved
loop-n-preserved c =
    let here : c.other.inside.at ≡ c.index-later-n.result.at = ap (λ (l : LaterData). l.at) c.other.view_is in
    none-later-more c.args.later.now c.args.at c.loop-n.n c.index-later-n.result c.loop-n-test.true c.index-later-n.is (omega (arith, here, c.if-at-other.false)) c.loop-n.invariant

pub returns-then-at-other : goal.returns-then-at-other
returns-then-at-other c =
    let here : c.other.inside.at ≡ c.index-later-n.result.at = ap (λ (l : LaterData). l.at) c.other.view_is in
    record {
      place = first-later c.args.later.now c.args.at c.loop-n.n c.index-later-n.result c.loop-n-test.true c.index-later-n.is (omega (arith, here, c.if-at-other.true)) c.loop-n.invariant;
      within = omega arith;
    }

pub returns : goal.returns
returns c =
    let size : length c.args.later.now ≡ c.loop-n.n = omega arith in
    record { place = size ∙ none-later-all c.args.later.now c.args.at c.loop-n.n size c.loop-n.invariant; within = omega arith }
