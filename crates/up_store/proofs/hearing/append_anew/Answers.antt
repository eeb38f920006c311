-- The end is not below the floor.
use Rattle.std.proofs.Common.{ap, arith}
use Rattle.up_store.proofs.HearLemmas.{ascending-end, reached-filled}
use Rattle.up_store.proofs.hearing.append_anew.Goals as goal

pub raise-requires-clause-above : goal.raise-requires-clause-above
raise-requires-clause-above g c =
    let is = c.in_ok-end.ensures.answer in
    omega (arith, ap (λ w. w.floor) is.2, c.requires.keeps.reached, is.0, is.1, ascending-end c.args.from c.args.revisions.items c.args.to c.requires.rising)

pub raise-requires-clause-reached : goal.raise-requires-clause-reached
raise-requires-clause-reached g c =
    let is = c.in_ok-end.ensures.answer in
    omega (arith, is.1, reached-filled c.args.pen.now c.append_all.new.pen c.args.from c.args.revisions.items c.args.to c.args.pen.now.floor is.0 is.2 c.requires.rising)
