-- One more change was read, and at the end they are all.
use Rattle.std.proofs.Common.{◌≡◌, take, subst, sym}
use Rattle.std.proofs.lemmas.List.Elements.{All-more, All-same}
use Rattle.rev_log.specs.Changes.{HasItsKey}
use Rattle.rev_log.proofs.MapLemmas.{take_all}
use Rattle.rev_log.proofs.changes.are_keyed.Goals as goal

pub loop-change-preserved : goal.loop-change-preserved
loop-change-preserved c =
    let this : HasItsKey c.change-item.result = subst HasItsKey c.change.view_is c.change.invariant in
    All-more HasItsKey c.args.changes.now c.loop-change.change-index c.change-item.result c.loop-change-test.true c.loop-change.invariant
    (subst HasItsKey c.change-item.is this)

pub returns : goal.returns
returns c =
    let whole : take c.loop-change.change-index c.args.changes.now ≡ c.args.changes.now = take_all c.args.changes.now c.loop-change.change-index c.loop-change-test.false in
    All-same HasItsKey c.args.changes.now (take c.loop-change.change-index c.args.changes.now) (sym whole) c.loop-change.invariant
