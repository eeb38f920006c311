use Rattle.std.proofs.Common.{arith}
use Rattle.std.specs.List.Sorted.{IsStrictlySortedBy}
use Rattle.body_check.proofs.spans.may_begin.Goals as goal

pub may_follow-requires : goal.may_follow-requires
unfolding IsStrictlySortedBy
may_follow-requires c =
    let stand = c.may_stand.ensures.0 c.if-not-may_stand.false in
    record { onward = omega arith; last = c.requires; old_rising = tt; rising = stand.rising; within = stand.within }
