-- The closure compares two changes.
use Rattle.std.proofs.Common.{rules}
use Rattle.std.specs.Ordering.{is_lt}
use Rattle.std.proofs.lemmas.Fn.{always_returns_same}
use Rattle.rev_log.specs.Changes.{change_cmp}
use Rattle.rev_log.proofs.ChangeLemmas.{in_order}
use Rattle.rev_log.proofs.changes.are_in_order.Goals as goal

pub returns : goal.returns
returns c =
    in_order c.args.changes.now c.is_sorted_by.result
    (c.is_sorted_by.ensures.cases (λ a b. is_lt (change_cmp a b)) (always_returns_same _ _ _ (λ a r g called. search rules)))
