-- The closure compares two rows.
use Rattle.std.proofs.Common.{rules}
use Rattle.std.specs.Ordering.{is_lt}
use Rattle.std.proofs.lemmas.Fn.{always_returns_same}
use Rattle.body_check.proofs.RisingLemmas.{rising_tested, row_cmp}
use Rattle.body_check.proofs.stand.are_rising.Goals as goal

pub returns : goal.returns
returns c =
    rising_tested c.args.rows.now c.is_sorted_by.result
    (c.is_sorted_by.ensures.cases (λ a b. is_lt (row_cmp a b)) (always_returns_same _ _ _ (λ a r g called. search rules)))
