-- All tests pass, or the list has a row that fails one.
use Rattle.body_check.proofs.stand.may_stand.Goals as goal

pub returns-then-not-are_rising : goal.returns-then-not-are_rising
returns-then-not-are_rising c = (λ never. absurd (cc), λ all. absurd (cc (c.are_rising.ensures.1 all.rising)))
