-- Both tests pass, or the list has a row that fails one.
use Rattle.cluster_link.proofs.list.are_listed.Goals as goal

pub returns-then-not-are_rising : goal.returns-then-not-are_rising
returns-then-not-are_rising c = (λ never. absurd (cc), λ all. absurd (cc (c.are_rising.ensures.1 all.rising)))

pub returns : goal.returns
returns c = (
  λ passes. record { rising = c.are_rising.ensures.0 c.if-not-are_rising.false; each = c.are_rows_of.ensures.0 passes },
  λ all. c.are_rows_of.ensures.1 all.each,
)
