use Rattle.std.proofs.Common.{refl, ◌∙◌}
use Rattle.line_stream.proofs.HeadLemmas.{finds-head, opens-head, too-long}
use Rattle.line_stream.proofs.head.look_at_head.Goals as goal

pub returns-in-Ok-Complete : goal.returns-in-Ok-Complete
returns-in-Ok-Complete c =
    finds-head _ _ _ _ c.front_of.ensures (c.parse_response.auto.headers ∙ c.requires)
    (rw c.in-Ok-Complete.field-0-is at c.in-Ok-Complete.ensures.within) (rw c.in-Ok-Complete.field-0-is at c.in-Ok-Complete.ensures.complete)

pub returns-in-Ok-Partial : goal.returns-in-Ok-Partial
returns-in-Ok-Partial c =
    opens-head _ _ c.front_of.ensures c.if-bytes-lt-MOST_HEAD.true
    (rw c.in-Ok-Partial.field-0-is at c.in-Ok-Partial.ensures.partial) (rw c.in-Ok-Partial.field-0-is at c.in-Ok-Partial.ensures.unfinished)

pub returns-in-Ok-Partial-2 : goal.returns-in-Ok-Partial-2
returns-in-Ok-Partial-2 c =
    (refl, too-long _ _ c.front_of.ensures c.if-bytes-lt-MOST_HEAD.false (rw c.in-Ok-Partial.field-0-is at c.in-Ok-Partial.ensures.partial))
