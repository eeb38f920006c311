-- Which refusal of a part is which of the whole, and which answers are given again.
use Rattle.std.specs.Prelude.{ℕ, Option, None, Some, Result, Ok, Err}
use Rattle.mirror_log.specs.declared.take_refusal.TakeNo.{TakeNo}
use Rattle.mirror_log.specs.declared.take_refusal.TakeNo.TheVariants as take
use Rattle.mirror_link.specs.declared.link_refusal.LinkNo.{LinkNo}
use Rattle.mirror_link.specs.declared.link_refusal.LinkNo.TheVariants.{BadLine, Order, Gap, OtherLog, Passed, Memory}
use Rattle.mirror_log.specs.declared.refusal.MirrorNo.{MirrorNo}
use Rattle.mirror_log.specs.declared.refusal.MirrorNo.TheVariants as mirror
use Rattle.mirror_log.specs.declared.refusal.RebaseNo.{RebaseNo}
use Rattle.mirror_log.specs.declared.refusal.RebaseNo.TheVariants as rebase
use Rattle.mirror_link.specs.declared.heard.Heard.{Heard}
use Rattle.mirror_link.specs.declared.heard.Heard.TheVariants.{Line, Ended}

-- why a line isn't taken
abbrev pub taking_refusal : TakeNo → LinkNo
taking_refusal take.BadLine = BadLine
taking_refusal (take.Order last got) = Order last got
taking_refusal (take.Gap last got) = Gap last got

-- why it isn't heard by a mirror's log, which ends at this revision
abbrev pub hearing_refusal : ℕ → MirrorNo → LinkNo
hearing_refusal to (mirror.Refused why) = taking_refusal why
hearing_refusal to (mirror.Passed at) = Passed to at
hearing_refusal to mirror.Memory = Memory

-- why a mirror's log, which ends at this revision, isn't taken to an opening
abbrev pub rebasing_refusal : ℕ → RebaseNo → LinkNo
rebasing_refusal to (rebase.Behind end) = OtherLog
rebasing_refusal to rebase.OtherLog = OtherLog
rebasing_refusal to (rebase.Passed at) = Passed to at
rebasing_refusal to rebase.Memory = Memory

-- the answer that is given again: each but that a line was heard
abbrev pub kept_answer : Result Heard LinkNo → Option (Result Heard LinkNo)
kept_answer (Ok (Line to)) = None
kept_answer (Ok (Ended to)) = Some (Ok (Ended to))
kept_answer (Err why) = Some (Err why)

-- and the one that stands once a mirror has asked for its stream again
abbrev pub asked_answer : Result (Unit {0}) LinkNo → Option (Result Heard LinkNo)
asked_answer (Ok u) = None
asked_answer (Err why) = Some (Err why)
