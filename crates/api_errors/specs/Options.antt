-- What is told of the options of lists and watches that are refused. Nothing is told for want of memory.
use Rattle.std.specs.Prelude.{Option, None, codes}
use Rattle.list_rules.specs.declared.refusal.AskNo.{AskNo}
use Rattle.list_rules.specs.declared.refusal.AskNo.TheVariants as ask
use Rattle.list_rules.specs.declared.refusal.TokenNo.{TokenNo}
use Rattle.list_rules.specs.declared.refusal.TokenNo.TheVariants as token
use Rattle.watch_rules.specs.declared.refusal.WatchNo.{WatchNo}
use Rattle.watch_rules.specs.declared.refusal.WatchNo.TheVariants as watch
use Rattle.api_errors.specs.Failures.{bad, invalid}
use Rattle.api_errors.specs.declared.failures.Failure.{Failure}

-- why a `continue` text is refused: it is no token, or that of another list
abbrev pub token_told : TokenNo → Option Failure
token_told token.NotToken = bad (codes "continue: NotToken")
token_told token.OtherList = bad (codes "continue: OtherList")
token_told token.Memory = None

-- why the options of a list or a get are refused, or the list's token, which is an option as well
abbrev pub list_told : AskNo → Option Failure
list_told ask.BadRevision = bad (codes "list option: BadRevision")
list_told ask.BadMatch = invalid (codes "list option: BadMatch")
list_told ask.MatchNeedsRevision = invalid (codes "list option: MatchNeedsRevision")
list_told ask.ExactZero = invalid (codes "list option: ExactZero")
list_told ask.MatchWithContinue = invalid (codes "list option: MatchWithContinue")
list_told ask.RevisionWithContinue = bad (codes "list option: RevisionWithContinue")
list_told ask.InitialEventsOnList = invalid (codes "list option: InitialEventsOnList")
list_told ask.BadLimit = bad (codes "list option: BadLimit")
list_told (ask.BadContinue fault) = token_told fault
list_told ask.Memory = None

-- why the options of a watch are refused
abbrev pub watch_told : WatchNo → Option Failure
watch_told watch.BadRevision = bad (codes "watch option: BadRevision")
watch_told watch.MatchWithoutInitial = invalid (codes "watch option: MatchWithoutInitial")
watch_told watch.InitialNeedsNotOlder = invalid (codes "watch option: InitialNeedsNotOlder")
watch_told watch.BadTimeout = bad (codes "watch option: BadTimeout")
