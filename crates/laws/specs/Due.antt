-- When a request is to be served, by the log as it stands before it: of a log that nobody else holds.
use Rattle.std.specs.Prelude.{◌≡◌, ℕ, ◌<◌, ◌≤◌, ◌^◌, true, [], ◌∷◌}
use Rattle.rev_front.specs.Passes.{Pass, end_from}
use Rattle.rev_log.specs.Changes.{RevisionData}
use Rattle.http_read.specs.declared.request.Req.{Req}
use Rattle.select_all.specs.declared.selection.Meaning.{Meaning}
use Rattle.select_all.specs.declared.selection.Meaning.TheVariants.{MostRecent, Any, NotOlder, Exact}
use Rattle.select_all.specs.Floors.{IsEvicted}
use Rattle.up_api.specs.Sections.{log_of}
use Rattle.up_store.specs.declared.operations.Operate.{Operate}
use Rattle.up_store.specs.declared.operations.Operate.TheVariants.{Cut, Compact, Restart, Disconnect}
use Rattle.watch_rules.specs.declared.ask.WatchAsk.{WatchAsk}
use Rattle.watch_rules.specs.declared.starts.Start.{Start}
use Rattle.watch_rules.specs.declared.starts.Start.TheVariants.{FromState, FromHere, FromRevision}
use Rattle.route_req.specs.declared.routing.Routed.{Routed}
use Rattle.route_req.specs.declared.routing.Routed.TheVariants as routed
use Rattle.sess_turns.specs.Terms.{Terms}
use Rattle.sess_serve.specs.Http.{IsPlainOrUpgrade}
use Rattle.laws.specs.Writing.{Takes}

-- a revision is reached: the log ends with it, or goes on behind it
abbrev pub IsReached : Pass RevisionData → ℕ → Type 0
IsReached p at = at ≤ end_from p.first p.seen

-- a read can be at the revision that it names: that is reached, and isn't below the compaction floor where it alone will
-- do; one that names none always can
abbrev pub IsInReach : Pass RevisionData → Meaning → Type 0
IsInReach p MostRecent = Unit {0}
IsInReach p Any = Unit {0}
IsInReach p (NotOlder asked) = IsReached p asked
IsInReach p (Exact asked) = IsReached p asked × (p.floor ≤ asked)

-- a watch can begin at its start: the state of its start is in reach, or no change above the revision of its start may be
-- lost
abbrev pub IsKept : Terms → Pass RevisionData → WatchAsk → Start → Type 0
IsKept terms p ask (FromState meaning) = IsInReach p meaning
IsKept terms p ask (FromHere meaning) = IsInReach p meaning
IsKept terms p ask (FromRevision at) =
    (n : ℕ) → ¬ (IsEvicted (log_of terms.base p) p.floor terms.window ask.selection.resource at n)

-- a log can do an operation: a further cut, a compaction between the floor and the end of the log, and each restart and
-- disconnection
abbrev pub MayBeDone : Pass RevisionData → Operate → Type 0
MayBeDone p Cut = p.gen < 2 ^ 62
MayBeDone p (Compact at) = (p.floor ≤ at) × IsReached p at
MayBeDone p Restart = Unit {0}
MayBeDone p Disconnect = Unit {0}

-- a request that asks for this is due what it asks for: nothing stands in its way; an operation also needs a server that
-- takes any
abbrev pub IsDue : Terms → Pass RevisionData → Req → Routed → Type 0
IsDue terms p req (routed.Describe document) = Unit {0}
IsDue terms p req routed.Metrics = Unit {0}
IsDue terms p req (routed.List ask) = IsInReach p ask.meaning
IsDue terms p req (routed.Get ask) = IsInReach p ask.meaning
IsDue terms p req (routed.Write ask) = Takes terms.mirror (log_of terms.base p) (ask ∷ [])
IsDue terms p req (routed.Transact asks) = Takes terms.mirror (log_of terms.base p) asks
IsDue terms p req (routed.Operate ask) = (terms.operable ≡ true) × MayBeDone p ask
IsDue terms p req (routed.Watch ask) = IsPlainOrUpgrade req × IsKept terms p ask ask.start
