-- What may stand in the way of a request that has a route.
use Rattle.std.specs.Prelude.{◌≡◌, ℕ, ◌<◌, ◌^◌, ◌⊎◌, false, List, [], ◌∷◌}
use Rattle.rev_front.specs.Passes.{Pass, last_of}
use Rattle.rev_log.specs.Changes.{RevisionData}
use Rattle.select_all.specs.declared.selection.Meaning.{Meaning}
use Rattle.select_all.specs.declared.selection.Meaning.TheVariants.{MostRecent, Any, NotOlder, Exact}
use Rattle.select_all.specs.Floors.{IsEvicted}
use Rattle.up_api.specs.Sections.{log_of, log_upto}
use Rattle.up_store.specs.Replies.{IsKnown}
use Rattle.up_store.specs.declared.operations.Operate.{Operate}
use Rattle.up_store.specs.declared.operations.Operate.TheVariants.{Cut, Compact, Restart, Disconnect}
use Rattle.up_store.specs.declared.writes.WriteAsk.{WriteAsk}
use Rattle.watch_rules.specs.declared.ask.WatchAsk.{WatchAsk}
use Rattle.watch_rules.specs.declared.starts.Start.{Start}
use Rattle.watch_rules.specs.declared.starts.Start.TheVariants.{FromState, FromHere, FromRevision}
use Rattle.route_req.specs.declared.routing.Routed.{Routed}
use Rattle.route_req.specs.declared.routing.Routed.TheVariants as routed
use Rattle.sess_turns.specs.Terms.{Terms}
use Rattle.sess_serve.specs.Http.{FailsUpgrade}
use Rattle.sess_serve.specs.Steps.{Exchange}
use Rattle.laws.specs.Writing.{TakesNot}

-- a revision isn't reached: it is above all that was shown before, and above what the last load gave
abbrev pub IsAhead : Pass RevisionData → ℕ → Pass RevisionData → Type 0
IsAhead p asked q = (p.shown < asked) × (last_of q < asked)

-- a read can't be at the revision that it names: that isn't reached, or it alone will do and is below the compaction
-- floor; a read that names none always can
abbrev pub IsOutOfReach : Pass RevisionData → Meaning → Pass RevisionData → Type 0
IsOutOfReach p MostRecent q = ⊥
IsOutOfReach p Any q = ⊥
IsOutOfReach p (NotOlder asked) q = IsAhead p asked q
IsOutOfReach p (Exact asked) q = IsAhead p asked q ⊎ (asked < q.floor)

-- a watch can't begin at its start: the state of its start is out of reach, or changes above the revision of its start
-- may be lost
abbrev pub IsCutOff : Terms → Pass RevisionData → WatchAsk → Start → Pass RevisionData → Type 0
IsCutOff terms p ask (FromState meaning) q = IsOutOfReach p meaning q
IsCutOff terms p ask (FromHere meaning) q = IsOutOfReach p meaning q
IsCutOff terms p ask (FromRevision at) q =
    (n : ℕ) × IsEvicted (log_of terms.base q) q.floor terms.window ask.selection.resource at n

-- the log didn't take these writes as it stood at a revision that is no older than all that was shown before
abbrev pub IsTurnedDown : Terms → Pass RevisionData → List WriteAsk → Pass RevisionData → Type 0
IsTurnedDown terms p asks q = (at : ℕ) × IsKnown p at q × TakesNot terms.mirror (log_upto terms.base q at) asks

-- a log can't do an operation: no cut can follow the last one; or a compaction is above all that was shown, or below the
-- floor
abbrev pub IsBarred : Pass RevisionData → Operate → Pass RevisionData → Type 0
IsBarred p Cut q = q.gen ≡ 2 ^ 62
IsBarred p (Compact at) q = (p.shown < at) ⊎ (at < q.floor)
IsBarred p Restart q = ⊥
IsBarred p Disconnect q = ⊥

-- What stands in the way of a request that asks for this: nothing, where it asks what describes the server or for metrics;
-- for an operation also that the server takes none; for a watch also that it asks for a WebSocket, and not as it must.
abbrev pub IsHindered : Terms → Pass RevisionData → Exchange → Routed → Type 0
IsHindered terms p e (routed.Describe document) = ⊥
IsHindered terms p e routed.Metrics = ⊥
IsHindered terms p e (routed.List ask) = IsOutOfReach p ask.meaning e.pass
IsHindered terms p e (routed.Get ask) = IsOutOfReach p ask.meaning e.pass
IsHindered terms p e (routed.Write ask) = IsTurnedDown terms p (ask ∷ []) e.pass
IsHindered terms p e (routed.Transact asks) = IsTurnedDown terms p asks e.pass
IsHindered terms p e (routed.Operate ask) = (terms.operable ≡ false) ⊎ IsBarred p ask e.pass
IsHindered terms p e (routed.Watch ask) = FailsUpgrade e.request.upgrade ⊎ IsCutOff terms p ask ask.start e.pass
