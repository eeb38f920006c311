-- Requests that are answered get what they ask for. Which requests of an input are answered says `SessionsSettle` of
-- sess_serve.
use Rattle.std.specs.Prelude.{◌⊎◌, List, [], ◌∷◌}
use Rattle.rev_front.specs.Passes.{Pass, IsPass}
use Rattle.rev_log.specs.Changes.{RevisionData}
use Rattle.rev_log.specs.Logs.{Fits}
use Rattle.route_req.specs.Asks.{IsRoute}
use Rattle.route_req.specs.declared.routing.Routed.{Routed}
use Rattle.sess_turns.specs.Terms.{Terms}
use Rattle.sess_serve.specs.Steps.{Exchange, Run, AreAlone}
use Rattle.laws.specs.Due.{IsDue}
use Rattle.laws.specs.Hindered.{IsHindered}
use Rattle.laws.specs.Served.{IsServed}

-- each of these requests that has a route gets its 200, its 201 or its stream, unless what it names isn't reached or isn't
-- kept, the log refuses its write, or the server its operation
abbrev pub AreServedOrHindered : Terms → Pass RevisionData → List Exchange → Type 0
AreServedOrHindered terms p [] = Unit {0}
AreServedOrHindered terms p (e ∷ es) =
    ((route : Routed) → IsRoute e.request route → IsServed terms p e route ⊎ IsHindered terms p e route)
    × AreServedOrHindered terms e.pass es

-- over the exchanges of each session, whoever else writes to the log
abbrev pub RequestsAreServed : Type 0
RequestsAreServed =
    (terms : Terms) (p last : Pass RevisionData) (exchanges : List Exchange) → Run terms p exchanges last →
    AreServedOrHindered terms p exchanges

-- each of these requests that is due what it asks for, as the log stands before it, gets its 200, its 201 or its stream
abbrev pub AreServedIfDue : Terms → Pass RevisionData → List Exchange → Type 0
AreServedIfDue terms p [] = Unit {0}
AreServedIfDue terms p (e ∷ es) =
    ((route : Routed) → IsRoute e.request route → IsDue terms p e.request route → IsServed terms p e route)
    × AreServedIfDue terms e.pass es

-- over the exchanges of each session where nobody else holds the log
abbrev pub RequestsAreServedAlone : Type 0
RequestsAreServedAlone =
    (terms : Terms) (p last : Pass RevisionData) (exchanges : List Exchange) → IsPass Fits p →
    Run terms p exchanges last → AreAlone terms p exchanges → AreServedIfDue terms p exchanges
