-- What requests write may be stored, so that the lines of watches may tell of it.
use Rattle.std.specs.Prelude.{List, All}
use Rattle.http_read.specs.declared.request.Req.{Req}
use Rattle.kube_meta.specs.declared.resources.Resource.{Resource}
use Rattle.mirror_law.specs.Objects.{EachObject}
use Rattle.rev_front.specs.Passes.{Pass}
use Rattle.rev_log.specs.Changes.{RevisionData}
use Rattle.rev_log.specs.Logs.{Log}
use Rattle.route_req.specs.Asks.{IsRoute}
use Rattle.route_req.specs.declared.routing.Routed.TheVariants as routed
use Rattle.sess_serve.specs.Steps.{Exchange, Run, AreAlone}
use Rattle.sess_turns.specs.Terms.{Terms}
use Rattle.up_api.specs.Sections.{log_of}
use Rattle.up_store.specs.declared.writes.WriteAsk.{WriteAsk}
use Rattle.up_store.specs.declared.writes.WriteAsk.TheVariants.{Create, Replace, Remove}
use Rattle.watch_lines.specs.Stored.{IsStored}

-- the object that a write puts into the log, if it puts one there, may be stored
abbrev pub IsStorable : WriteAsk → Type 0
IsStorable (Create resource obj) = IsStored resource obj
IsStorable (Replace resource obj given) = IsStored resource obj
IsStorable (Remove resource key) = Unit {0}

-- so it is of each write that the request has a route to, alone or in a transaction
pub record AsksStorable (req : Req) : Type 0 where
  pub write : (ask : WriteAsk) → IsRoute req (routed.Write ask) → IsStorable ask
  pub transaction : (asks : List WriteAsk) → IsRoute req (routed.Transact asks) → All IsStorable asks

-- so it is of each request
abbrev pub RequestsAreStorable : Type 0
RequestsAreStorable = (req : Req) → AsksStorable req

-- each object of a log, of whatever resource, is one that may be stored
abbrev pub HoldsStored : Log → Type 0
HoldsStored log = (resource : Resource) → EachObject (IsStored resource) log resource

-- where nobody else holds the log, its objects are so after a session's requests if they were before
abbrev pub LogsStayStored : Type 0
LogsStayStored =
    (terms : Terms) (p last : Pass RevisionData) (exchanges : List Exchange) → Run terms p exchanges last → AreAlone terms p exchanges →
    HoldsStored (log_of terms.base p) → HoldsStored (log_of terms.base last)
