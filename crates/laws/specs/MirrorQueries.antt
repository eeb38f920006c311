-- What a mirror's request asks for.
use Rattle.std.specs.Prelude.{◌≡◌, ℕ, ◌<◌, ◌≤◌, ◌^◌, false, List, ◌++◌, length, All, codes, Option, Some, None, IfSome, IsTrue, IsUtf8}
use Rattle.http_read.specs.Heads.{most_head}
use Rattle.http_read.specs.Requests.{ReadsOne}
use Rattle.http_read.specs.declared.request.Req.{Req}
use Rattle.kube_meta.specs.Names.{IsNamespace}
use Rattle.kube_meta.specs.declared.resources.Resource.TheVariants.{Pods}
use Rattle.line_stream.specs.Requests.{pairs_of, request_text}
use Rattle.line_stream.specs.declared.start.Start.{Start}
use Rattle.line_stream.specs.declared.start.Start.TheVariants.{State, Revision}
use Rattle.mirror_law.specs.Taking.{IsPastOpening}
use Rattle.mirror_link.specs.Peers.{IsAskOf}
use Rattle.route_req.specs.Asks.{AsksRead, IsRoute}
use Rattle.route_req.specs.Places.{place_path}
use Rattle.route_req.specs.declared.places.Place.{Place}
use Rattle.route_req.specs.declared.places.Place.TheVariants.{Everywhere, Namespaced}
use Rattle.route_req.specs.declared.routing.Routed.{Routed}
use Rattle.route_req.specs.declared.routing.Routed.TheVariants as routed
use Rattle.select_all.specs.Reading.{IsRead}
use Rattle.select_all.specs.declared.selection.Meaning.TheVariants.{MostRecent}
use Rattle.select_all.specs.declared.selection.Selection.{Selection}
use Rattle.sess_serve.specs.Answers.{Stream, streamed, IsAnswerTo}
use Rattle.watch_rules.specs.Bodies.{Line}
use Rattle.watch_rules.specs.declared.ask.WatchAsk.{WatchAsk}
use Rattle.watch_rules.specs.declared.starts.Start.TheVariants.{FromState, FromRevision}

-- a start that a request may say: a state, or a revision that there may be
abbrev pub MaySay : Start → Type 0
MaySay State = Unit {0}
MaySay (Revision from) = (1 ≤ from) × (from ≤ 2 ^ 62)

-- a watch starts so: with the events of the most recent state, which a bookmark ends; or behind a revision
abbrev pub StartsSo : Start → WatchAsk → Type 0
StartsSo State ask = (ask.start ≡ FromState MostRecent) × IsTrue ask.closing
StartsSo (Revision from) ask = (ask.start ≡ FromRevision from) × (ask.closing ≡ false)

-- the watch of a mirror: of its selection, with bookmarks and without a limit of time
pub record IsMirrorsWatch (s : Selection) (start : Start) (ask : WatchAsk) : Type 0 where
  pub selection : ask.selection ≡ s
  pub bookmarks : IsTrue ask.bookmarks
  pub unlimited : ask.timeout_s ≡ 0
  pub starts : StartsSo start ask

-- read as a query of pods, a mirror's asks for its watch, and for nothing else
abbrev pub MirrorQueriesAskWatches : Type 0
MirrorQueriesAskWatches =
    (ns : Option (List ℕ)) (label field : List ℕ) (start : Start) (s : Selection) → MaySay start → IsRead Pods ns label field s →
    ((ask : WatchAsk) × AsksRead Pods ns (pairs_of start label field) (routed.Watch ask))
    × ((answer : Routed) → AsksRead Pods ns (pairs_of start label field) answer →
    (ask : WatchAsk) × (answer ≡ routed.Watch ask) × IsMirrorsWatch s start ask)

-- what a mirror asks for: all pods, or those of a namespace
abbrev pub pods_place : Option (List ℕ) → Place
pods_place None = Everywhere Pods
pods_place (Some ns) = Namespaced Pods ns

-- a GET of these with a mirror's query, which wasn't made for another site
pub record IsMirrorsRequest (ns : Option (List ℕ)) (start : Start) (label field : List ℕ) (req : Req) : Type 0 where
  pub method : req.method ≡ codes "GET"
  pub path : req.path ≡ place_path (pods_place ns)
  pub params : req.params ≡ pairs_of start label field
  pub own : req.foreign ≡ false

-- bytes that are text
abbrev pub IsText : List ℕ → Type 0
IsText text = All (λ b. b < 256) text × IsUtf8 text

-- what a mirror writes is read as such a request, whatever follows, where it isn't longer than a head may be
abbrev pub MirrorRequestsAreRead : Type 0
MirrorRequestsAreRead =
    (ns : Option (List ℕ)) (label field : List ℕ) (start : Start) (more : List ℕ) →
    MaySay start → IfSome ns IsNamespace → IsText label → IsText field → length (request_text ns start label field) ≤ most_head →
    (req : Req) × ReadsOne (request_text ns start label field ++ more) req more × IsMirrorsRequest ns start label field req

-- such a request has the route of the mirror's watch, and no other
abbrev pub MirrorRequestsAreRouted : Type 0
MirrorRequestsAreRouted =
    (ns : Option (List ℕ)) (label field : List ℕ) (start : Start) (s : Selection) (req : Req) →
    MaySay start → IfSome ns IsNamespace → IsRead Pods ns label field s → IsMirrorsRequest ns start label field req →
    (ask : WatchAsk) × IsMirrorsWatch s start ask × IsRoute req (routed.Watch ask)
    × ((answer : Routed) → IsRoute req answer → answer ≡ routed.Watch ask)

-- whatever request is read in a mirror's bytes, a stream that is to it is that of the mirror's watch
abbrev pub MirrorsGetTheirWatches : Type 0
MirrorsGetTheirWatches =
    (ns : Option (List ℕ)) (label field : List ℕ) (start : Start) (s : Selection) (more rest : List ℕ) (req : Req) (ask : WatchAsk) (stream : Stream) →
    MaySay start → IfSome ns IsNamespace → IsText label → IsText field → length (request_text ns start label field) ≤ most_head →
    IsRead Pods ns label field s → ReadsOne (request_text ns start label field ++ more) req rest → IsAnswerTo req (streamed ask stream) →
    IsMirrorsWatch s start ask

-- the connection began at this revision: where the start names one, at that
abbrev pub BeganAt : Start → ℕ → Type 0
BeganAt State from = Unit {0}
BeganAt (Revision revision) from = from ≡ revision

-- such a watch is one of which a mirror takes the lines, once its opening is over
abbrev pub MirrorWatchesAreTaken : Type 0
MirrorWatchesAreTaken =
    (s : Selection) (start : Start) (ask : WatchAsk) (from : ℕ) (lines : List Line) →
    IsMirrorsWatch s start ask → BeganAt start from → IsPastOpening ask lines → IsAskOf s ask from lines
