-- What a request gets that is served: its 200, its 201 or its stream; and a get its 404 where no object stands.
use Rattle.std.specs.Prelude.{◌≡◌, ℕ, ◌⊎◌, List, true, Option, Some, Ok, Err, option_map}
use Rattle.route_req.specs.declared.documents.Document.{Document}
use Rattle.route_req.specs.declared.documents.Document.TheVariants as document
use Rattle.route_req.specs.declared.documents.Probe.{Probe}
use Rattle.metrics.specs.declared.caches.Metrics.{Metrics}
use Rattle.rev_front.specs.Passes.{Pass}
use Rattle.rev_log.specs.Changes.{RevisionData}
use Rattle.up_store.specs.Replies.{IsAccepted, IsTxAccepted, IsOperationReply}
use Rattle.up_store.specs.declared.writes.Written.{Written}
use Rattle.watch_rules.specs.declared.ask.WatchAsk.{WatchAsk}
use Rattle.route_req.specs.declared.routing.Routed.{Routed}
use Rattle.route_req.specs.declared.routing.Routed.TheVariants as routed
use Rattle.client_api.specs.Answers.{GotData, ListedData}
use Rattle.client_api.specs.Gets.{IsGot, IsAbsent}
use Rattle.client_api.specs.Lists.{IsListed}
use Rattle.client_api.specs.Metered.{AreMetrics}
use Rattle.client_api.specs.Starts.{IsWatchStart}
use Rattle.client_api.specs.declared.answers.ListNo.TheVariants as list_no
use Rattle.meta_view.specs.declared.form.Form.{Form}
use Rattle.sess_reply.specs.Contents.{Content, accepted_code}
use Rattle.sess_reply.specs.Replies.{Reply, content_of, form_of, wrote, transacted, got, listed, operated, described, metered, unready}
use Rattle.sess_turns.specs.Terms.{Terms}
use Rattle.sess_turns.specs.Turns.{Turns, IsWatchTurns}
use Rattle.sess_serve.specs.Answers.{begun, replied, streamed}
use Rattle.sess_serve.specs.Steps.{Exchange}

-- the HTTP status of a reply
abbrev pub status_of : Form → Reply → Option ℕ
status_of form reply = option_map (λ (content : Content). content.code) (content_of form reply)

-- the request is answered by this reply, which has this status
pub record Gets (e : Exchange) (reply : Reply) (status : ℕ) : Type 0 where
  pub answer_is : e.answer ≡ replied reply
  pub status_is : status_of (form_of e.request) reply ≡ Some status

-- the request is answered by the stream of this watch, which begins where its start says and goes on turn by turn
pub record GetsStream (terms : Terms) (p : Pass RevisionData) (e : Exchange) (ask : WatchAsk) : Type 0 where
  pub opened : Pass RevisionData
  pub watch : Turns
  pub answer_is : e.answer ≡ streamed ask (begun opened watch)
  pub starts : IsWatchStart terms.base p ask watch.begun opened
  pub turns : IsWatchTurns terms ask opened watch e.pass

-- the request is answered by what describes the server with its resources; but a mirror may answer that it fails the probe
abbrev pub GetsDescribed : Terms → Exchange → Document → Type 0
GetsDescribed terms e text =
    Gets e (described terms.resources text) 200
    ⊎ ((probe : Probe) × (text ≡ document.Probe probe) × (terms.mirror ≡ true) × Gets e (unready probe) 503)

-- What a request gets that asks for this. What describes the server: 200, or 503 where a mirror fails a probe. Metrics: 200,
-- with those of the log and its caches. A list: 200, with its page at a fresh
-- revision. A get: 200 with the object that stands at a fresh revision, or 404 where none stands there. A write: 201
-- where it creates and 200 where it replaces or removes, and its change is in the log. A transaction: 200, and its
-- revision is in the log. An operation, of a server that takes any: 200, and it is done. A watch: its stream.
abbrev pub IsServed : Terms → Pass RevisionData → Exchange → Routed → Type 0
IsServed terms p e (routed.Describe document) = GetsDescribed terms e document
IsServed terms p e routed.Metrics =
    (told : Metrics) × Gets e (metered told) 200 × AreMetrics terms.base p told e.pass
IsServed terms p e (routed.List ask) =
    (page : ListedData) × Gets e (listed ask (Ok page)) 200 × IsListed terms.base p ask page e.pass
IsServed terms p e (routed.Get ask) =
    ((given : GotData) × Gets e (got ask (Ok given)) 200 × IsGot terms.base p ask given e.pass)
    ⊎ ((at : ℕ) × Gets e (got ask (Err (list_no.Absent at))) 404 × IsAbsent terms.base p ask at e.pass)
IsServed terms p e (routed.Write ask) =
    (written : Written) × Gets e (wrote ask (Ok written)) (accepted_code ask) × IsAccepted terms.base terms.mirror p ask written e.pass
IsServed terms p e (routed.Transact asks) =
    (answers : List Written) × Gets e (transacted asks (Ok answers)) 200 × IsTxAccepted terms.base terms.mirror p asks answers e.pass
IsServed terms p e (routed.Operate ask) =
    (terms.operable ≡ true) × (number : ℕ) × Gets e (operated ask (Ok number)) 200 × IsOperationReply p ask (Ok number) e.pass
IsServed terms p e (routed.Watch ask) = GetsStream terms p e ask
