-- What each answer that is a reply is written as, byte by byte.
use Rattle.std.specs.Prelude.{ℕ, List, [], ◌∷◌, ◌++◌, Bool, true, false, Option, None, Some, Result}
use Rattle.route_req.specs.declared.documents.Document.{Document}
use Rattle.route_req.specs.declared.documents.Probe.{Probe}
use Rattle.http_read.specs.declared.refusal.ReqNo.{ReqNo}
use Rattle.http_read.specs.declared.request.Req.{Req}
use Rattle.http_send.specs.Replies as http
use Rattle.list_rules.specs.declared.ask.ListAsk.{ListAsk}
use Rattle.list_rules.specs.declared.get.GetAsk.{GetAsk}
use Rattle.watch_rules.specs.declared.ask.WatchAsk.{WatchAsk}
use Rattle.up_store.specs.declared.writes.WriteAsk.{WriteAsk}
use Rattle.up_store.specs.declared.writes.WriteNo.{WriteNo}
use Rattle.up_store.specs.declared.writes.Written.{Written}
use Rattle.up_store.specs.declared.transactions.TxWriteNo.{TxWriteNo}
use Rattle.up_store.specs.declared.operations.Operate.{Operate}
use Rattle.up_store.specs.declared.operations.OpNo.{OpNo}
use Rattle.route_req.specs.declared.routing.RouteNo.{RouteNo}
use Rattle.api_errors.specs.Requests.{request_told}
use Rattle.api_errors.specs.Routes.{route_told}
use Rattle.api_errors.specs.Failures as errors
use Rattle.meta_view.specs.Accept.{wants_metadata}
use Rattle.meta_view.specs.declared.form.Form.{Form}
use Rattle.meta_view.specs.declared.form.Form.TheVariants.{Whole, Metadata}
use Rattle.client_api.specs.declared.answers.ListNo.{ListNo}
use Rattle.client_api.specs.Answers.{GotData, ListedData}
use Rattle.client_api.specs.declared.resources.Resources.{Resources}
use Rattle.metrics.specs.declared.caches.Metrics.{Metrics}
use Rattle.sess_reply.specs.Contents.{Content, refused, refusal_content, written_content, transacted_content, got_content, listed_content, operated_content, described_content, metered_content, unready_content, read_told}

-- an answer that is a reply, with what was asked: the request has no route; what its write, transaction, get, list or
-- operation came to; its operation isn't done, as the server takes none; what describes the server, which has these
-- resources; what a monitor is told; the probe failed; its watch is refused before it began; its watch asks to go on as a
-- WebSocket, and that isn't one
pub data Reply : Type 0 where
  unrouted : RouteNo → Reply
  wrote : WriteAsk → Result Written WriteNo → Reply
  transacted : List WriteAsk → Result (List Written) TxWriteNo → Reply
  got : GetAsk → Result GotData ListNo → Reply
  listed : ListAsk → Result ListedData ListNo → Reply
  operated : Operate → Result ℕ OpNo → Reply
  unoperated : Operate → Reply
  described : Resources → Document → Reply
  metered : Metrics → Reply
  unready : Probe → Reply
  unwatched : WatchAsk → ListNo → Reply
  bad_upgrade : WatchAsk → Reply

-- what a reply says; objects are shown in the form that was asked for by gets and lists alone
abbrev pub content_of : Form → Reply → Option Content
content_of form (unrouted fault) = refusal_content (route_told fault)
content_of form (wrote ask answer) = written_content ask answer
content_of form (transacted asks answer) = transacted_content asks answer
content_of form (got ask answer) = got_content form ask answer
content_of form (listed ask answer) = listed_content form ask answer
content_of form (operated ask answer) = operated_content answer
content_of form (unoperated ask) = Some (refused errors.read_only)
content_of form (described served document) = described_content served document
content_of form (metered told) = metered_content told
content_of form (unready probe) = unready_content probe
content_of form (unwatched ask fault) = refusal_content (read_told fault)
content_of form (bad_upgrade ask) = Some (refused errors.bad_upgrade)

-- a whole reply that says this: its head, the text, and a line feed, which the length in the head counts; nothing where
-- nothing is said
abbrev pub content_text : Bool → Option Content → List ℕ
content_text close None = []
content_text close (Some content) = http.typed_reply_text content.kind content.code content.retry close (content.text ++ 10 ∷ [])

-- the bytes of a reply; `close` says that the connection ends with it
abbrev pub reply_text : Form → Bool → Reply → List ℕ
reply_text form close reply = content_text close (content_of form reply)

-- the reply to bytes that are no request: the connection ends with it
abbrev pub request_refusal_text : ReqNo → List ℕ
request_refusal_text fault = content_text true (refusal_content (request_told fault))

-- ---- in which form a request wants objects: whole, unless its first Accept field asks for metadata alone

-- objects are shown by their metadata where that is wanted, and whole otherwise
abbrev pub form_where : Bool → Form
form_where true = Metadata
form_where false = Whole

-- the form that an Accept field asks for (RFC 9110, section 12.5.1), and whole objects where there is none
abbrev pub form_for : Option (List ℕ) → Form
form_for None = Whole
form_for (Some accept) = form_where (wants_metadata accept)

-- the form in which a request wants to see objects, in a reply and in the lines of a watch
abbrev pub form_of : Req → Form
form_of req = form_for req.accept
