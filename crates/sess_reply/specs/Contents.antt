-- What each answer says: a status, whether it is to be asked again in a second, and a text, which is JSON but for probes,
-- metrics and the OpenAPI document.
-- Nothing is said of want of memory.
use Rattle.std.specs.Prelude.{ℕ, List, [], ◌∷◌, codes, Bool, true, false, Option, None, Some, Result, Ok, Err, map, option_map, option_and_then, slice_get, if◌then◌else◌}
use Rattle.kube_meta.specs.Keys.{name_of}
use Rattle.kube_meta.specs.Rows.{RowData}
use Rattle.kube_meta.specs.declared.resources.Resource.{Resource}
use Rattle.sess_reply.specs.Documents.{document_text}
use Rattle.route_req.specs.declared.documents.Document.{Document}
use Rattle.route_req.specs.declared.documents.Document.TheVariants as document
use Rattle.route_req.specs.declared.documents.Probe.{Probe}
use Rattle.route_req.specs.declared.documents.Probe.TheVariants as probe
use Rattle.http_send.specs.declared.replies.ContentType.{ContentType}
use Rattle.http_send.specs.declared.replies.ContentType.TheVariants.{Json, PlainText, MetricsText, OpenApi}
use Rattle.json_obj.specs.Replies.{list_text, status_text, value_text}
use Rattle.list_rules.specs.declared.ask.ListAsk.{ListAsk}
use Rattle.list_rules.specs.declared.get.GetAsk.{GetAsk}
use Rattle.up_store.specs.Transactions.{target_of}
use Rattle.up_store.specs.declared.writes.WriteAsk.{WriteAsk}
use Rattle.up_store.specs.declared.writes.WriteAsk.TheVariants.{Create, Replace, Remove}
use Rattle.up_store.specs.declared.writes.WriteNo.{WriteNo}
use Rattle.up_store.specs.declared.writes.Written.{Written}
use Rattle.up_store.specs.declared.transactions.TxWriteNo.{TxWriteNo}
use Rattle.up_store.specs.declared.transactions.TxWriteNo.TheVariants as transaction
use Rattle.up_store.specs.declared.operations.OpNo.{OpNo}
use Rattle.api_errors.specs.Reasons.{code_of, is_too_large}
use Rattle.api_errors.specs.Failures.{failure_status, not_found, revisions_used_up, read_only, expired, too_large}
use Rattle.api_errors.specs.Writes.{write_told, operation_told}
use Rattle.api_errors.specs.declared.failures.Failure.{Failure}
use Rattle.meta_view.specs.Lines.{shown, version_in, list_kind_in}
use Rattle.meta_view.specs.declared.form.Form.{Form}
use Rattle.meta_view.specs.declared.form.Form.TheVariants.{Whole}
use Rattle.client_api.specs.declared.answers.ListNo.{ListNo}
use Rattle.client_api.specs.declared.answers.ListNo.TheVariants.{Expired, TooLarge, Absent, Memory}
use Rattle.client_api.specs.Answers.{GotData, ListedData}
use Rattle.client_api.specs.declared.resources.Resources.{Resources}
use Rattle.metrics.specs.declared.caches.Metrics.{Metrics}
use Rattle.metrics.specs.Text.{metrics_text}

-- the HTTP status, whether the client may ask again in a second, what the text is, and the text
pub record Content : Type 0 where
  pub code : ℕ
  pub retry : Bool
  pub kind : ContentType
  pub text : List ℕ

-- a request that isn't refused
abbrev pub said : ℕ → List ℕ → Option Content
said code json = Some (record { code = code; retry = false; kind = Json; text = json })

-- a refusal says its Status; a revision that isn't reached yet is to be asked for again
abbrev pub refused : Failure → Content
refused told = record { code = code_of told.reason; retry = is_too_large told.reason; kind = Json; text = status_text (failure_status told) }

-- what is said of a failure, if it is one that is told; of want of memory nothing is said
abbrev pub refusal_content : Option Failure → Option Content
refusal_content told = option_map refused told

-- an object in a form, at its row's revision
abbrev pub shown_row : Form → RowData → List ℕ
shown_row form row = shown form row.obj row.rev

-- what says a number alone, as JSON, with 200
abbrev pub number_content : ℕ → Option Content
number_content value = said 200 (value_text value)

-- ---- writes

-- a create is answered with 201 (Created), all else with 200
abbrev pub accepted_code : WriteAsk → ℕ
accepted_code (Create resource obj) = 201
accepted_code (Replace resource obj given) = 200
accepted_code (Remove resource key) = 200

-- why a write is refused, by the resource and the name of its object
abbrev pub fault_told : WriteAsk → WriteNo → Option Failure
fault_told ask fault = let target = target_of ask in write_told target.0 (name_of target.1) fault

-- an accepted write says its object, whole: the new one, or the one that was removed
abbrev pub written_content : WriteAsk → Result Written WriteNo → Option Content
written_content ask (Ok written) = said (accepted_code ask) (shown_row Whole written.row)
written_content ask (Err fault) = refusal_content (fault_told ask fault)

-- ---- transactions: an accepted one says its revision, which all its writes have

-- the revision of an accepted transaction, which all its writes have; its first one tells it
abbrev pub written_revision : List Written → ℕ
written_revision [] = 0
written_revision (written ∷ more) = written.rev

-- why a transaction is refused: where it is for a write, as that write would be by itself
abbrev pub transaction_refusal : List WriteAsk → TxWriteNo → Option Failure
transaction_refusal asks (transaction.Item index fault) = option_and_then (λ ask. fault_told ask fault) (slice_get asks index)
transaction_refusal asks (transaction.UsedUp at) = Some revisions_used_up
transaction_refusal asks (transaction.ReadOnly at) = Some read_only
transaction_refusal asks transaction.Memory = None

-- what is said of a transaction: the revision at which it was done, or why it is refused
abbrev pub transacted_content : List WriteAsk → Result (List Written) TxWriteNo → Option Content
transacted_content asks (Ok answers) = number_content (written_revision answers)
transacted_content asks (Err fault) = refusal_content (transaction_refusal asks fault)

-- ---- operations: an accepted one says a number

-- what is said of an operation: the number that it gave, or why it is refused
abbrev pub operated_content : Result ℕ OpNo → Option Content
operated_content (Ok value) = number_content value
operated_content (Err fault) = refusal_content (operation_told fault)

-- ---- lists, gets and watches

-- why a list or a watch is refused; of these no object is told to be absent
abbrev pub read_told : ListNo → Option Failure
read_told (Expired asked floor) = Some (expired asked floor)
read_told (TooLarge asked current) = Some (too_large asked current)
read_told (Absent at) = None
read_told Memory = None

-- why a get is refused: its object isn't there, or it is refused as a list would be
abbrev pub get_told : GetAsk → ListNo → Option Failure
get_told ask (Absent at) = Some (not_found ask.resource (name_of ask.key))
get_told ask fault = read_told fault

-- what is said of a get: the object in the form that was asked for, or why it is refused
abbrev pub got_content : Form → GetAsk → Result GotData ListNo → Option Content
got_content form ask (Ok answer) = said 200 (shown_row form answer.row)
got_content form ask (Err fault) = refusal_content (get_told ask fault)

-- the list of the rows, at the revision of the answer
abbrev pub listed_json : Form → Resource → ListedData → List ℕ
listed_json form resource answer =
    list_text (version_in form resource) (list_kind_in form resource) answer.rev answer.more (map (shown_row form) answer.rows)

-- what is said of a list: its page in the form that was asked for, or why it is refused
abbrev pub listed_content : Form → ListAsk → Result ListedData ListNo → Option Content
listed_content form ask (Ok answer) = said 200 (listed_json form ask.selection.resource answer)
listed_content form ask (Err fault) = refusal_content (read_told fault)

-- ---- what describes the server

-- a probe is answered by a plain text, the OpenAPI document is in protobuf, and all else is JSON
abbrev pub content_type_of : Document → ContentType
content_type_of (document.Probe asked) = PlainText
content_type_of document.OpenApi = OpenApi
content_type_of text = Json

-- what describes the server, which has these resources, is said as it is
abbrev pub described_content : Resources → Document → Option Content
described_content served document = Some (record {
  code = 200;
  retry = false;
  kind = content_type_of document;
  text = document_text served document;
})

-- ---- monitors

-- what a monitor is told is said in its own format
abbrev pub metered_content : Metrics → Option Content
metered_content told = Some (record { code = 200; retry = false; kind = MetricsText; text = metrics_text told })

-- what a failed probe is told
abbrev pub failed_text : Probe → List ℕ
failed_text probe.Livez = codes "[-]following its peer failed\nlivez check failed"
failed_text probe.Readyz = codes "[-]following its peer failed\nreadyz check failed"
failed_text probe.Healthz = codes "[-]following its peer failed\nhealthz check failed"

-- a mirror that has lost its peer fails the probe (503, Service Unavailable)
abbrev pub unready_content : Probe → Option Content
unready_content asked = Some (record { code = 503; retry = true; kind = PlainText; text = failed_text asked })
