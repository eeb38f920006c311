-- HTTP as the wire of sessions.
use Rattle.std.specs.Prelude.{Option, Some, None, IfSome}
use Rattle.http_read.specs.Requests.{ReadsOne, ReadsSome, IsRefused, IsCutShort, IsUnfinished}
use Rattle.http_read.specs.declared.request.Req.{Req}
use Rattle.http_read.specs.declared.request.Upgrade.{Upgrade}
use Rattle.route_req.specs.Asks.{IsRoute, IsRefusal}
use Rattle.ws_watch.specs.Handshake.{IsUpgrade}
use Rattle.sess_reply.specs.Replies.{form_of, reply_text, request_refusal_text}
use Rattle.sess_turns.specs.Streams.{stream_text, gone_text}
use Rattle.sess_turns.specs.declared.view.Framing.{Framing}
use Rattle.sess_turns.specs.declared.view.Framing.TheVariants.{Chunks, Messages}
use Rattle.sess_turns.specs.declared.view.View.{View}
use Rattle.sess_serve.specs.Wire.{Wire}

-- a head that asks for a WebSocket does it as it must (RFC 6455, section 4.2.1)
abbrev pub IsPlainOrUpgrade : Req → Type 0
IsPlainOrUpgrade req = IfSome req.upgrade (λ (u : Upgrade). IsUpgrade u.key u.version)

-- a head asks for a WebSocket, but not as it must
abbrev pub FailsUpgrade : Option Upgrade → Type 0
FailsUpgrade None = ⊥
FailsUpgrade (Some u) = ¬ (IsUpgrade u.key u.version)

-- the lines of a watch are chunks, or messages where the request asks for a WebSocket
abbrev pub framing_of : Option Upgrade → Framing
framing_of None = Chunks
framing_of (Some upgrade) = Messages upgrade.key

-- how the lines of a request's watch are sent: in which form objects are shown, and in which frames
abbrev pub view_of : Req → View
view_of req = record { form = form_of req; framing = framing_of req.upgrade }

-- HTTP/1.1 with JSON texts, the paths and parameters of Kubernetes' API, and WebSockets for watches that ask for them
abbrev pub http : Wire
http = record {
  reads_some = ReadsSome;
  reads_one = ReadsOne;
  is_refused = IsRefused;
  is_cut_short = IsCutShort;
  is_unfinished = IsUnfinished;
  is_route = IsRoute;
  is_refusal = IsRefusal;
  may_stream = IsPlainOrUpgrade;
  fails_upgrade = λ req. FailsUpgrade req.upgrade;
  reply_text = λ req reply. reply_text (form_of req) req.close reply;
  refusal_text = request_refusal_text;
  stream_text = λ req. stream_text (view_of req);
  gone_text = λ req. gone_text (framing_of req.upgrade);
}
