-- The answers to requests, as plain data: each has what was asked, and what the client answered.
use Rattle.std.specs.Prelude.{ℕ, ◌+◌, List, [], Bool, true, false, Ok}
use Rattle.route_req.specs.declared.documents.Document.TheVariants as document
use Rattle.edge_io.specs.declared.clock.Reading.{Reading}
use Rattle.rev_front.specs.Passes.{Authored, Pass}
use Rattle.rev_log.specs.Changes.{RevisionData}
use Rattle.http_read.specs.declared.request.Req.{Req}
use Rattle.watch_rules.specs.declared.ask.WatchAsk.{WatchAsk}
use Rattle.up_store.specs.declared.operations.Operate.TheVariants.{Cut, Compact}
use Rattle.route_req.specs.declared.routing.Routed.TheVariants as routed
use Rattle.route_req.specs.declared.routing.RouteNo.{RouteNo}
use Rattle.route_req.specs.declared.routing.RouteNo.TheVariants as route_no
use Rattle.sess_reply.specs.Replies.{Reply, unrouted, wrote, transacted, got, listed, operated, unoperated, described, metered, unready, unwatched, bad_upgrade}
use Rattle.sess_turns.specs.Turns.{Turns, readings_of}
use Rattle.sess_serve.specs.Wire.{Wire}
use Rattle.sess_serve.specs.Http.{http}

-- a watch that is answered by a stream: it is told at once that its start is gone, or it begins, and has turns; the
-- pass is what is known once it has begun
pub data Stream : Type 0 where
  gone : ℕ → ℕ → Stream
  begun : Pass RevisionData → Turns → Stream

-- a request is answered by a reply, or by the stream of a watch
pub data Answer : Type 0 where
  replied : Reply → Answer
  streamed : WatchAsk → Stream → Answer

-- ---- the answer is to what the request asks for

-- the request has no route, for that reason, which isn't want of memory
abbrev pub IsUnroutedBy : Wire → Req → RouteNo → Type 0
IsUnroutedBy wire req route_no.Memory = ⊥
IsUnroutedBy wire req fault = wire.is_refusal req fault

-- the reply is to what the request asks for: it tells why that has no route, or what came of the route that it has
abbrev pub IsReplyToBy : Wire → Req → Reply → Type 0
IsReplyToBy wire req (unrouted fault) = IsUnroutedBy wire req fault
IsReplyToBy wire req (wrote ask answer) = wire.is_route req (routed.Write ask)
IsReplyToBy wire req (transacted asks answer) = wire.is_route req (routed.Transact asks)
IsReplyToBy wire req (got ask answer) = wire.is_route req (routed.Get ask)
IsReplyToBy wire req (listed ask answer) = wire.is_route req (routed.List ask)
IsReplyToBy wire req (operated ask answer) = wire.is_route req (routed.Operate ask)
IsReplyToBy wire req (unoperated ask) = wire.is_route req (routed.Operate ask)
IsReplyToBy wire req (described served document) = wire.is_route req (routed.Describe document)
IsReplyToBy wire req (metered told) = wire.is_route req routed.Metrics
IsReplyToBy wire req (unready probe) = wire.is_route req (routed.Describe (document.Probe probe))
IsReplyToBy wire req (unwatched ask fault) = wire.is_route req (routed.Watch ask) × wire.may_stream req
IsReplyToBy wire req (bad_upgrade ask) = wire.is_route req (routed.Watch ask) × wire.fails_upgrade req

-- the answer is to what the request asks for; a stream is to a watch that can be streamed
abbrev pub IsAnswerToBy : Wire → Req → Answer → Type 0
IsAnswerToBy wire req (replied reply) = IsReplyToBy wire req reply
IsAnswerToBy wire req (streamed ask stream) = wire.is_route req (routed.Watch ask) × wire.may_stream req

-- the same, where the wire is HTTP
abbrev pub IsUnrouted : Req → RouteNo → Type 0
IsUnrouted = IsUnroutedBy http

abbrev pub IsReplyTo : Req → Reply → Type 0
IsReplyTo = IsReplyToBy http

abbrev pub IsAnswerTo : Req → Answer → Type 0
IsAnswerTo = IsAnswerToBy http

-- ---- streams

-- the connection ends with the answer because it is a stream
abbrev pub is_stream : Answer → Bool
is_stream (replied reply) = false
is_stream (streamed ask stream) = true

-- the readings of the clock that a stream took: those of its watch, and none where the start is gone
abbrev pub stream_readings : Stream → List Reading
stream_readings (gone asked floor) = []
stream_readings (begun pass turns) = readings_of turns

-- the readings of the clock that an answer took: those of its stream, and none for a reply
abbrev pub answer_readings : Answer → List Reading
answer_readings (replied reply) = []
answer_readings (streamed ask stream) = stream_readings stream

-- ---- what the client did

-- what of the log is the client's own doing after an answer, by what was before: an accepted write or transaction is one
-- revision more, a cut or a compaction that was done one order, and all else nothing
abbrev pub acted : Answer → Authored → Authored
acted (replied (wrote ask (Ok written))) did = record did { own = did.own + 1 }
acted (replied (transacted asks (Ok answers))) did = record did { own = did.own + 1 }
acted (replied (operated Cut (Ok generation))) did = record did { orders = did.orders + 1 }
acted (replied (operated (Compact at) (Ok floor))) did = record did { orders = did.orders + 1 }
acted other did = did
