-- By what a session meets bytes. Definitions that take a wire end in `By`; those that are called the same but for this
-- are theirs at HTTP.
use Rattle.std.specs.Prelude.{ℕ, List, Bool}
use Rattle.kube_meta.specs.declared.resources.Resource.{Resource}
use Rattle.http_read.specs.declared.request.Req.{Req}
use Rattle.http_read.specs.declared.refusal.ReqNo.{ReqNo}
use Rattle.route_req.specs.declared.routing.Routed.{Routed}
use Rattle.route_req.specs.declared.routing.RouteNo.{RouteNo}
use Rattle.watch_rules.specs.Bodies.{Line}
use Rattle.sess_reply.specs.Replies.{Reply}

-- How requests stand in bytes, what they ask for, and how answers are written. What a session claims of logs, lists,
-- watches and writes is claimed by any such notions.
pub record Wire : Type 1 where
  -- whole requests, one after the other, stand in front of the bytes, and then these follow; one does
  pub reads_some : List ℕ → List Req → List ℕ → Type 0
  pub reads_one : List ℕ → Req → List ℕ → Type 0
  -- the bytes begin with what is no request, for this reason; they end inside one; they may be all that a source gave
  -- that failed: nothing, or a beginning of one that is neither whole nor refused
  pub is_refused : List ℕ → ReqNo → Type 0
  pub is_cut_short : List ℕ → Type 0
  pub is_unfinished : List ℕ → Type 0
  -- what a request asks for; the first reason why it asks for nothing that is served
  pub is_route : Req → Routed → Type 0
  pub is_refusal : Req → RouteNo → Type 0
  -- a watch that a request asks for can be streamed; it can't, as the request goes over to messages wrongly
  pub may_stream : Req → Type 0
  pub fails_upgrade : Req → Type 0
  -- the bytes of the reply to a request, and of that to what is no request
  pub reply_text : Req → Reply → List ℕ
  pub refusal_text : ReqNo → List ℕ
  -- the bytes of the stream of a request's watch of a resource: its lines, and its end unless it was broken off; and of
  -- the stream of one whose start, the first number, is below the floor, the second
  pub stream_text : Req → Resource → List Line → Bool → List ℕ
  pub gone_text : Req → ℕ → ℕ → List ℕ
