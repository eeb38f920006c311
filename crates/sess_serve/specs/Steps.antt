-- Each answer stands between what was known before and what is known afterwards.
use Rattle.std.specs.Prelude.{◌≡◌, List, [], ◌∷◌, true, false, Ok, Err, IsSomeAnd}
use Rattle.rev_front.specs.Passes.{Pass}
use Rattle.rev_log.specs.Changes.{RevisionData}
use Rattle.http_read.specs.declared.request.Req.{Req}
use Rattle.watch_rules.specs.declared.ask.WatchAsk.{WatchAsk}
use Rattle.up_store.specs.Replies.{IsWriteReply, IsTransactionReply, IsOperationReply}
use Rattle.client_api.specs.declared.answers.ListNo.{ListNo}
use Rattle.client_api.specs.declared.answers.ListNo.TheVariants.{Expired, TooLarge, Absent, Memory}
use Rattle.client_api.specs.Alone.{IsSoleRead, SoleWrite, SoleTransact, SoleOperate}
use Rattle.client_api.specs.Facts.{IsOnward}
use Rattle.client_api.specs.Gets.{IsGetAnswer}
use Rattle.client_api.specs.Lists.{IsListAnswer}
use Rattle.client_api.specs.Metered.{AreMetrics}
use Rattle.client_api.specs.Starts.{IsWatchAnswer}
use Rattle.client_api.specs.Told.{IsToldRead, IsToldWrite, IsToldTx, IsToldOperation}
use Rattle.sess_reply.specs.Replies.{Reply, unrouted, wrote, transacted, got, listed, operated, unoperated, described, metered, unready, unwatched, bad_upgrade}
use Rattle.sess_turns.specs.Terms.{Terms}
use Rattle.sess_turns.specs.Turns.{IsWatchTurns, AloneFinish}
use Rattle.sess_serve.specs.Wire.{Wire}
use Rattle.sess_serve.specs.Http.{http}
use Rattle.sess_serve.specs.Answers.{Stream, gone, begun, Answer, replied, streamed, IsAnswerToBy}

-- ---- what an answer says

-- a watch that is refused by a reply asks for a revision that isn't reached
abbrev pub UnwatchedSays : Terms → Pass RevisionData → WatchAsk → ListNo → Pass RevisionData → Type 0
UnwatchedSays terms p ask (TooLarge asked current) q = IsWatchAnswer terms.base terms.window p ask (Err (TooLarge asked current)) q
UnwatchedSays terms p ask (Expired asked floor) q = ⊥
UnwatchedSays terms p ask (Absent at) q = ⊥
UnwatchedSays terms p ask Memory q = ⊥

-- a reply tells what the client answered, which wasn't want of memory; where it wasn't asked nothing has changed; an
-- operation is asked for where the server takes any, and there alone; what is described are the server's resources; none
-- but a mirror fails a probe
abbrev pub ReplySays : Terms → Pass RevisionData → Reply → Pass RevisionData → Type 0
ReplySays terms p (unrouted fault) q = p ≡ q
ReplySays terms p (wrote ask answer) q = IsToldWrite answer × IsWriteReply terms.base terms.mirror p ask answer q
ReplySays terms p (transacted asks answer) q = IsToldTx answer × IsTransactionReply terms.base terms.mirror p asks answer q
ReplySays terms p (got ask answer) q = IsToldRead answer × IsGetAnswer terms.base p ask answer q
ReplySays terms p (listed ask answer) q = IsToldRead answer × IsListAnswer terms.base p ask answer q
ReplySays terms p (operated ask answer) q = (terms.operable ≡ true) × IsToldOperation answer × IsOperationReply p ask answer q
ReplySays terms p (unoperated ask) q = (terms.operable ≡ false) × (p ≡ q)
ReplySays terms p (described served document) q = (served ≡ terms.resources) × (p ≡ q)
ReplySays terms p (metered told) q = AreMetrics terms.base p told q
ReplySays terms p (unready probe) q = (terms.mirror ≡ true) × (p ≡ q)
ReplySays terms p (unwatched ask fault) q = UnwatchedSays terms p ask fault q
ReplySays terms p (bad_upgrade ask) q = p ≡ q

-- a stream: its start is gone; or it begins where its start says, and goes on turn by turn
abbrev pub StreamSays : Terms → Pass RevisionData → WatchAsk → Stream → Pass RevisionData → Type 0
StreamSays terms p ask (gone asked floor) q = IsWatchAnswer terms.base terms.window p ask (Err (Expired asked floor)) q
StreamSays terms p ask (begun pass turns) q =
    IsOnward p pass × IsWatchAnswer terms.base terms.window p ask (Ok turns.begun) pass × IsWatchTurns terms ask pass turns q

-- what an answer says is borne out by what was known before its request and what is known after it
abbrev pub Says : Terms → Pass RevisionData → Answer → Pass RevisionData → Type 0
Says terms p (replied reply) q = ReplySays terms p reply q
Says terms p (streamed ask stream) q = StreamSays terms p ask stream q

-- ---- exchanges

-- a request, its answer, and what is known then
pub record Exchange : Type 0 where
  pub request : Req
  pub answer : Answer
  pub pass : Pass RevisionData

-- the answer is to the request, and stands between what was known before and what is known then
pub record StepBy (wire : Wire) (terms : Terms) (p : Pass RevisionData) (e : Exchange) : Type 0 where
  pub answers : IsAnswerToBy wire e.request e.answer
  pub says : Says terms p e.answer e.pass
  pub onward : IsOnward p e.pass

-- each answer stands between two passes, from the first pass to the last
abbrev pub RunBy : Wire → Terms → Pass RevisionData → List Exchange → Pass RevisionData → Type 0
RunBy wire terms p [] last = p ≡ last
RunBy wire terms p (e ∷ es) last = StepBy wire terms p e × RunBy wire terms e.pass es last

-- the same, where the wire is HTTP
abbrev pub Step : Terms → Pass RevisionData → Exchange → Type 0
Step = StepBy http

abbrev pub Run : Terms → Pass RevisionData → List Exchange → Pass RevisionData → Type 0
Run = RunBy http

-- ---- a log that nobody else holds: what becomes of it, its floor and its generation; each load gives its end

-- a reply tells all that became of the log: its write, transaction or operation, if it is of one, and else nothing
abbrev pub IsAloneReply : Terms → Pass RevisionData → Reply → Pass RevisionData → Type 0
IsAloneReply terms p (wrote ask answer) q = IsSomeAnd terms.sole_history (λ history. SoleWrite terms.base terms.mirror history p ask answer q)
IsAloneReply terms p (transacted asks answer) q = IsSomeAnd terms.sole_history (λ history. SoleTransact terms.base terms.mirror history p asks answer q)
IsAloneReply terms p (operated ask answer) q = SoleOperate p ask answer q
IsAloneReply terms p (unoperated ask) q = IsSoleRead p q
IsAloneReply terms p (unrouted fault) q = IsSoleRead p q
IsAloneReply terms p (got ask answer) q = IsSoleRead p q
IsAloneReply terms p (listed ask answer) q = IsSoleRead p q
IsAloneReply terms p (described served document) q = IsSoleRead p q
IsAloneReply terms p (metered told) q = IsSoleRead p q
IsAloneReply terms p (unready probe) q = IsSoleRead p q
IsAloneReply terms p (unwatched ask fault) q = IsSoleRead p q
IsAloneReply terms p (bad_upgrade ask) q = IsSoleRead p q

-- the stream of a watch has read the log and changed nothing, up to its end or to the turn that had no memory
abbrev pub IsAloneStream : Pass RevisionData → Stream → Pass RevisionData → Type 0
IsAloneStream p (gone asked floor) q = IsSoleRead p q
IsAloneStream p (begun pass turns) q = IsSoleRead p pass × AloneFinish pass turns.finish q

-- an answer tells all that became of the log by it
abbrev pub IsAlone : Terms → Pass RevisionData → Answer → Pass RevisionData → Type 0
IsAlone terms p (replied reply) q = IsAloneReply terms p reply q
IsAlone terms p (streamed ask stream) q = IsAloneStream p stream q

-- each answer in turn tells all that became of the log by it
abbrev pub AreAlone : Terms → Pass RevisionData → List Exchange → Type 0
AreAlone terms p [] = Unit {0}
AreAlone terms p (e ∷ es) = IsAlone terms p e.answer e.pass × AreAlone terms e.pass es
