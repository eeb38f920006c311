-- How a session ends.
use Rattle.std.specs.Prelude.{◌≡◌, ℕ, ◌<◌, ◌⊎◌, true, false, List, [], ◌∷◌, ◌++◌, length, All, Option, Some, Err, IsSomeAnd}
use mathlib.Core.List.{IsPrefix}
use Rattle.edge_io.specs.Told.{IsExhausted}
use Rattle.edge_io.specs.declared.clock.Reading.{Reading}
use Rattle.http_read.specs.declared.request.Req.{Req}
use Rattle.http_read.specs.declared.refusal.ReqNo.{ReqNo}
use Rattle.rev_front.specs.Passes.{Pass}
use Rattle.rev_log.specs.Changes.{RevisionData}
use Rattle.up_store.specs.declared.writes.WriteAsk.{WriteAsk}
use Rattle.up_store.specs.declared.writes.WriteNo.TheVariants as write_no
use Rattle.up_store.specs.declared.transactions.TxWriteNo.TheVariants as tx_no
use Rattle.route_req.specs.declared.routing.Routed.TheVariants as routed
use Rattle.client_api.specs.Alone.{SoleWrite, SoleTransact}
use Rattle.client_api.specs.Facts.{IsOnward}
use Rattle.sess_turns.specs.Terms.{Terms}
use Rattle.sess_turns.specs.Turns.{end_of_watch}
use Rattle.sess_turns.specs.declared.ends.WatchEnd.{WatchEnd}
use Rattle.sess_turns.specs.declared.ends.WatchEnd.TheVariants as watch_end
use Rattle.sess_serve.specs.Wire.{Wire}
use Rattle.sess_serve.specs.Http.{http}
use Rattle.sess_serve.specs.Answers.{Stream, gone, begun, Answer, replied, streamed, is_stream}
use Rattle.sess_serve.specs.Steps.{Exchange}
use Rattle.sess_serve.specs.Texts.{answer_texts_by}
use Rattle.sess_serve.specs.declared.ends.SessionEnd.{SessionEnd}
use Rattle.sess_serve.specs.declared.ends.SessionEnd.TheVariants.{Done, Watched, ReadFault, WriteFault, CutShort, Refused, TooMany, Memory}

-- ---- the closing request

-- the request leaves the connection open: it doesn't ask for its end, and isn't answered by a stream
pub record Stays (e : Exchange) : Type 0 where
  pub open_ : e.request.close ≡ false
  pub by_reply : is_stream e.answer ≡ false

-- fewer requests than the limit were answered, and each left the connection open
pub record IsKeptOpen (terms : Terms) (exchanges : List Exchange) : Type 0 where
  pub stay : All Stays exchanges
  pub few : length exchanges < terms.settings.requests

-- the last exchange, before which the session went on
pub record Last (terms : Terms) (exchanges : List Exchange) : Type 0 where
  pub before : List Exchange
  pub last : Exchange
  pub parted : exchanges ≡ before ++ last ∷ []
  pub goes_on : IsKeptOpen terms before

-- the exchange ends the connection without a stream: its request asked for that end, and was answered by a reply
pub record IsClosed (e : Exchange) : Type 0 where
  pub closes : e.request.close ≡ true
  pub by_reply : is_stream e.answer ≡ false

-- the stream came to this end; where its start was gone that is a loss
abbrev pub StreamEnds : Stream → WatchEnd → Type 0
StreamEnds (gone asked floor) how = how ≡ watch_end.Lost asked floor
StreamEnds (begun pass turns) how = end_of_watch turns.finish ≡ Some how

-- the request was answered by a stream, which came to this end
abbrev pub IsWatchEnd : Answer → WatchEnd → Type 0
IsWatchEnd (replied reply) how = ⊥
IsWatchEnd (streamed ask stream) how = StreamEnds stream how

-- ---- what was written

-- all answers but the last, and a beginning of the last
pub record BrokenOffBy (wire : Wire) (terms : Terms) (exchanges : List Exchange) (written : List ℕ) : Type 0 where
  pub last : Last terms exchanges
  pub begun_text : IsPrefix written (answer_texts_by wire terms exchanges)
  pub others : IsPrefix (answer_texts_by wire terms last.before) written

-- all answers, and a beginning of the reply to what is no request
pub record BrokenRefusalBy (wire : Wire) (terms : Terms) (exchanges : List Exchange) (rest written : List ℕ) : Type 0 where
  pub goes_on : IsKeptOpen terms exchanges
  pub fault : ReqNo
  pub refused : wire.is_refused rest fault
  pub begun_text : IsPrefix written (answer_texts_by wire terms exchanges ++ wire.refusal_text fault)
  pub others : IsPrefix (answer_texts_by wire terms exchanges) written

-- ---- ends

-- what went through a session's ends: the bytes that it took and wrote, its readings of the clock, whether the
-- source's and the sink's counts of faults rose, and what is left in the source, where that is told
pub record Traffic : Type 1 where
  pub taken : List ℕ
  pub written : List ℕ
  pub readings : List Reading
  pub read_fault : Type 0
  pub write_fault : Type 0
  pub left : Option (List ℕ)

-- How a session ended, by the answered requests, the bytes that follow them, and what went through its ends.
abbrev pub EndedBy : Wire → Terms → List Exchange → List ℕ → Traffic → SessionEnd → Type 0
EndedBy wire terms es rest traffic Done =
    (traffic.written ≡ answer_texts_by wire terms es)
    × (((last : Last terms es) × IsClosed last.last) ⊎ (IsKeptOpen terms es × (rest ≡ []) × IsExhausted traffic.left))
EndedBy wire terms es rest traffic (Watched how) =
    (traffic.written ≡ answer_texts_by wire terms es) × ((last : Last terms es) × IsWatchEnd last.last.answer how)
EndedBy wire terms es rest traffic TooMany =
    (traffic.written ≡ answer_texts_by wire terms es) × All Stays es × (length es ≡ terms.settings.requests)
EndedBy wire terms es rest traffic CutShort =
    (traffic.written ≡ answer_texts_by wire terms es) × IsKeptOpen terms es × wire.is_cut_short rest × IsExhausted traffic.left
EndedBy wire terms es rest traffic (Refused fault) =
    (traffic.written ≡ answer_texts_by wire terms es ++ wire.refusal_text fault) × IsKeptOpen terms es × wire.is_refused rest fault
EndedBy wire terms es rest traffic ReadFault =
    (traffic.written ≡ answer_texts_by wire terms es) × IsKeptOpen terms es × wire.is_unfinished rest × traffic.read_fault
EndedBy wire terms es rest traffic WriteFault =
    traffic.write_fault × (BrokenOffBy wire terms es traffic.written ⊎ BrokenRefusalBy wire terms es rest traffic.written)
EndedBy wire terms es rest traffic Memory =
    ((traffic.written ≡ answer_texts_by wire terms es) × IsKeptOpen terms es) ⊎ (BrokenOffBy wire terms es traffic.written ⊎ BrokenRefusalBy wire terms es rest traffic.written)

-- ---- what is known at the end

-- what the last answer left; after want of memory that, or what goes on from it
abbrev pub Knows : SessionEnd → Pass RevisionData → Pass RevisionData → Type 0
Knows Memory last q = IsOnward last q
Knows Done last q = last ≡ q
Knows (Watched how) last q = last ≡ q
Knows TooMany last q = last ≡ q
Knows CutShort last q = last ≡ q
Knows (Refused fault) last q = last ≡ q
Knows ReadFault last q = last ≡ q
Knows WriteFault last q = last ≡ q

-- the request whose call met want of memory: a write or a transaction that it asks for is done or not, and all else
-- changes nothing
abbrev pub BeginsBy : Wire → Terms → ℕ → Pass RevisionData → Req → Pass RevisionData → Type 0
BeginsBy wire terms history p req q =
    ((ask : WriteAsk) × wire.is_route req (routed.Write ask) × SoleWrite terms.base terms.mirror history p ask (Err write_no.Memory) q)
    ⊎ ((asks : List WriteAsk) × wire.is_route req (routed.Transact asks) × SoleTransact terms.base terms.mirror history p asks (Err tx_no.Memory) q)

-- where memory ran out, the log has the changes that it had, or with them what the next request began
abbrev pub SoleMemoryBy : Wire → Terms → Pass RevisionData → List ℕ → Pass RevisionData → Type 0
SoleMemoryBy wire terms p rest q =
    (q.seen ≡ p.seen) ⊎ ((req : Req) × (after : List ℕ) × wire.reads_one rest req after × IsSomeAnd terms.sole_history (λ history. BeginsBy wire terms history p req q))

-- of a log that nobody else holds: after want of memory it is as it was, or with what was begun
abbrev pub KnowsAloneBy : Wire → Terms → SessionEnd → Pass RevisionData → List ℕ → Pass RevisionData → Type 0
KnowsAloneBy wire terms Memory last rest q = SoleMemoryBy wire terms last rest q
KnowsAloneBy wire terms other last rest q = Unit {0}

-- ---- the same, where the wire is HTTP

abbrev pub BrokenOff : Terms → List Exchange → List ℕ → Type 0
BrokenOff = BrokenOffBy http

abbrev pub BrokenRefusal : Terms → List Exchange → List ℕ → List ℕ → Type 0
BrokenRefusal = BrokenRefusalBy http

abbrev pub Ended : Terms → List Exchange → List ℕ → Traffic → SessionEnd → Type 0
Ended = EndedBy http

abbrev pub Begins : Terms → ℕ → Pass RevisionData → Req → Pass RevisionData → Type 0
Begins = BeginsBy http

abbrev pub SoleMemory : Terms → Pass RevisionData → List ℕ → Pass RevisionData → Type 0
SoleMemory = SoleMemoryBy http

abbrev pub KnowsAlone : Terms → SessionEnd → Pass RevisionData → List ℕ → Pass RevisionData → Type 0
KnowsAlone = KnowsAloneBy http

-- ---- and when

-- this holds, unless the source failed
abbrev pub UnlessReadFault : SessionEnd → Type 0 → Type 0
UnlessReadFault ReadFault P = Unit {0}
UnlessReadFault other P = P

-- this holds, unless the sink failed
abbrev pub UnlessWriteFault : SessionEnd → Type 0 → Type 0
UnlessWriteFault WriteFault P = Unit {0}
UnlessWriteFault other P = P

-- this holds, unless there was no memory
abbrev pub UnlessMemory : SessionEnd → Type 0 → Type 0
UnlessMemory Memory P = Unit {0}
UnlessMemory other P = P

-- this holds, unless an answer may be broken off: the sink failed, or there was no memory
abbrev pub UnlessBroken : SessionEnd → Type 0 → Type 0
UnlessBroken WriteFault P = Unit {0}
UnlessBroken Memory P = Unit {0}
UnlessBroken other P = P
