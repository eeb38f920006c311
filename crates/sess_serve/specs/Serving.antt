-- Steps of private functions: what one request, and one round of the session's loop, comes to.
use Rattle.std.specs.Prelude.{◌≡◌, ℕ, ◌⊎◌, Bool, true, false, List, [], ◌++◌, Option, Some, None, Result, Ok, Err, OnOk, ⊤, IsSomeAnd}
use mathlib.Core.List.{IsPrefix}
use Rattle.edge_io.specs.Told.{appended, prepended, Noted, IsExhausted}
use Rattle.edge_io.specs.declared.clock.Reading.{Reading}
use Rattle.edge_io.specs.Counts.{Rose}
use Rattle.edge_io.specs.Sent.{Sent}
use Rattle.http_read.specs.Requests.{ReadsOne, IsRefused, IsCutShort, IsUnfinished}
use Rattle.http_read.specs.declared.refusal.ReqNo.{ReqNo}
use Rattle.http_read.specs.declared.refusal.ReqNo.TheVariants as req_no
use Rattle.http_read.specs.declared.request.Req.{Req}
use Rattle.rev_front.specs.Passes.{Authored, Pass}
use Rattle.rev_log.specs.Changes.{RevisionData}
use Rattle.client_api.specs.Facts.{IsOnward}
use Rattle.sess_reply.specs.Replies.{request_refusal_text}
use Rattle.sess_reply.specs.Sending.{Counts}
use Rattle.sess_reply.specs.declared.broken.Broken.{Broken}
use Rattle.sess_reply.specs.declared.broken.Broken.TheVariants as broken
use Rattle.sess_turns.specs.Streams.{Outside}
use Rattle.sess_turns.specs.Terms.{Terms}
use Rattle.sess_turns.specs.declared.ends.WatchEnd.{WatchEnd}
use Rattle.sess_serve.specs.Wire.{Wire}
use Rattle.sess_serve.specs.Http.{http}
use Rattle.sess_serve.specs.Answers.{Answer, IsAnswerTo, acted, is_stream, answer_readings}
use Rattle.sess_serve.specs.Ends.{Stays, IsClosed, IsWatchEnd, Begins, SoleMemory, UnlessBroken}
use Rattle.sess_serve.specs.Steps.{Exchange, Says, IsAlone}
use Rattle.sess_serve.specs.Texts.{answer_bytes}
use Rattle.sess_serve.specs.declared.ends.SessionEnd.{SessionEnd}
use Rattle.sess_serve.specs.declared.ends.SessionEnd.TheVariants.{Done, Watched, ReadFault, WriteFault, CutShort, Refused, TooMany, Memory}

-- ---- one request

-- what is known of the log, and what of it is the client's own doing
pub record Account : Type 0 where
  pub pass : Pass RevisionData
  pub did : Authored

abbrev pub account_of : Pass RevisionData → Authored → Account
account_of pass did = record { pass = pass; did = did }

-- a request has an answer; then q is known, and the answer tells all that the client did
pub record Given (terms : Terms) (whole : Type 0) (p : Account) (req : Req) (readings : List Reading) (q : Account) : Type 0 where
  pub answer : Answer
  pub answers : IsAnswerTo req answer
  pub says : Says terms p.pass answer q.pass
  pub onward : IsOnward p.pass q.pass
  pub sole : whole → IsAlone terms p.pass answer q.pass
  pub did : q.did ≡ acted answer p.did
  pub readings_are : readings ≡ answer_readings answer

-- it has none, since there was no memory; nothing was written, and the client did nothing
pub record Unanswered (terms : Terms) (whole : Type 0) (p : Account) (req : Req) (written : List ℕ) (readings : List Reading) (q : Account) : Type 0 where
  pub nothing : written ≡ []
  pub unread : readings ≡ []
  pub onward : IsOnward p.pass q.pass
  pub sole : whole → (q.pass.seen ≡ p.pass.seen) ⊎ IsSomeAnd terms.sole_history (λ history. Begins terms history p.pass req q.pass)
  pub did : q.did ≡ p.did

-- a reply is no end of a watch, and a stream came to this one
abbrev pub ComesTo : Answer → Option WatchEnd → Type 0
ComesTo answer None = is_stream answer ≡ false
ComesTo answer (Some how) = IsWatchEnd answer how

-- the answer was written: a reply, or a stream to its end; or a beginning of it was; or there was no memory for it
abbrev pub AnsweredAs : Terms → Type 0 → Account → Req → List ℕ → List Reading → Account → Result (Option WatchEnd) Broken → Type 0
AnsweredAs terms whole p req written readings q (Ok end) =
    (given : Given terms whole p req readings q) × ComesTo given.answer end × (written ≡ answer_bytes terms req given.answer)
AnsweredAs terms whole p req written readings q (Err broken.Fault) =
    (given : Given terms whole p req readings q) × IsPrefix written (answer_bytes terms req given.answer)
AnsweredAs terms whole p req written readings q (Err broken.Memory) =
    ((given : Given terms whole p req readings q) × IsPrefix written (answer_bytes terms req given.answer))
    ⊎ Unanswered terms whole p req written readings q

-- an answer to a request: what was written for it, and the readings of the clock; what is said of the sink where it was
-- broken off, and that nothing is held back where it wasn't
pub record Answered (terms : Terms) (whole : Type 0) (p : Account) (req : Req) (outside : Outside) (q : Account) (came : Result (Option WatchEnd) Broken) : Type 0 where
  pub written : List ℕ
  pub readings : List Reading
  pub sink : outside.sent.written_new ≡ appended outside.sent.written_old written
  pub noted : Noted outside.readings_old outside.readings_new readings
  pub answered : AnsweredAs terms whole p req written readings q came
  pub counts : Counts came outside.sent
  pub settled : OnOk came outside.sent.settled_new

-- ---- what steps answer

-- what was sent, with the end of a watch where it is one's
abbrev pub sent_with : {A : Type 0} → (A → Option WatchEnd) → Result A Broken → Result (Option WatchEnd) Broken
sent_with end (Ok done) = Ok (end done)
sent_with end (Err why) = Err why

-- a request is answered by a reply, with no reading of the clock
abbrev pub Replied : Terms → Type 0 → Account → Req → Sent → Account → Result (Option WatchEnd) Broken → Type 0
Replied terms whole p req sent q came =
    (readings : Option (List Reading)) → Answered terms whole p req (record { readings_old = readings; readings_new = readings; sent = sent }) q came

-- there was memory, so that this holds
abbrev pub UnlessMemory : {A : Type 0} → Result A Broken → Type 0 → Type 0
UnlessMemory (Ok answer) P = P
UnlessMemory (Err broken.Fault) P = P
UnlessMemory (Err broken.Memory) P = Unit {0}

-- ---- how the session goes on after a request

abbrev pub end_by_reply : Bool → Option SessionEnd
end_by_reply true = Some Done
end_by_reply false = None

abbrev pub end_after : Result (Option WatchEnd) Broken → Bool → Option SessionEnd
end_after (Ok None) close = end_by_reply close
end_after (Ok (Some how)) close = Some (Watched how)
end_after (Err broken.Fault) close = Some WriteFault
end_after (Err broken.Memory) close = Some Memory

-- how it ends with the reply to what is no request
abbrev pub end_of_refusal : ReqNo → Result ⊤ Broken → SessionEnd
end_of_refusal fault (Ok done) = Refused fault
end_of_refusal fault (Err broken.Fault) = WriteFault
end_of_refusal fault (Err broken.Memory) = Memory

-- ---- one round of the loop, over the bytes that were kept and taken

-- the bytes begin with such a request, which was answered
pub record Exchanged (Of : Req → Type 0) (terms : Terms) (whole : Type 0) (p : Account) (bytes after : List ℕ) (readings : List Reading) (q : Account) : Type 0 where
  pub request : Req
  pub is : Of request
  pub reads : ReadsOne bytes request after
  pub given : Given terms whole p request readings q

abbrev pub exchange_of : Req → Answer → Account → Exchange
exchange_of req answer q = record { request = req; answer = answer; pass = q.pass }

-- nothing was done
abbrev pub IsSilent : List ℕ → List Reading → Account → Account → Type 0
IsSilent written readings p q = (written ≡ []) × (readings ≡ []) × (p ≡ q)

-- the bytes are no request, and a beginning of the reply that says so was written
abbrev pub RefusalBegun : List ℕ → List ℕ → List Reading → Account → Account → Type 0
RefusalBegun bytes written readings p q =
    (fault : ReqNo) × IsRefused bytes fault × IsPrefix written (request_refusal_text fault) × (readings ≡ []) × (p ≡ q)

-- a request was answered, and a beginning of the answer was written
abbrev pub AnswerBegun : (Req → Type 0) → Terms → Type 0 → Account → List ℕ → List ℕ → List ℕ → List Reading → Account → Type 0
AnswerBegun Of terms whole p bytes after written readings q =
    (x : Exchanged Of terms whole p bytes after readings q) × IsPrefix written (answer_bytes terms x.request x.given.answer)

-- the bytes begin with such a request
abbrev pub BeginsWithBy : Wire → (Req → Type 0) → List ℕ → Type 0
BeginsWithBy wire Of bytes = (req : Req) × (after : List ℕ) × wire.reads_one bytes req after × Of req

-- the same, where the wire is HTTP
abbrev pub BeginsWith : (Req → Type 0) → List ℕ → Type 0
BeginsWith = BeginsWithBy http

-- there was no memory before an answer
pub record Unfinished (Of : Req → Type 0) (terms : Terms) (whole : Type 0) (p : Account) (bytes written : List ℕ) (readings : List Reading) (q : Account) : Type 0 where
  pub nothing : written ≡ []
  pub unread : readings ≡ []
  pub onward : IsOnward p.pass q.pass
  pub asked : (p.pass ≡ q.pass) ⊎ BeginsWith Of bytes
  pub sole : whole → SoleMemory terms p.pass bytes q.pass
  pub did : q.did ≡ p.did

abbrev pub RoundIs : (Req → Type 0) → Terms → Type 0 → Account → List ℕ → List ℕ → List ℕ → List Reading → Account → Type 0 → Type 0 → Option (List ℕ) → Option SessionEnd → Type 0
RoundIs Of terms whole p bytes after written readings q read_fault write_fault left None =
    (x : Exchanged Of terms whole p bytes after readings q) × Stays (exchange_of x.request x.given.answer q)
    × (written ≡ answer_bytes terms x.request x.given.answer)
RoundIs Of terms whole p bytes after written readings q read_fault write_fault left (Some Done) =
    ((x : Exchanged Of terms whole p bytes after readings q) × IsClosed (exchange_of x.request x.given.answer q)
    × (written ≡ answer_bytes terms x.request x.given.answer))
    ⊎ (IsSilent written readings p q × (bytes ≡ []) × IsExhausted left)
RoundIs Of terms whole p bytes after written readings q read_fault write_fault left (Some (Watched how)) =
    (x : Exchanged Of terms whole p bytes after readings q) × IsWatchEnd x.given.answer how
    × (written ≡ answer_bytes terms x.request x.given.answer)
RoundIs Of terms whole p bytes after written readings q read_fault write_fault left (Some CutShort) =
    IsSilent written readings p q × IsCutShort bytes × IsExhausted left
RoundIs Of terms whole p bytes after written readings q read_fault write_fault left (Some ReadFault) =
    IsSilent written readings p q × IsUnfinished bytes × read_fault
RoundIs Of terms whole p bytes after written readings q read_fault write_fault left (Some (Refused fault)) =
    (written ≡ request_refusal_text fault) × IsRefused bytes fault × (readings ≡ []) × (p ≡ q)
RoundIs Of terms whole p bytes after written readings q read_fault write_fault left (Some WriteFault) =
    write_fault × (AnswerBegun Of terms whole p bytes after written readings q ⊎ RefusalBegun bytes written readings p q)
RoundIs Of terms whole p bytes after written readings q read_fault write_fault left (Some Memory) =
    AnswerBegun Of terms whole p bytes after written readings q
    ⊎ (RefusalBegun bytes written readings p q ⊎ Unfinished Of terms whole p bytes written readings q)
RoundIs Of terms whole p bytes after written readings q read_fault write_fault left (Some TooMany) = ⊥

-- what the ends of a session tell: the bytes that are left in the source, the bytes written, the readings
pub record Ends : Type 0 where
  pub left : Option (List ℕ)
  pub written : Option (List ℕ)
  pub readings : Option (List Reading)

-- one round, from the bytes that were kept before it to those that are kept then; a request that was read is such a one
pub record IsRound (Of : Req → Type 0) (terms : Terms) (whole : Type 0) (p : Account) (kept kept_then : List ℕ) (old new : Ends) (read_fault write_fault : Type 0) (q : Account) (came : Option SessionEnd) : Type 0 where
  pub taken : List ℕ
  pub written : List ℕ
  pub readings : List Reading
  pub source : old.left ≡ prepended taken new.left
  pub sink : new.written ≡ appended old.written written
  pub noted : Noted old.readings new.readings readings
  pub round : RoundIs Of terms whole p (kept ++ taken) kept_then written readings q read_fault write_fault new.left came

-- what is told where no request was read: nothing, or the reply to bytes that are no request, or a beginning of it
abbrev pub RefusalEnds : ReqNo → List ℕ → SessionEnd → Type 0
RefusalEnds fault written (Refused told) = (told ≡ fault) × (written ≡ request_refusal_text fault)
RefusalEnds fault written WriteFault = IsPrefix written (request_refusal_text fault)
RefusalEnds fault written Memory = IsPrefix written (request_refusal_text fault)
RefusalEnds fault written other = ⊥

abbrev pub StopsAs : ReqNo → List ℕ → SessionEnd → Type 0
StopsAs req_no.CutShort written how = (written ≡ []) × (how ≡ CutShort)
StopsAs req_no.ReadFault written how = (written ≡ []) × (how ≡ ReadFault)
StopsAs req_no.Memory written how = (written ≡ []) × (how ≡ Memory)
StopsAs fault written how = RefusalEnds fault written how

-- the sink's count of faults at that end
abbrev pub CountsAt : SessionEnd → Sent → Type 0
CountsAt WriteFault sent = Rose sent.faults_old sent.faults_new
CountsAt other sent = sent.faults_new ≡ sent.faults_old

-- the session was stopped: what was written, and nothing is held back where it wasn't broken off
pub record IsStopped (fault : ReqNo) (sent : Sent) (how : SessionEnd) : Type 0 where
  pub written : List ℕ
  pub sink : sent.written_new ≡ appended sent.written_old written
  pub stops : StopsAs fault written how
  pub counts : CountsAt how sent
  pub settled : sent.settled_old → UnlessBroken how sent.settled_new

-- a further round follows
abbrev pub OnNone : {A : Type 0} → Option A → Type 0 → Type 0
OnNone None P = P
OnNone (Some x) P = Unit {0}

-- this holds, unless the session ended in a way that leaves it open
abbrev pub OrEnd : (SessionEnd → Type 0 → Type 0) → Option SessionEnd → Type 0 → Type 0
OrEnd unless None P = P
OrEnd unless (Some how) P = unless how P
