-- What is said of the counts, of what is settled and of memory, by how a round or a session ends.
use Rattle.std.proofs.Common.{◌≡◌, ◌≢◌, ℕ, Bool, List, [], Option, Result, Ok, Err, refl, sym, subst, arith}
use Rattle.std.specs.Prelude.{⊤, OnOk}
use mathlib.Core.List.{IsPrefix}
use Rattle.edge_io.proofs.ToldLemmas.{appended-nil}
use Rattle.http_read.specs.Answers.{UnlessFault}
use Rattle.http_read.specs.declared.refusal.ReqNo.{ReqNo}
use Rattle.http_read.specs.declared.refusal.ReqNo.TheVariants as req_no
use Rattle.edge_io.specs.Sent.{Sent}
use Rattle.edge_io.proofs.SentLemmas.{sent_of}
use Rattle.sess_reply.specs.Replies.{request_refusal_text}
use Rattle.sess_reply.specs.Sending.{Counts, Sends}
use Rattle.sess_reply.specs.declared.broken.Broken.{Broken}
use Rattle.sess_turns.specs.declared.ends.WatchEnd.{WatchEnd}
use Rattle.sess_serve.specs.Ends.{UnlessReadFault, UnlessWriteFault, UnlessMemory, UnlessBroken}
use Rattle.sess_serve.specs.Serving as serving
use Rattle.sess_serve.specs.Serving.{OrEnd, OnNone, CountsAt, IsStopped, StopsAs, RefusalEnds, end_after, end_of_refusal}
use Rattle.sess_serve.specs.declared.ends.SessionEnd.{SessionEnd}
use Rattle.sess_serve.specs.declared.ends.SessionEnd.TheVariants.{Refused}

-- ---- what holds anyway, and what follows

pub memory-anyway : {P : Type 0} (how : SessionEnd) → P → UnlessMemory how P
memory-anyway how p = grind arith

pub read-map : {P Q : Type 0} (how : SessionEnd) → (P → Q) → UnlessReadFault how P → UnlessReadFault how Q
read-map how f p = grind arith

pub write-map : {P Q : Type 0} (how : SessionEnd) → (P → Q) → UnlessWriteFault how P → UnlessWriteFault how Q
write-map how f p = grind arith

-- ---- after a request

module _ (came : Result (Option WatchEnd) Broken) (close : Bool) (result : Option SessionEnd) (is : result ≡ end_after came close) where
  pub after-kept : (P : Type 0) → serving.UnlessMemory came P → OrEnd UnlessMemory result P
  after-kept P h = grind arith

  pub after-flushed : (P : Type 0) → OnOk came P → OnNone result P
  after-flushed P h = grind arith

  pub after-settled : (P : Type 0) → OnOk came P → OrEnd UnlessBroken result P
  after-settled P h = grind arith

  pub after-sink : (sent : Sent) → Counts came sent → OrEnd UnlessWriteFault result (sent.faults_new ≡ sent.faults_old)
  after-sink sent h = grind arith

  pub after-source : {P : Type 0} → P → OrEnd UnlessReadFault result P
  after-source p = grind arith

  pub after-reading : {P : Type 0} → P → OnNone result P
  after-reading p = grind arith

-- ---- where no request was read

pub stopped-source : (P : Type 0) (A : Type 0) (fault : ReqNo) (written : List ℕ) (how : SessionEnd) → StopsAs fault written how → UnlessFault {A = A} (Err fault) P → UnlessReadFault how P
stopped-source P A fault written how stops h = grind arith

pub stopped-sink : (how : SessionEnd) (sent : Sent) → CountsAt how sent → UnlessWriteFault how (sent.faults_new ≡ sent.faults_old)
stopped-sink how sent h = grind arith

stops-refused : (fault : ReqNo) (written : List ℕ) (how : SessionEnd) → fault ≢ req_no.CutShort → fault ≢ req_no.ReadFault → fault ≢ req_no.Memory → RefusalEnds fault written how → StopsAs fault written how
stops-refused fault written how a b c h = grind arith

-- the reply to what is no request was sent, or a beginning of it
pub refusal-stops : (fault : ReqNo) (told : Result ⊤ Broken) (how : SessionEnd) (sent : Sent) → how ≡ end_of_refusal fault told
    → fault ≢ req_no.CutShort → fault ≢ req_no.ReadFault → fault ≢ req_no.Memory → Sends told (request_refusal_text fault) sent → IsStopped fault sent how
refusal-stops fault told how sent is a b c out = subst (IsStopped fault sent) (sym is) (by told out)
  where
    by : (told : Result ⊤ Broken) → Sends told (request_refusal_text fault) sent → IsStopped fault sent (end_of_refusal fault told)
    by (Ok u) out = record {
      written = request_refusal_text fault;
      sink = out.0.0;
      stops = stops-refused fault (request_refusal_text fault) (Refused fault) a b c (refl, refl);
      counts = out.0.1;
      settled = λ before. out.1;
    }
    by (Err why) out =
        let begun : IsPrefix out.0.0.0 (request_refusal_text fault) = (out.0.0.1, sym out.0.0.2) in
        let counts : Counts {A = ⊤} (Err why) sent = out.0.1 in
        record {
          written = out.0.0.0;
          sink = out.0.0.3;
          stops = stops-refused fault out.0.0.0 (end_of_refusal fault (Err why)) a b c (grind (arith, begun));
          counts = grind (arith, counts);
          settled = λ before. grind arith;
        }

-- nothing was written
pub stops-silent : (fault kind : ReqNo) (how : SessionEnd) (a : Option (List ℕ)) (s : Type 0) (f : ℕ) → fault ≡ kind → StopsAs kind [] how
    → CountsAt how (sent_of a a s s f f) → IsStopped fault (sent_of a a s s f f) how
stops-silent fault kind how a s f is stops counts = record {
  written = [];
  sink = sym (appended-nil a);
  stops = subst (λ n. StopsAs n [] how) (sym is) stops;
  counts = counts;
  settled = λ before. grind arith;
}
