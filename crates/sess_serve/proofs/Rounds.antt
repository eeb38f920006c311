-- One round of the session's loop, from what its parts did.
use Rattle.std.proofs.Common.{◌≡◌, ◌∙◌, ◌++◌, ◌⊎◌, ℕ, Bool, true, false, List, [], Option, Some, None, Result, Ok, Err, refl, sym, ap, subst, inl, inr}
use Rattle.std.specs.Prelude.{IsSomeAnd}
use Rattle.edge_io.specs.Counts.{Rose}
use Rattle.edge_io.specs.Told.{Noted}
use Rattle.edge_io.specs.declared.clock.Reading.{Reading}
use Rattle.edge_io.proofs.ToldLemmas.{appended-nil, Noted-nil}
use Rattle.edge_io.proofs.SentLemmas.{sent_of}
use Rattle.http_read.specs.Answers.{AnswersNext, ReadsNext}
use Rattle.http_read.specs.Readers.{ReaderState}
use Rattle.http_read.specs.Requests.{ReadsOne, IsRefused}
use Rattle.http_read.specs.declared.request.Req.{Req}
use Rattle.http_read.specs.declared.refusal.ReqNo.{ReqNo}
use Rattle.http_read.specs.declared.refusal.ReqNo.TheVariants as req_no
use Rattle.client_api.specs.Facts.{IsOnward}
use Rattle.client_api.proofs.LawLemmas.{onwards_do_join}
use Rattle.sess_reply.specs.Replies.{request_refusal_text}
use Rattle.sess_reply.specs.Sending.{Counts}
use Rattle.sess_reply.specs.declared.broken.Broken.{Broken}
use Rattle.sess_reply.specs.declared.broken.Broken.TheVariants as broken
use Rattle.sess_turns.specs.Terms.{Terms}
use Rattle.sess_turns.specs.declared.ends.WatchEnd.{WatchEnd}
use Rattle.sess_serve.specs.Ends.{Begins, SoleMemory}
use Rattle.sess_serve.specs.Serving.{Account, Given, Exchanged, AnsweredAs, Answered, Ends, IsRound, RoundIs, end_after, IsStopped, StopsAs, RefusalEnds, CountsAt}
use Rattle.sess_serve.specs.declared.ends.SessionEnd.{SessionEnd}
use Rattle.sess_serve.specs.declared.ends.SessionEnd.TheVariants.{Done, Watched, ReadFault, WriteFault, CutShort, Refused, TooMany, Memory}

module _ (Of : Req → Type 0) (terms : Terms) (whole : Type 0) (p q : Account) (old_reader new_reader : ReaderState) (old new : Ends) (f f' : ℕ) (g g' : ℕ) where
  -- ---- a request was read and answered

  module _ (bytes after written : List ℕ) (readings : List Reading) (req : Req) (is_of : Of req) (reads : ReadsOne bytes req after) where
    -- what was begun for the request is what was begun for the bytes
    lacking : (q.pass.seen ≡ p.pass.seen) ⊎ IsSomeAnd terms.sole_history (λ history. Begins terms history p.pass req q.pass) → SoleMemory terms p.pass bytes q.pass
    lacking (inl same) = inl same
    lacking (inr done) = inr (req, after, reads, done)

    abbrev one : Given terms whole p req readings q → Exchanged Of terms whole p bytes after readings q
    one given = record { request = req; is = is_of; reads = reads; given = given }

    goes : (s t : Type 0) (came : Result (Option WatchEnd) Broken) (close : Bool) → req.close ≡ close → AnsweredAs terms whole p req written readings q came
        → Counts came (sent_of old.written new.written s t g g') → RoundIs Of terms whole p bytes after written readings q (Rose f f') (Rose g g') new.left
        (end_after came close)
    goes s t (Ok None) true closes (given, replied, out) counts = inl (one given, record { closes = closes; by_reply = replied }, out)
    goes s t (Ok None) false closes (given, replied, out) counts = (one given, record { open_ = closes; by_reply = replied }, out)
    goes s t (Ok (Some how)) close closes (given, ends, out) counts = (one given, ends, out)
    goes s t (Err broken.Fault) close closes (given, begun) counts = (counts, inl (one given, begun))
    goes s t (Err broken.Memory) close closes (inl (given, begun)) counts = inl (one given, begun)
    goes s t (Err broken.Memory) close closes (inr un) counts =
        inr (inr (record { nothing = un.nothing; unread = un.unread; onward = un.onward; asked = inr (req, after, reads, is_of); sole = λ w. lacking (un.sole w); did = un.did }))

  pub round-answered : (s t : Type 0) (req : Req) (is_of : Of req) (came : Result (Option WatchEnd) Broken) (result : Option SessionEnd)
      → AnswersNext old_reader new_reader old.left new.left f f' (Ok (Some req))
      → Answered terms whole p req (record { readings_old = old.readings; readings_new = new.readings; sent = sent_of old.written new.written s t g g' }) q came
      → result ≡ end_after came req.close
      → IsRound Of terms whole p old_reader.kept new_reader.kept old new (Rose f f') (Rose g g') q result
  round-answered s t req is_of came result reading answered is = record {
    taken = reading.taken;
    written = answered.written;
    readings = answered.readings;
    source = reading.left;
    sink = answered.sink;
    noted = answered.noted;
    round = subst (RoundIs Of terms whole p (old_reader.kept ++ reading.taken) new_reader.kept answered.written answered.readings q (Rose f f') (Rose g g') new.left) (sym is)
        (goes (old_reader.kept ++ reading.taken) new_reader.kept answered.written answered.readings req is_of reading.answers s t came req.close refl
        answered.answered answered.counts);
  }

  -- ---- no request was read

  module _ (same : p ≡ q) (unread : new.readings ≡ old.readings) where
    noted : Noted old.readings new.readings []
    noted = subst (λ (x : Option (List Reading)). Noted old.readings x []) (sym unread) (Noted-nil old.readings)

    pub round-clean : new.written ≡ old.written → AnswersNext old_reader new_reader old.left new.left f f' (Ok None)
        → IsRound Of terms whole p old_reader.kept new_reader.kept old new (Rose f f') (Rose g g') q (Some Done)
    round-clean still reading = record {
      taken = reading.taken;
      written = [];
      readings = [];
      source = reading.left;
      sink = still ∙ sym (appended-nil old.written);
      noted = noted;
      round = inr ((refl, refl, same), reading.answers.0, reading.answers.1);
    }

    refuses : (s t : Type 0) (bytes after written : List ℕ) (fault : ReqNo) (how : SessionEnd) → IsRefused bytes fault → RefusalEnds fault written how → CountsAt how (sent_of old.written new.written s t g g')
        → RoundIs Of terms whole p bytes after written [] q (Rose f f') (Rose g g') new.left (Some how)
    refuses s t bytes after written fault (Refused told) refused ends counts = (ends.1 ∙ ap request_refusal_text (sym ends.0), subst (IsRefused bytes) (sym ends.0) refused, refl, same)
    refuses s t bytes after written fault WriteFault refused ends counts = (counts, inr (fault, refused, ends, refl, same))
    refuses s t bytes after written fault Memory refused ends counts = inr (inl (fault, refused, ends, refl, same))
    refuses s t bytes after written fault Done refused ends counts = absurd ends
    refuses s t bytes after written fault (Watched how) refused ends counts = absurd ends
    refuses s t bytes after written fault CutShort refused ends counts = absurd ends
    refuses s t bytes after written fault ReadFault refused ends counts = absurd ends
    refuses s t bytes after written fault TooMany refused ends counts = absurd ends

    pub stops : (s t : Type 0) (bytes after written : List ℕ) (fault : ReqNo) (how : SessionEnd) → ReadsNext bytes (Err fault) after new.left f f' → StopsAs fault written how → CountsAt how (sent_of old.written new.written s t g g')
        → RoundIs Of terms whole p bytes after written [] q (Rose f f') (Rose g g') new.left (Some how)
    stops s t bytes after written req_no.CutShort how reads (none, is) counts = rw is ((none, refl, same), reads.0, reads.1)
    stops s t bytes after written req_no.ReadFault how reads (none, is) counts = rw is ((none, refl, same), reads.1, reads.0)
    stops s t bytes after written req_no.Memory how reads (none, is) counts =
        rw is (inr (inr (record {
          nothing = none;
          unread = refl;
          onward = subst (λ (a : Account). IsOnward p.pass a.pass) same (onwards_do_join.0 p.pass);
          asked = inl (ap (λ (a : Account). a.pass) same);
          sole = λ w. inl (ap (λ (a : Account). a.pass.seen) (sym same));
          did = ap (λ (a : Account). a.did) (sym same);
        })))
    stops s t bytes after written req_no.Malformed how reads ends counts = refuses s t bytes after written req_no.Malformed how reads ends counts
    stops s t bytes after written req_no.HeadTooLong how reads ends counts = refuses s t bytes after written req_no.HeadTooLong how reads ends counts
    stops s t bytes after written req_no.TooManyHeaders how reads ends counts = refuses s t bytes after written req_no.TooManyHeaders how reads ends counts
    stops s t bytes after written req_no.BodyTooLong how reads ends counts = refuses s t bytes after written req_no.BodyTooLong how reads ends counts
    stops s t bytes after written req_no.NeedsLength how reads ends counts = refuses s t bytes after written req_no.NeedsLength how reads ends counts

    pub round-stopped : (s t : Type 0) (fault : ReqNo) (how : SessionEnd) → AnswersNext old_reader new_reader old.left new.left f f' (Err fault)
        → IsStopped fault (sent_of old.written new.written s t g g') how
        → IsRound Of terms whole p old_reader.kept new_reader.kept old new (Rose f f') (Rose g g') q (Some how)
    round-stopped s t fault how reading stopped = record {
      taken = reading.taken;
      written = stopped.written;
      readings = [];
      source = reading.left;
      sink = stopped.sink;
      noted = noted;
      round = stops s t (old_reader.kept ++ reading.taken) new_reader.kept stopped.written fault how reading.answers stopped.stops stopped.counts;
    }
