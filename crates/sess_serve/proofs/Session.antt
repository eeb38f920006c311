-- How a session goes on by one request, and how it ends.
use Rattle.std.proofs.Common.{◌≡◌, ◌∙◌, ◌++◌, ℕ, ◌+◌, ◌<◌, Bool, ◌⊎◌, List, [], ◌∷◌, length, Option, Some, None, refl, sym, ap, subst, inl, inr, arith}
use Rattle.std.specs.Prelude.{All}
use Rattle.std.proofs.lemmas.List.{append_assoc, append-nil, length-append}
use Rattle.std.proofs.lemmas.Grind.{flat_map-append}
use Rattle.std.proofs.lemmas.List.Elements.{All-nil, All-push}
use mathlib.Core.List.{IsPrefix}
use Rattle.edge_io.specs.Told.{prepended, appended, Noted}
use Rattle.edge_io.specs.declared.clock.Reading.{Reading}
use Rattle.edge_io.proofs.ToldLemmas.{appended-appended, appended-nil, prepended-prepended, prepended-nil, Noted-nil, Noted-join}
use Rattle.http_read.specs.Requests.{ReadsOne, ReadsSome}
use Rattle.http_read.specs.declared.request.Req.{Req}
use Rattle.http_read.proofs.EndingLemmas.{some-stay}
use Rattle.kube_meta.specs.Rows.{RowData}
use Rattle.up_api.specs.declared.settings.Settings.{Settings}
use Rattle.rev_front.specs.Passes.{Authored, Pass}
use Rattle.rev_log.specs.Changes.{RevisionData}
use Rattle.client_api.specs.Facts.{Facts, Watched as Watching, IsOnward, Rests}
use Rattle.client_api.proofs.LawLemmas.{onwards_do_join}
use Rattle.sess_reply.specs.Replies.{request_refusal_text}
use Rattle.sess_turns.specs.Terms.{Terms, terms_of}
use Rattle.sess_serve.specs.declared.ends.SessionEnd.{SessionEnd}
use Rattle.sess_serve.specs.declared.ends.SessionEnd.TheVariants.{Done, Watched, ReadFault, WriteFault, CutShort, Refused, TooMany, Memory}
use Rattle.sess_serve.specs.Answers.{acted, answer_readings}
use Rattle.sess_serve.specs.Steps.{Exchange, Step, Run, AreAlone, IsAlone}
use Rattle.sess_serve.specs.Texts.{answer_text, answer_texts, answer_bytes}
use Rattle.sess_serve.specs.Ends.{Traffic, Stays, IsKeptOpen, Last, BrokenOff, BrokenRefusal, Ended, Knows, KnowsAlone}
use Rattle.sess_serve.specs.Session.{IsSession, acted_by, requests_of, readings_in}
use Rattle.sess_serve.specs.Serving.{Account, Exchanged, account_of, exchange_of, BeginsWith, RefusalBegun, RoundIs, IsRound, Ends}

-- ---- one more at the end

pub reads-push : (bytes mid rest : List ℕ) (es : List Exchange) (e : Exchange) → ReadsSome bytes (requests_of es) mid → ReadsOne mid e.request rest
    → ReadsSome bytes (requests_of (es ++ e ∷ [])) rest
reads-push bytes mid rest [] e same one = (rest, subst (λ b. ReadsOne b e.request rest) (sym same) one, refl)
reads-push bytes mid rest (f ∷ es) e (after, first, others) one = (after, first, reads-push after mid rest es e others one)

pub run-push : (terms : Terms) (p mid : Pass RevisionData) (es : List Exchange) (e : Exchange) → Run terms p es mid → Step terms mid e
    → Run terms p (es ++ e ∷ []) e.pass
run-push terms p mid [] e same step = (subst (λ a. Step terms a e) (sym same) step, refl)
run-push terms p mid (f ∷ es) e (first, others) step = (first, run-push terms f.pass mid es e others step)

pub alone-push : (terms : Terms) (p mid : Pass RevisionData) (es : List Exchange) (e : Exchange) → Run terms p es mid → AreAlone terms p es
    → IsAlone terms mid e.answer e.pass → AreAlone terms p (es ++ e ∷ [])
alone-push terms p mid [] e same all sole = (subst (λ a. IsAlone terms a e.answer e.pass) (sym same) sole, tt)
alone-push terms p mid (f ∷ es) e (first, others) all sole = (all.0, alone-push terms f.pass mid es e others all.1 sole)

acted-push : (es : List Exchange) (e : Exchange) (did : Authored) → acted_by (es ++ e ∷ []) did ≡ acted e.answer (acted_by es did)
acted-push [] e did = refl
acted-push (f ∷ es) e did = acted-push es e (acted f.answer did)

texts-push : (terms : Terms) (es : List Exchange) (e : Exchange) → answer_texts terms (es ++ e ∷ []) ≡ answer_texts terms es ++ answer_text terms e
texts-push terms es e = flat_map-append (answer_text terms) es (e ∷ []) ∙ ap (λ t. answer_texts terms es ++ t) (append-nil (answer_text terms e))

readings-push : (es : List Exchange) (e : Exchange) → readings_in (es ++ e ∷ []) ≡ readings_in es ++ answer_readings e.answer
readings-push es e =
    flat_map-append (λ (x : Exchange). answer_readings x.answer) es (e ∷ []) ∙ ap (λ t. readings_in es ++ t) (append-nil (answer_readings e.answer))

-- a text and then a beginning of a further one is a beginning of both
prefix-after : (front text written begun all whole : List ℕ) → written ≡ front → IsPrefix begun text → whole ≡ front ++ text → all ≡ written ++ begun → IsPrefix all whole
prefix-after front text written begun all whole is (rest, e) same out =
    (rest, ap (λ a. a ++ rest) (out ∙ ap (λ w. w ++ begun) is) ∙ append_assoc front begun rest ∙ ap (λ t. front ++ t) e ∙ sym same)

-- ---- what was done so far

-- n requests were answered, and none of them ended the session
pub record Sofar (terms : Terms) (taken written : List ℕ) (readings : List Reading) (kept : List ℕ) (n : ℕ) : Type 0 where
  pub exchanges : List Exchange
  pub reads : ReadsSome taken (requests_of exchanges) kept
  pub text : written ≡ answer_texts terms exchanges
  pub readings_are : readings ≡ readings_in exchanges
  pub stay : All Stays exchanges
  pub count : length exchanges ≡ n

-- what a session says beside what is known of its log
pub record Finished (terms : Terms) (exchanges : List Exchange) (rest : List ℕ) (traffic : Traffic) (how : SessionEnd) : Type 0 where
  pub reads : ReadsSome traffic.taken (requests_of exchanges) rest
  pub readings : traffic.readings ≡ readings_in exchanges
  pub ended : Ended terms exchanges rest traffic how

abbrev pub none-sofar : (terms : Terms) (kept : List ℕ) → kept ≡ [] → Sofar terms [] [] [] kept 0
none-sofar terms kept none = record { exchanges = []; reads = sym none; text = refl; readings_are = refl; stay = All-nil Stays; count = refl }

-- as many requests as are allowed were answered
pub full : (terms : Terms) (taken written : List ℕ) (readings : List Reading) (kept : List ℕ) (n : ℕ) (read_fault write_fault : Type 0) (left : Option (List ℕ))
    (sofar : Sofar terms taken written readings kept n) → n ≡ terms.settings.requests
    → Finished terms sofar.exchanges kept (record { taken = taken; written = written; readings = readings; read_fault = read_fault; write_fault = write_fault; left = left }) TooMany
full terms taken written readings kept n read_fault write_fault left sofar same =
    record { reads = sofar.reads; readings = sofar.readings_are; ended = (sofar.text, sofar.stay, sofar.count ∙ same) }

-- there was no memory before the first request
pub none-finished : (terms : Terms) (v w : Type 0) (left : Option (List ℕ)) → 0 < terms.settings.requests
    → Finished terms [] [] (record { taken = []; written = []; readings = []; read_fault = v; write_fault = w; left = left }) Memory
none-finished terms v w left room = record { reads = refl; readings = refl; ended = inl (refl, record { stay = All-nil Stays; few = room }) }

-- one more request, over a log of which this is told, by whose terms answers are written as by those of the session
module _ (terms own : Terms) (alike : (e : Exchange) → answer_text own e ≡ answer_text terms e) (Of : Req → Type 0) (now : Type 0) (taken written : List ℕ) (readings : List Reading) (kept : List ℕ) (n : ℕ)
    (sofar : Sofar terms taken written readings kept n) (more : List ℕ) (text : List ℕ) (times : List Reading) (after : List ℕ) (q q' : Account) where
  reads' : ReadsSome (taken ++ more) (requests_of sofar.exchanges) (kept ++ more)
  reads' = some-stay taken more (requests_of sofar.exchanges) kept sofar.reads

  goes-on : n < terms.settings.requests → IsKeptOpen terms sofar.exchanges
  goes-on room = record { stay = sofar.stay; few = subst (λ k. k < terms.settings.requests) (sym sofar.count) room }

  -- with one more exchange
  module _ (x : Exchanged Of own now q (kept ++ more) after times q') where
    abbrev last-exchange : Exchange
    last-exchange = exchange_of x.request x.given.answer q'

    abbrev pushed : List Exchange
    pushed = sofar.exchanges ++ last-exchange ∷ []

    pub pushed-reads : ReadsSome (taken ++ more) (requests_of pushed) after
    pushed-reads = reads-push (taken ++ more) (kept ++ more) after sofar.exchanges last-exchange reads' x.reads

    pub pushed-readings : readings ++ times ≡ readings_in pushed
    pushed-readings =
        ap (λ r. r ++ times) sofar.readings_are ∙ ap (λ t. readings_in sofar.exchanges ++ t) x.given.readings_are
        ∙ sym (readings-push sofar.exchanges last-exchange)

    pub pushed-text : text ≡ answer_bytes own x.request x.given.answer → written ++ text ≡ answer_texts terms pushed
    pushed-text e =
        ap (λ w. w ++ text) sofar.text ∙ ap (λ t. answer_texts terms sofar.exchanges ++ t) (e ∙ alike last-exchange)
        ∙ sym (texts-push terms sofar.exchanges last-exchange)

    abbrev pub next : Stays last-exchange → text ≡ answer_bytes own x.request x.given.answer → Sofar terms (taken ++ more) (written ++ text) (readings ++ times) after (n + 1)
    next stays e = record {
      exchanges = pushed;
      reads = pushed-reads;
      text = pushed-text e;
      readings_are = pushed-readings;
      stay = All-push Stays sofar.exchanges last-exchange sofar.stay stays;
      count = length-append sofar.exchanges (last-exchange ∷ []) ∙ ap (λ k. k + 1) sofar.count;
    }

    module _ (room : n < terms.settings.requests) where
      abbrev last-of : Last terms pushed
      last-of = record {
        before = sofar.exchanges;
        last = last-exchange;
        parted = refl;
        goes_on = goes-on room;
      }

      broken-off : IsPrefix text (answer_bytes own x.request x.given.answer) → BrokenOff terms pushed (written ++ text)
      broken-off begun = record {
        last = last-of;
        begun_text = prefix-after (answer_texts terms sofar.exchanges) (answer_text terms last-exchange) written text (written ++ text) (answer_texts terms pushed)
            sofar.text (subst (IsPrefix text) (alike last-exchange) begun) (texts-push terms sofar.exchanges last-exchange) refl;
        others = (text, ap (λ w. w ++ text) (sym sofar.text));
      }

  silent-text : text ≡ [] → written ++ text ≡ answer_texts terms sofar.exchanges
  silent-text none = ap (λ t. written ++ t) none ∙ append-nil written ∙ sofar.text

  silent-readings : times ≡ [] → readings ++ times ≡ readings_in sofar.exchanges
  silent-readings none = ap (λ t. readings ++ t) none ∙ append-nil readings ∙ sofar.readings_are

  refusal-begun : n < terms.settings.requests → (r : RefusalBegun (kept ++ more) text times q q') → BrokenRefusal terms sofar.exchanges (kept ++ more) (written ++ text)
  refusal-begun room (fault, refused, begun, unread, same) = record {
    goes_on = goes-on room;
    fault = fault;
    refused = refused;
    begun_text = prefix-after (answer_texts terms sofar.exchanges) (request_refusal_text fault) written text (written ++ text)
        (answer_texts terms sofar.exchanges ++ request_refusal_text fault) sofar.text begun refl refl;
    others = (text, ap (λ w. w ++ text) (sym sofar.text));
  }

  module _ (read_fault write_fault : Type 0) (left : Option (List ℕ)) (Out : SessionEnd → Type 0) where
    abbrev traffic : Traffic
    traffic = record { taken = taken ++ more; written = written ++ text; readings = readings ++ times; read_fault = read_fault; write_fault = write_fault; left = left }

    -- the session ended with one more exchange, or with those so far
    abbrev EndsWithOne : Type 0
    EndsWithOne =
        (how : SessionEnd) (x : Exchanged Of own now q (kept ++ more) after times q') → Knows how q'.pass q'.pass → KnowsAlone own how q'.pass after q'.pass
        → Finished terms (sofar.exchanges ++ exchange_of x.request x.given.answer q' ∷ []) after traffic how → Out how

    abbrev EndsWithNone : Type 0
    EndsWithNone =
        (how : SessionEnd) → Knows how q.pass q'.pass → (q.pass ≡ q'.pass) ⊎ BeginsWith Of (kept ++ more) → (now → KnowsAlone own how q.pass (kept ++ more) q'.pass)
        → q'.did ≡ q.did → Finished terms sofar.exchanges (kept ++ more) traffic how → Out how

    module _ (room : n < terms.settings.requests) (with-one : EndsWithOne) (with-none : EndsWithNone) where
      one : (how : SessionEnd) (x : Exchanged Of own now q (kept ++ more) after times q') → Knows how q'.pass q'.pass → KnowsAlone own how q'.pass after q'.pass → Ended terms (pushed x) after traffic how → Out how
      one how x knows alone ended = with-one how x knows alone (record { reads = pushed-reads x; readings = pushed-readings x; ended = ended })

      none : (how : SessionEnd) → times ≡ [] → Knows how q.pass q'.pass → (q.pass ≡ q'.pass) ⊎ BeginsWith Of (kept ++ more) → (now → KnowsAlone own how q.pass (kept ++ more) q'.pass)
          → q'.did ≡ q.did → Ended terms sofar.exchanges (kept ++ more) traffic how → Out how
      none how unread knows asked alone did ended = with-none how knows asked alone did (record { reads = reads'; readings = silent-readings unread; ended = ended })

      -- nothing was known anew, nor done
      same-pass : q ≡ q' → q.pass ≡ q'.pass
      same-pass same = ap (λ (a : Account). a.pass) same

      same-did : q ≡ q' → q'.did ≡ q.did
      same-did same = ap (λ (a : Account). a.did) (sym same)

      -- the session ended in a round
      pub ends : (how : SessionEnd) → RoundIs Of own now q (kept ++ more) after text times q' read_fault write_fault left (Some how) → Out how
      ends Done (inl (x, closed, e)) = one Done x refl tt (pushed-text x e, inl (last-of x room, closed))
      ends Done (inr (silent, nothing, exhausted)) =
          none Done silent.1 (same-pass silent.2) (inl (same-pass silent.2)) (λ _. tt) (same-did silent.2) (silent-text silent.0, inr (goes-on room, nothing, exhausted))
      ends (Watched how) (x, is, e) = one (Watched how) x refl tt (pushed-text x e, (last-of x room, is))
      ends CutShort (silent, cut, exhausted) =
          none CutShort silent.1 (same-pass silent.2) (inl (same-pass silent.2)) (λ _. tt) (same-did silent.2) (silent-text silent.0, goes-on room, cut, exhausted)
      ends ReadFault (silent, unfinished, rose) =
          none ReadFault silent.1 (same-pass silent.2) (inl (same-pass silent.2)) (λ _. tt) (same-did silent.2) (silent-text silent.0, goes-on room, unfinished, rose)
      ends (Refused fault) (e, refused, unread, same) =
          none (Refused fault) unread (same-pass same) (inl (same-pass same)) (λ _. tt) (same-did same)
          (ap (λ w. w ++ text) sofar.text ∙ ap (λ t. answer_texts terms sofar.exchanges ++ t) e, goes-on room, refused)
      ends WriteFault (rose, inl (x, begun)) = one WriteFault x refl tt (rose, inl (broken-off x room begun))
      ends WriteFault (rose, inr begun) =
          none WriteFault begun.3 (same-pass begun.4) (inl (same-pass begun.4)) (λ _. tt) (same-did begun.4) (rose, inr (refusal-begun room begun))
      ends Memory (inl (x, begun)) = one Memory x (onwards_do_join.0 q'.pass) (inl refl) (inr (inl (broken-off x room begun)))
      ends Memory (inr (inl begun)) =
          none Memory begun.3 (subst (IsOnward q.pass) (same-pass begun.4) (onwards_do_join.0 q.pass)) (inl (same-pass begun.4))
          (λ _. inl (ap (λ (a : Account). a.pass.seen) (sym begun.4))) (same-did begun.4) (inr (inr (refusal-begun room begun)))
      ends Memory (inr (inr unfinished)) =
          none Memory unfinished.unread unfinished.onward unfinished.asked unfinished.sole unfinished.did (inl (silent-text unfinished.nothing, goes-on room))
      ends TooMany h = absurd h

-- what doesn't change between turns
pub terms-same : (base : List RowData) (mirror : Bool) (s : Settings) (f g : Facts) (w : Option Watching) (h : ℕ) → g ≡ record f { watching = w; heard = h }
    → terms_of base mirror g s ≡ terms_of base mirror f s
terms-same base mirror s f g w h e = ap (λ x. terms_of base mirror x s) e

-- the terms stay where a client does what is its own
pub terms-rest : (base : List RowData) (mirror : Bool) (s : Settings) (f g : Facts) (h : ℕ) (did : Authored) → g ≡ record f { heard = h; did = did }
    → terms_of base mirror g s ≡ terms_of base mirror f s
terms-rest base mirror s f g h did e = ap (λ x. terms_of base mirror x s) e

pub facts-next : (f g h : Facts) → Rests f g → Rests g h
    → Rests f h
facts-next f g h first second = grind arith

pub facts-idle : (f g : Facts) → f.watching ≡ None → Rests f g → g.watching ≡ None
facts-idle f g idle e = grind arith

-- ---- from round to round

-- what went through the ends so far: from what they told at first to what they tell now
pub record Passed (first now : Ends) : Type 0 where
  pub taken : List ℕ
  pub written : List ℕ
  pub readings : List Reading
  pub source : first.left ≡ prepended taken now.left
  pub sink : now.written ≡ appended first.written written
  pub noted : Noted first.readings now.readings readings

abbrev pub none-passed : (first : Ends) → Passed first first
none-passed first = record {
  taken = [];
  written = [];
  readings = [];
  source = sym (prepended-nil first.left);
  sink = sym (appended-nil first.written);
  noted = Noted-nil first.readings;
}

-- with what went through in a round
abbrev pub more-passed : (first mid last : Ends) → Passed first mid → Passed mid last → Passed first last
more-passed first mid last a b = record {
  taken = a.taken ++ b.taken;
  written = a.written ++ b.written;
  readings = a.readings ++ b.readings;
  source = a.source ∙ ap (prepended a.taken) b.source ∙ prepended-prepended a.taken b.taken last.left;
  sink = b.sink ∙ ap (λ m. appended m b.written) a.sink ∙ appended-appended first.written a.written b.written;
  noted = Noted-join first.readings mid.readings last.readings a.readings b.readings a.noted b.noted;
}

abbrev pub round-passed : (Of : Req → Type 0) (terms : Terms) (whole : Type 0) (p q : Account) (kept after : List ℕ) (old new : Ends) (r s : Type 0) (came : Option SessionEnd)
    → IsRound Of terms whole p kept after old new r s q came → Passed old new
round-passed Of terms whole p q kept after old new r s came round = record {
  taken = round.taken;
  written = round.written;
  readings = round.readings;
  source = round.source;
  sink = round.sink;
  noted = round.noted;
}

-- the clause of a session, by what its traffic makes of it
abbrev pub Between : Ends → Ends → Type 0 → Type 0 → (Traffic → Type 0) → Type 0
Between first last read_fault write_fault Session =
    (taken : List ℕ) × (written : List ℕ) × (readings : List Reading)
    × (first.left ≡ prepended taken last.left)
    × (last.written ≡ appended first.written written)
    × Noted first.readings last.readings readings
    × Session (record { taken = taken; written = written; readings = readings; read_fault = read_fault; write_fault = write_fault; left = last.left })

pub between : (first last : Ends) (r s : Type 0) (Session : Traffic → Type 0) (a : Passed first last)
    → Session (record { taken = a.taken; written = a.written; readings = a.readings; read_fault = r; write_fault = s; left = last.left }) → Between first last r s Session
between first last r s Session a session = (a.taken, a.written, a.readings, a.source, a.sink, a.noted, session)

-- what the loop keeps
pub record Loop (terms : Terms) (whole : Type 0) (p : Pass RevisionData) (did : Authored) (first now : Ends) (kept : List ℕ) (q : Pass RevisionData) (did_then : Authored) (n : ℕ) : Type 0 where
  pub passed : Passed first now
  pub sofar : Sofar terms passed.taken passed.written passed.readings kept n
  pub run : Run terms p sofar.exchanges q
  pub sole : whole → AreAlone terms p sofar.exchanges
  pub acts : did_then ≡ acted_by sofar.exchanges did

pub loop-start : (terms : Terms) (whole : Type 0) (p : Pass RevisionData) (did : Authored) (first : Ends) (kept : List ℕ) → kept ≡ [] → Loop terms whole p did first first kept p did 0
loop-start terms whole p did first kept none =
    record { passed = none-passed first; sofar = none-sofar terms kept none; run = refl; sole = λ w. tt; acts = refl }

-- a session, and that its answers tell what the client did
abbrev IsTold : Terms → Type 0 → Pass RevisionData → Authored → Pass RevisionData → Authored → Traffic → SessionEnd → Type 0
IsTold terms whole p did q did_then traffic how = (session : IsSession terms whole p traffic q how) × (did_then ≡ acted_by session.exchanges did)

-- the clause of the session
abbrev pub IsSessionBetween : Terms → Type 0 → Pass RevisionData → Authored → Ends → Ends → Pass RevisionData → Authored → Type 0 → Type 0 → SessionEnd → Type 0
IsSessionBetween terms whole p did first last q did_then read_fault write_fault how =
    (taken : List ℕ) × (written : List ℕ) × (readings : List Reading)
    × (first.left ≡ prepended taken last.left)
    × (last.written ≡ appended first.written written)
    × Noted first.readings last.readings readings
    × (session : IsSession terms whole p
    (record { taken = taken; written = written; readings = readings; read_fault = read_fault; write_fault = write_fault; left = last.left }) q how)
    × (did_then ≡ acted_by session.exchanges did)

session-between : (terms : Terms) (whole : Type 0) (p : Pass RevisionData) (did : Authored) (first last : Ends) (q : Pass RevisionData) (did_then : Authored) (r s : Type 0) (how : SessionEnd)
    (a : Passed first last)
    → IsTold terms whole p did q did_then (record { taken = a.taken; written = a.written; readings = a.readings; read_fault = r; write_fault = s; left = last.left }) how
    → IsSessionBetween terms whole p did first last q did_then r s how
session-between terms whole p did first last q did_then r s how a told = (a.taken, a.written, a.readings, a.source, a.sink, a.noted, told.0, told.1)

module _ (terms terms' : Terms) (same : terms' ≡ terms) (whole now : Type 0) (still : whole → now) (p : Pass RevisionData) (did : Authored) (first mid last : Ends) (kept after : List ℕ)
    (q : Pass RevisionData) (did_then : Authored) (q' : Pass RevisionData) (did_later : Authored) (n : ℕ) (r s : Type 0)
    (loop : Loop terms whole p did first mid kept q did_then n) where
  abbrev Any : Req → Type 0
  Any req = Unit {0}

  abbrev before : Account
  before = account_of q did_then

  abbrev later : Account
  later = account_of q' did_later

  module _ (more : List ℕ) (times : List Reading) (x : Exchanged Any terms now before (kept ++ more) after times later) where
    abbrev e : Exchange
    e = exchange_of x.request x.given.answer later

    pushed-run : Run terms p (loop.sofar.exchanges ++ e ∷ []) q'
    pushed-run = run-push terms p q loop.sofar.exchanges e loop.run (record { answers = x.given.answers; says = x.given.says; onward = x.given.onward })

    pushed-sole : whole → AreAlone terms p (loop.sofar.exchanges ++ e ∷ [])
    pushed-sole w = alone-push terms p q loop.sofar.exchanges e loop.run (loop.sole w) (x.given.sole (still w))

    pushed-acts : did_later ≡ acted_by (loop.sofar.exchanges ++ e ∷ []) did
    pushed-acts = x.given.did ∙ ap (acted x.given.answer) loop.acts ∙ sym (acted-push loop.sofar.exchanges e did)

  pub loop-next : IsRound Any terms' now before kept after mid last r s later None → Loop terms whole p did first last after q' did_later (n + 1)
  loop-next x =
      let round : IsRound Any terms now before kept after mid last r s later None = subst (λ t. IsRound Any t now before kept after mid last r s later None) same x in
      record {
        passed = more-passed first mid last loop.passed (round-passed Any terms now before later kept after mid last r s None round);
        sofar = next terms terms (λ e. refl) Any now loop.passed.taken loop.passed.written loop.passed.readings kept n loop.sofar round.taken round.written round.readings after before later
            round.round.0 round.round.1 round.round.2;
        run = pushed-run round.taken round.readings round.round.0;
        sole = pushed-sole round.taken round.readings round.round.0;
        acts = pushed-acts round.taken round.readings round.round.0;
      }

  pub loop-ends : (how : SessionEnd) → n < terms.settings.requests → IsRound Any terms' now before kept after mid last r s later (Some how)
      → IsSessionBetween terms whole p did first last q' did_later r s how
  loop-ends how room x =
      let round : IsRound Any terms now before kept after mid last r s later (Some how) = subst (λ t. IsRound Any t now before kept after mid last r s later (Some how)) same x in
      let all = more-passed first mid last loop.passed (round-passed Any terms now before later kept after mid last r s (Some how) round) in
      let Out : SessionEnd → Type 0 =
      λ how'. IsTold terms whole p did q' did_later (record { taken = all.taken; written = all.written; readings = all.readings; read_fault = r; write_fault = s; left = last.left }) how' in
      session-between terms whole p did first last q' did_later r s how all
      (ends terms terms (λ e. refl) Any now loop.passed.taken loop.passed.written loop.passed.readings kept n loop.sofar round.taken round.written round.readings after before later r s last.left
      Out room
      (λ how' x' knows alone done. (
        record {
          exchanges = loop.sofar.exchanges ++ exchange_of x'.request x'.given.answer later ∷ [];
          last = q';
          rest = after;
          reads = done.reads;
          run = pushed-run round.taken round.readings x';
          knows = knows;
          sole = λ w. (pushed-sole round.taken round.readings x' w, alone);
          readings = done.readings;
          ended = done.ended;
        },
        pushed-acts round.taken round.readings x',
      ))
      (λ how' knows asked alone idle done. (
        record {
          exchanges = loop.sofar.exchanges;
          last = q;
          rest = kept ++ round.taken;
          reads = done.reads;
          run = loop.run;
          knows = knows;
          sole = λ w. (loop.sole w, alone (still w));
          readings = done.readings;
          ended = done.ended;
        },
        idle ∙ loop.acts,
      ))
      how round.round)

pub loop-full : (terms : Terms) (whole : Type 0) (p : Pass RevisionData) (did : Authored) (first last : Ends) (kept : List ℕ) (q : Pass RevisionData) (did_then : Authored) (n : ℕ) (v w : Type 0)
    → Loop terms whole p did first last kept q did_then n → n ≡ terms.settings.requests → IsSessionBetween terms whole p did first last q did_then v w TooMany
loop-full terms whole p did first last kept q did_then n v w loop same =
    let a = loop.passed in
    let done = full terms a.taken a.written a.readings kept n v w last.left loop.sofar same in
    session-between terms whole p did first last q did_then v w TooMany a (
      record {
        exchanges = loop.sofar.exchanges;
        last = q;
        rest = kept;
        reads = done.reads;
        run = loop.run;
        knows = refl;
        sole = λ u. (loop.sole u, tt);
        readings = done.readings;
        ended = done.ended;
      },
      loop.acts,
    )

-- there was no memory before the first request
pub none-begun : (terms : Terms) (whole : Type 0) (p : Pass RevisionData) (did : Authored) (first : Ends) (v w : Type 0) → 0 < terms.settings.requests
    → IsSessionBetween terms whole p did first first p did v w Memory
none-begun terms whole p did first v w room =
    session-between terms whole p did first first p did v w Memory (none-passed first) (
      record {
        exchanges = [];
        last = p;
        rest = [];
        reads = refl;
        run = refl;
        knows = onwards_do_join.0 p;
        sole = λ u. (tt, inl refl);
        readings = refl;
        ended = (none-finished terms v w first.left room).ended;
      },
      refl,
    )
