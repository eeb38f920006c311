-- How one request comes to an exchange, or to want of memory.
use Rattle.std.proofs.Common.{◌≡◌, ◌≢◌, ◌∙◌, ◌⊎◌, ℕ, List, [], Option, Some, None, Result, Ok, Err, refl, sym, ap, subst, inl, inr, arith}
use Rattle.std.specs.Prelude.{⊤, IfOk, IsSomeAnd, Bool, true, false}
use mathlib.Core.List.{IsPrefix}
use Rattle.edge_io.specs.Told.{Noted}
use Rattle.edge_io.specs.declared.clock.Reading.{Reading}
use Rattle.edge_io.proofs.ToldLemmas.{appended-nil, Noted-nil}
use Rattle.edge_io.specs.Sent.{Sent}
use Rattle.kube_meta.specs.Rows.{RowData}
use Rattle.rev_front.specs.Passes.{Authored, Pass}
use Rattle.rev_log.specs.Changes.{RevisionData}
use Rattle.http_read.specs.declared.request.Req.{Req}
use Rattle.up_api.specs.declared.settings.Settings.{Settings}
use Rattle.up_store.specs.declared.writes.WriteAsk.{WriteAsk}
use Rattle.up_store.specs.declared.writes.WriteNo.{WriteNo}
use Rattle.up_store.specs.declared.writes.WriteNo.TheVariants as write_no
use Rattle.up_store.specs.declared.writes.Written.{Written}
use Rattle.up_store.specs.declared.transactions.TxWriteNo.{TxWriteNo}
use Rattle.up_store.specs.declared.transactions.TxWriteNo.TheVariants as tx_no
use Rattle.std.specs.Global.{Vec}
use Rattle.up_store.specs.Stores.{commanded, paid}
use Rattle.up_store.specs.Transacting.{answers_in}
use Rattle.up_store.specs.declared.operations.Operate.{Operate}
use Rattle.up_store.specs.declared.operations.Operate.TheVariants.{Cut, Compact, Restart, Disconnect}
use Rattle.up_store.specs.declared.operations.OpNo.{OpNo}
use Rattle.up_store.specs.declared.operations.OpNo.TheVariants as op_no
use Rattle.route_req.specs.Asks.{IsRoute}
use Rattle.route_req.specs.declared.routing.Routed.TheVariants as routed
use Rattle.watch_rules.specs.declared.ask.WatchAsk.{WatchAsk}
use Rattle.client_api.specs.declared.answers.ListNo.{ListNo}
use Rattle.client_api.specs.declared.answers.ListNo.TheVariants as list_no
use Rattle.client_api.specs.Alone.{IsSoleRead, SoleRead, SoleWrite, SoleTransact, SoleOperate}
use Rattle.client_api.specs.Answers.{BegunData}
use Rattle.client_api.specs.Facts.{Facts, Watched, IsOnward, Acts, Rests}
use Rattle.client_api.specs.Starts.{IsWatchAnswer}
use Rattle.client_api.specs.Told.{IsToldRead, IsToldTx}
use Rattle.client_api.proofs.LawLemmas.{onwards_do_join}
use Rattle.meta_view.specs.declared.form.Form.{Form}
use Rattle.sess_reply.specs.Replies.{Reply, operated, transacted, wrote, reply_text, form_of}
use Rattle.sess_reply.specs.Sending.{Counts, Sends}
use Rattle.sess_reply.specs.declared.broken.Broken.{Broken}
use Rattle.sess_reply.specs.declared.broken.Broken.TheVariants as broken
use Rattle.sess_turns.specs.Terms.{Terms, terms_of}
use Rattle.sess_turns.specs.Streams.{Outside, IsStreamed, Names, gone_text}
use Rattle.sess_turns.specs.Turns.{Finish, end_of_watch}
use Rattle.sess_turns.specs.declared.view.View.{View}
use Rattle.sess_turns.specs.declared.ends.WatchEnd.{WatchEnd}
use Rattle.sess_turns.specs.declared.ends.WatchEnd.TheVariants as watch_end
use Rattle.sess_serve.specs.Answers.{replied, streamed, gone, begun, IsReplyTo, acted, answer_readings}
use Rattle.sess_serve.specs.Ends.{Begins}
use Rattle.sess_serve.specs.Steps.{ReplySays, IsAloneReply}
use Rattle.sess_serve.specs.Http.{IsPlainOrUpgrade, view_of, framing_of}
use Rattle.sess_serve.specs.Texts.{answer_bytes}
use Rattle.sess_serve.specs.Serving.{Account, Given, Answered, AnsweredAs, ComesTo, Replied, UnlessMemory, account_of, sent_with}

-- ---- nobody else holds the log

-- reads that were told
pub sole-told : {A : Type 0} (p q : Pass RevisionData) (answer : Result A ListNo) → IsToldRead answer → SoleRead p answer q → IsSoleRead p q
sole-told p q answer told sole = grind arith

pub onward-is : (p q : Pass RevisionData) → p ≡ q → IsOnward p q
onward-is p q same = subst (IsOnward p) same (onwards_do_join.0 p)

some-as : {A : Type 0} (o : Option A) {P Q : A → Type 0} → IsSomeAnd o P → ((x : A) → P x → Q x) → IsSomeAnd o Q
some-as None h f = h
some-as (Some x) h f = f x h

module _ (base : List RowData) (mirror : Bool) (facts : Facts) (s : Settings) (p q : Pass RevisionData) (req : Req) where
  abbrev terms : Terms
  terms = terms_of base mirror facts s

  abbrev IsBegun : Type 0
  IsBegun = (q.seen ≡ p.seen) ⊎ IsSomeAnd facts.sole_history (λ history. Begins terms history p req q)

  pub lacks-write : (ask : WriteAsk) (answer : Result Written WriteNo) → IsRoute req (routed.Write ask) → answer ≡ Err write_no.Memory
      → IsSomeAnd facts.sole_history (λ history. SoleWrite base mirror history p ask answer q) → IsBegun
  lacks-write ask answer route is sole =
      inr (some-as facts.sole_history sole (λ history h. inl (ask, route, subst (λ a. SoleWrite base mirror history p ask a q) is h)))

  pub lacks-transact : (asks : List WriteAsk) (answer : Result (List Written) TxWriteNo) → IsRoute req (routed.Transact asks) → answer ≡ Err tx_no.Memory
      → IsSomeAnd facts.sole_history (λ history. SoleTransact base mirror history p asks answer q) → IsBegun
  lacks-transact asks answer route is sole =
      inr (some-as facts.sole_history sole (λ history h. inr (asks, route, subst (λ a. SoleTransact base mirror history p asks a q) is h)))

  pub lacks-read : {A : Type 0} (answer : Result A ListNo) → answer ≡ Err list_no.Memory → SoleRead p answer q → IsBegun
  lacks-read {A} answer is sole = let P : Result A ListNo → Type 0 = λ a. SoleRead p a q in inl (subst P is sole)

  pub lacks-operate : (ask : Operate) (answer : Result ℕ OpNo) → answer ≡ Err op_no.Memory → SoleOperate p ask answer q → IsBegun
  lacks-operate ask answer is sole = inl (subst (λ a. SoleOperate p ask a q) is sole)

-- a server that fails a probe is a mirror's
pub mirror-unready : (mirror ready : Bool) → (mirror ≡ false → ready ≡ true) → ready ≡ false → mirror ≡ true
mirror-unready mirror ready always lost = grind arith

-- a transaction that was told
pub told-in : (answer : Result (Vec Written) TxWriteNo) → IsToldTx answer → IsToldTx (answers_in answer)
told-in answer told = grind arith

-- ---- what the client did

-- what of the log is its own doing
abbrev pub did_of : Facts → Authored
did_of facts = facts.did

-- nothing, where there was no memory for its write
pub unpaid_lacking : {A E : Type 0} (answer : Result A E) (fault : E) (did : Authored) → answer ≡ Err fault → paid answer did ≡ did
unpaid_lacking answer fault did is = ap (λ r. paid r did) is

uncommanded : (ask : Operate) (fault : OpNo) (did : Authored) → commanded ask (Err fault) did ≡ did
uncommanded Cut fault did = refl
uncommanded (Compact at) fault did = refl
uncommanded Restart fault did = refl
uncommanded Disconnect fault did = refl

-- or for its operation
pub uncommanded_lacking : (ask : Operate) (answer : Result ℕ OpNo) (fault : OpNo) (did : Authored) → answer ≡ Err fault → commanded ask answer did ≡ did
uncommanded_lacking ask answer fault did is = ap (λ r. commanded ask r did) is ∙ uncommanded ask fault did

-- what it was paid for is what its answer tells
pub acted_wrote : (ask : WriteAsk) (answer : Result Written WriteNo) (did : Authored) → paid answer did ≡ acted (replied (wrote ask answer)) did
acted_wrote ask (Ok written) did = refl
acted_wrote ask (Err fault) did = refl

pub acted_transacted : (asks : List WriteAsk) (answer : Result (Vec Written) TxWriteNo) (did : Authored)
    → paid answer did ≡ acted (replied (transacted asks (answers_in answer))) did
acted_transacted asks (Ok answers) did = refl
acted_transacted asks (Err fault) did = refl

pub acted_operated : (ask : Operate) (answer : Result ℕ OpNo) (did : Authored) → commanded ask answer did ≡ acted (replied (operated ask answer)) did
acted_operated Cut (Ok generation) did = refl
acted_operated Cut (Err fault) did = refl
acted_operated (Compact at) (Ok floor) did = refl
acted_operated (Compact at) (Err fault) did = refl
acted_operated Restart answer did = refl
acted_operated Disconnect answer did = refl

-- nothing is known anew, and nothing was done
pub account_same : (p q : Pass RevisionData) (did did_then : Authored) → q ≡ p → did_then ≡ did → account_of p did ≡ account_of q did_then
account_same p q did did_then pass same = ap (λ x. account_of x did) (sym pass) ∙ ap (account_of q) (sym same)

-- ---- answers

if-ok : {A : Type 0} {P : A → Type 0} (r : Result A Broken) → ((x : A) → P x) → IfOk r P
if-ok (Ok x) f = f x
if-ok (Err why) f = tt

-- a stream that wasn't broken off names its end
names : (ended : Result WatchEnd Broken) (finish : Finish) → Names ended finish → IfOk ended (λ how. end_of_watch finish ≡ Some how)
names (Ok how) finish is = is
names (Err why) finish is = tt

-- an answer was sent, or a beginning of it
module _ (terms : Terms) (whole : Type 0) (p q : Account) (req : Req) (outside : Outside) (readings : List Reading)
    (given : Given terms whole p req readings q)
    (noted : Noted outside.readings_old outside.readings_new readings) where
  begun-so : (why : Broken) (written : List ℕ) → IsPrefix written (answer_bytes terms req given.answer)
      → AnsweredAs terms whole p req written readings q (Err why)
  begun-so broken.Fault written part = (given, part)
  begun-so broken.Memory written part = inl (given, part)

  sent-so : {A : Type 0} (end : A → Option WatchEnd) (sent : Result A Broken) → IfOk sent (λ done. ComesTo given.answer (end done))
      → Sends sent (answer_bytes terms req given.answer) outside.sent → Answered terms whole p req outside q (sent_with end sent)
  sent-so end (Ok done) ends out = record {
    written = answer_bytes terms req given.answer;
    readings = readings;
    sink = out.0.0;
    noted = noted;
    answered = (given, ends, refl);
    counts = out.0.1;
    settled = out.1;
  }
  sent-so {A} end (Err why) ends out =
      let counts : Counts {A = A} (Err why) outside.sent = out.0.1 in
      record {
        written = out.0.0.0;
        readings = readings;
        sink = out.0.0.3;
        noted = noted;
        answered = begun-so why out.0.0.0 (out.0.0.1, sym out.0.0.2);
        counts = grind (arith, counts);
        settled = tt;
      }

-- by a reply, which takes no reading of the clock
module _ (terms : Terms) (whole : Type 0) (p q : Account) (req : Req) (sent : Sent) where
  pub sends : (came : Result (Option WatchEnd) Broken) (told : Result ⊤ Broken) → came ≡ sent_with (λ done. None) told → (reply : Reply) → IsReplyTo req reply
      → ReplySays terms p.pass reply q.pass → IsOnward p.pass q.pass → (whole → IsAloneReply terms p.pass reply q.pass) → q.did ≡ acted (replied reply) p.did
      → Sends told (reply_text (form_of req) req.close reply) sent → Replied terms whole p req sent q came
  sends came told is reply answers says onward sole did out = λ readings.
      let outside : Outside = record { readings_old = readings; readings_new = readings; sent = sent } in
      let given : Given terms whole p req [] q =
      record { answer = replied reply; answers = answers; says = says; onward = onward; sole = sole; did = did; readings_are = refl } in
      subst (Answered terms whole p req outside q) (sym is) (sent-so terms whole p q req outside [] given (Noted-nil readings) (λ done. None) told
      (if-ok told (λ done. refl)) out)

  -- the same of a reply in a form
  pub sends-in : (form : Form) → form ≡ form_of req → (came : Result (Option WatchEnd) Broken) (told : Result ⊤ Broken) → came ≡ sent_with (λ done. None) told
      → (reply : Reply) → IsReplyTo req reply → ReplySays terms p.pass reply q.pass → IsOnward p.pass q.pass → (whole → IsAloneReply terms p.pass reply q.pass) → q.did ≡ acted (replied reply) p.did
      → Sends told (reply_text form req.close reply) sent → Replied terms whole p req sent q came
  sends-in form shown came told is reply answers says onward sole did out =
      sends came told is reply answers says onward sole did (subst (λ f. Sends told (reply_text f req.close reply) sent) shown out)

  -- there was no memory, and nothing was written
  pub lacks : sent.written_new ≡ sent.written_old → sent.faults_new ≡ sent.faults_old → IsOnward p.pass q.pass
      → (whole → (q.pass.seen ≡ p.pass.seen) ⊎ IsSomeAnd terms.sole_history (λ history. Begins terms history p.pass req q.pass)) → q.did ≡ p.did → Replied terms whole p req sent q (Err broken.Memory)
  lacks still quiet onward sole did = λ readings. record {
    written = [];
    readings = [];
    sink = still ∙ sym (appended-nil sent.written_old);
    noted = Noted-nil readings;
    answered = inr (record { nothing = refl; unread = refl; onward = onward; sole = sole; did = did });
    counts = quiet;
    settled = tt;
  }

-- by the stream of a watch whose start is gone
pub answers-by-loss : (terms : Terms) (whole : Type 0) (p q : Account) (req : Req) (sent : Sent) (readings : Option (List Reading))
    (ask : WatchAsk) (asked floor : ℕ)
    (told : Result ⊤ Broken) (came : Result (Option WatchEnd) Broken) → came ≡ sent_with (λ done. Some (watch_end.Lost asked floor)) told
    → IsRoute req (routed.Watch ask) → IsPlainOrUpgrade req → IsWatchAnswer terms.base terms.window p.pass ask (Err (list_no.Expired asked floor)) q.pass
    → IsOnward p.pass q.pass → (whole → IsSoleRead p.pass q.pass) → q.did ≡ p.did
    → Sends told (gone_text (framing_of req.upgrade) asked floor) sent
    → Answered terms whole p req (record { readings_old = readings; readings_new = readings; sent = sent }) q came
answers-by-loss terms whole p q req sent readings ask asked floor told came is route plain says onward sole did out =
    let outside : Outside = record { readings_old = readings; readings_new = readings; sent = sent } in
    let given : Given terms whole p req [] q =
    record { answer = streamed ask (gone asked floor); answers = (route, plain); says = says; onward = onward; sole = sole; did = did; readings_are = refl } in
    subst (Answered terms whole p req outside q) (sym is)
    (sent-so terms whole p q req outside [] given (Noted-nil readings) (λ done. Some (watch_end.Lost asked floor)) told (if-ok told (λ done. refl)) out)

-- by the stream of a watch that began
pub answers-by-stream : (terms : Terms) (whole : Type 0) (p : Account) (mid : Pass RevisionData) (q : Account) (req : Req) (outside : Outside) (ask : WatchAsk)
    (started : BegunData) (view : View) (ended : Result WatchEnd Broken) (came : Result (Option WatchEnd) Broken)
    → came ≡ sent_with Some ended → view ≡ view_of req → IsRoute req (routed.Watch ask) → IsPlainOrUpgrade req
    → IsWatchAnswer terms.base terms.window p.pass ask (Ok started) mid → IsOnward p.pass mid → IsOnward mid q.pass → (whole → IsSoleRead p.pass mid) → q.did ≡ p.did
    → IsStreamed terms view ask started whole mid outside ended q.pass → Answered terms whole p req outside q came
answers-by-stream terms whole p mid q req outside ask started view ended came is seen route plain says first second sole did streaming =
    let str : IsStreamed terms (view_of req) ask started whole mid outside ended q.pass = subst (λ v. IsStreamed terms v ask started whole mid outside ended q.pass)
    seen streaming in
    let given : Given terms whole p req (answer_readings (streamed ask (begun mid str.watch))) q = record {
      answer = streamed ask (begun mid str.watch);
      answers = (route, plain);
      says = (first, subst (λ b. IsWatchAnswer terms.base terms.window p.pass ask (Ok b) mid) (sym str.begins) says, str.turns);
      onward = onwards_do_join.1 p.pass mid q.pass first second;
      sole = λ w. (sole w, str.sole w);
      did = did;
      readings_are = refl;
    } in
    subst (Answered terms whole p req outside q) (sym is) (sent-so terms whole p q req outside _ given str.readings Some ended
    (names ended str.watch.finish str.ends) str.sends)

-- ---- what is said of memory, by what a step answers

pub unless-memory : {A P : Type 0} (r : Result A Broken) → P → UnlessMemory r P
unless-memory r p = grind arith

pub stream-kept : (ended : Result WatchEnd Broken) (came : Result (Option WatchEnd) Broken) {P : Type 0} → came ≡ sent_with Some ended
    → (ended ≢ Err broken.Memory → P) → UnlessMemory came P
stream-kept ended came is h = grind arith

-- ---- facts of the client

-- a watch that didn't begin
pub facts-unwatched : (f g : Facts) → f.watching ≡ None → g ≡ record f { watching = None } → g ≡ record f { heard = g.heard }
facts-unwatched f g idle e = grind arith

-- a watch that began and ended
pub facts-watched : (f m g : Facts) (w : Option Watched) → f.watching ≡ None → m ≡ record f { watching = w } → g ≡ record m { watching = None; heard = g.heard } → g ≡ record f { heard = g.heard }
facts-watched f m g w idle first e = grind arith

-- nothing was its own doing
pub facts-rest : (f g : Facts) → g ≡ record f { heard = g.heard } → Rests f g
facts-rest f g quiet = grind arith

-- nothing but what is its own doing changed
pub facts-acted : (f g : Facts) → Acts f g → Rests f g
facts-acted f g acted = grind arith

-- it did so much then
pub acts-own : (f g : Facts) (did : Authored) → g ≡ record f { did = did } → Acts f g
acts-own f g did is = grind arith

-- it did nothing
pub acts-none : (f g : Facts) → g ≡ f → Acts f g
acts-none f g same = grind arith

-- nothing changed
pub facts-still : (f g : Facts) → g ≡ f → g ≡ record f { heard = g.heard }
facts-still f g same = grind arith
