-- From a session of any client to the figures of a load.
use Rattle.std.proofs.Common.{◌≡◌, ℕ, ◌≤◌, List, [], ◌∷◌, ◌++◌, Bool, true, false, Option, None, Some, Ok, Err, refl, sym, ap, subst, ◌∙◌, inl, inr, arith, codes}
use Rattle.std.specs.Prelude.{Result, IfOk}
use Rattle.std.specs.List.{All}
use Rattle.std.specs.declared.alloc.AllocError.{AllocError}
use Rattle.edge_io.specs.Memory.{SinkState}
use Rattle.std.proofs.lemmas.List.Elements.{All-head, All-tail, All-push}
use Rattle.kube_meta.specs.Rows.{RowData, behind}
use Rattle.rev_front.specs.Passes.{Pass, Whole, end_from, last_of}
use Rattle.rev_log.specs.Changes.{RevisionData}
use Rattle.rev_log.specs.Logs.{Log}
use Rattle.up_api.specs.Sections.{HasSeenAll, log_of}
use Rattle.up_api.specs.Settings.{usual}
use Rattle.up_api.specs.declared.settings.Settings.{Settings}
use Rattle.up_store.specs.declared.writes.WriteAsk.TheVariants as write
use Rattle.select_all.specs.Listings.{IsListing}
use Rattle.select_all.specs.Reading.{IsRead, ReadsSelection}
use Rattle.kube_meta.specs.declared.resources.Resource.TheVariants.{Pods}
use Rattle.select_all.specs.declared.selection.Selection.{Selection}
use Rattle.select_all.specs.declared.selection.Meaning.{Meaning}
use Rattle.select_all.specs.declared.selection.Meaning.TheVariants.{MostRecent}
use Rattle.list_rules.specs.Pages.{page_of}
use Rattle.list_rules.specs.declared.ask.ListAsk.{ListAsk}
use Rattle.http_read.specs.declared.request.Req.{Req}
use Rattle.api_errors.specs.Failures as errors
use Rattle.api_errors.specs.declared.failures.Failure.{Failure}
use Rattle.meta_view.specs.declared.form.Form.{Form}
use Rattle.client_api.specs.Alone.{known, IsSoleRead}
use Rattle.client_api.specs.Answers.{ListedData}
use Rattle.client_api.specs.Facts.{Facts, all_served}
use Rattle.client_api.specs.Fresh.{Meets}
use Rattle.client_api.specs.Lists.{IsListed}
use Rattle.local_client.specs.CachedLogs.{CachedLogData, IsNewLog, KnowsWhole, window_of}
use Rattle.http_send.specs.declared.replies.ContentType.{ContentType}
use Rattle.http_send.specs.declared.replies.ContentType.TheVariants.{Json, PlainText, MetricsText}
use Rattle.sess_reply.specs.Contents.{Content, refusal_content, refused, content_type_of}
use Rattle.sess_reply.specs.Replies.{Reply, unrouted, wrote, transacted, got, listed, operated, unoperated, described, metered, unready, unwatched, bad_upgrade, content_of, form_of, content_text}
use Rattle.sess_serve.specs.Answers.{Answer, replied, streamed, is_stream}
use Rattle.sess_serve.specs.Ends.{Traffic, Ended}
use Rattle.sess_serve.specs.Steps.{Exchange}
use Rattle.sess_serve.specs.Texts.{answer_bytes, answer_texts}
use Rattle.sess_serve.specs.declared.ends.SessionEnd.TheVariants.{Done}
use Rattle.sess_turns.specs.Terms.{Terms, terms_of}
use Rattle.load_gen.proofs.NewLogLemmas.{of_new_log}
use Rattle.load_gen.specs.Loads.{IsLoadServed, AreFigures, pods_of_load}
use Rattle.sess_serve.specs.NewLogs.{new_pass, terms}
use Rattle.load_gen.specs.Tallies.{IsWholeList, IsWholeListed, AreTallies, IsTallied}
use Rattle.load_gen.specs.declared.figures.Figures.{Figures}
use Rattle.load_gen.specs.Replies.{code_in, reply_code, codes_of, IsCode, AreReplies}

-- ---- a session of a client of a new log

served_new : (first : ℕ) (base : List RowData) (mirror : Bool) (facts : Facts) (log : CachedLogData) (settings : Settings)
    (session written : List ℕ) (q : Pass RevisionData) → first ≡ 1 → base ≡ [] → mirror ≡ false → settings ≡ usual →
    facts.window ≡ window_of log → facts.sole_history ≡ Some log.store.history → facts.resources ≡ all_served → facts.operable ≡ true → IsNewLog first settings log →
    IsLoadServed (terms_of base mirror facts settings) (KnowsWhole log) log.pass session written q →
    IsLoadServed (terms usual) (Unit {0}) (new_pass log.pass.seat) session written q
served_new first base mirror facts log settings session written q first-is base-is own settings-are window-is alone-is all-is takes new s =
    let in-settings : IsLoadServed (terms settings) (Unit {0}) (new_pass log.pass.seat) session written q =
    record {
      taken = s.taken;
      left = s.left;
      readings = s.readings;
      parted = s.parted;
      served = of_new_log first base mirror facts log settings _ q Done first-is base-is own window-is alone-is all-is takes new s.served;
    } in
    subst (λ (x : Settings). IsLoadServed (terms x) (Unit {0}) (new_pass log.pass.seat) session written q) settings-are in-settings

-- ---- its replies

of_told : (told : Option Failure) (c : Content) → refusal_content told ≡ Some c → IsCode c.code
of_told None c e = absurd (cc)
of_told (Some told) c e =
    let same : refused told ≡ c = cc in
    inr (inr (inr (told.reason, sym (ap (λ (x : Content). x.code) same))))

of_content : (content c : Content) → IsCode content.code → Some content ≡ Some c → IsCode c.code
of_content content c known e =
    let same : content ≡ c = cc in
    subst IsCode (ap (λ (x : Content). x.code) same) known

of_said : (code : ℕ) (kind : ContentType) (text : List ℕ) (c : Content) → IsCode code → Some (record { code = code; retry = false; kind = kind; text = text }) ≡ Some c → IsCode c.code
of_said code kind text c known e =
    let same : record { code = code; retry = false; kind = kind; text = text } ≡ c = cc in
    subst IsCode (ap (λ (x : Content). x.code) same) known

is_accepted : IsCode 200
is_accepted = inl refl

-- what a reply says has one of the codes
known_code : (form : Form) (reply : Reply) (c : Content) → content_of form reply ≡ Some c → IsCode c.code
known_code form (unrouted fault) c e = of_told _ c e
known_code form (wrote (write.Create resource obj) (Ok written)) c e = of_said 201 Json _ c (inr (inl refl)) e
known_code form (wrote (write.Replace resource obj given) (Ok written)) c e = of_said 200 Json _ c is_accepted e
known_code form (wrote (write.Remove resource key) (Ok written)) c e = of_said 200 Json _ c is_accepted e
known_code form (wrote ask (Err fault)) c e = of_told _ c e
known_code form (transacted asks (Ok answers)) c e = of_said 200 Json _ c is_accepted e
known_code form (transacted asks (Err fault)) c e = of_told _ c e
known_code form (got ask (Ok answer)) c e = of_said 200 Json _ c is_accepted e
known_code form (got ask (Err fault)) c e = of_told _ c e
known_code form (listed ask (Ok answer)) c e = of_said 200 Json _ c is_accepted e
known_code form (listed ask (Err fault)) c e = of_told _ c e
known_code form (operated ask (Ok value)) c e = of_said 200 Json _ c is_accepted e
known_code form (operated ask (Err fault)) c e = of_told _ c e
known_code form (unoperated ask) c e = of_told (Some errors.read_only) c e
known_code form (described served document) c e = of_said 200 (content_type_of document) _ c is_accepted e
known_code form (metered told) c e = of_said 200 MetricsText _ c is_accepted e
known_code form (unready probe) c e = of_content (record { code = 503; retry = true; kind = PlainText; text = _ }) c (inr (inr (inl refl))) e
known_code form (unwatched ask fault) c e = of_told _ c e
known_code form (bad_upgrade ask) c e = of_told (Some errors.bad_upgrade) c e

-- one reply in front of others
one_more : (close : Bool) (content : Option Content) (others : List ℕ) (text : List ℕ) → ((c : Content) → content ≡ Some c → IsCode c.code) →
    AreReplies others text → AreReplies (code_in content ++ others) (content_text close content ++ text)
one_more close None others text known rest = rest
one_more close (Some content) others text known rest =
    (content_text close (Some content), text, refl, record { kind = content.kind; retry = content.retry; close = close; body = content.text ++ 10 ∷ []; text_is = refl; known = known content refl }, rest)

first_told : (t : Terms) (req : Req) (a : Answer) (others text : List ℕ) → is_stream a ≡ false → AreReplies others text → AreReplies (reply_code req a ++ others) (answer_bytes t req a ++ text)
first_told t req (replied reply) others text is rest =
    one_more req.close (content_of (form_of req) reply) others text (known_code (form_of req) reply) rest
first_told t req (streamed ask stream) others text is rest = absurd (cc)

abbrev ByReply : Exchange → Type 0
ByReply e = is_stream e.answer ≡ false

replies_in : (t : Terms) (es : List Exchange) → All ByReply es → AreReplies (codes_of es) (answer_texts t es)
replies_in t [] all = refl
replies_in t (e ∷ es) all =
    first_told t e.request e.answer (codes_of es) (answer_texts t es) (All-head ByReply e es all) (replies_in t es (All-tail ByReply e es all))

-- a session that came to its end was answered by replies
all_replied : (t : Terms) (es : List Exchange) (rest : List ℕ) (traffic : Traffic) → Ended t es rest traffic Done → All ByReply es
all_replied t es rest traffic ended =
    elim ended.1 as (λ _. All ByReply es) [
      | inl closed ↦
          subst (All ByReply) (sym closed.0.parted)
          (All-push ByReply closed.0.before closed.0.last (λ k d h. (closed.0.goes_on.stay k d h).by_reply) closed.1.by_reply)
      | inr open_ ↦ λ k d h. (open_.0.stay k d h).by_reply
    ]

-- what a session wrote that came to its end
pub replies_told : (t : Terms) (W : Type 0) (p : Pass RevisionData) (session written : List ℕ) (q : Pass RevisionData) (s : IsLoadServed t W p session written q) → AreReplies (codes_of s.served.exchanges) written
replies_told t W p session written q s =
    let traffic : Traffic = record { taken = s.taken; written = written; readings = s.readings; read_fault = ⊥; write_fault = ⊥; left = Some s.left } in
    let all = all_replied t s.served.exchanges s.served.rest traffic s.served.ended in
    subst (AreReplies (codes_of s.served.exchanges)) (sym s.served.ended.0) (replies_in t s.served.exchanges all)

-- ---- the list at the end

same_log : (base : List RowData) (p q : Pass RevisionData) → known q ≡ known p → base ≡ [] → log_of base q ≡ log_of [] p
same_log base p q same base-is =
    let of_whole : Whole RevisionData → Log = λ w. record { first = w.first; base = base; revisions = w.log } in
    let of_base : List RowData → Log = λ b. record { first = p.first; base = b; revisions = p.seen } in
    ap of_whole same ∙ ap of_base base-is

pub listed_end : (base : List RowData) (p q : Pass RevisionData) (ask : ListAsk) (given : ListedData) → base ≡ [] → HasSeenAll p → IsWholeList ask →
    IsListed base p ask given q → IsSoleRead p q →
    (given.rev ≡ end_from p.first p.seen) × IsListing (log_of [] p) pods_of_load given.rev given.rows
listed_end base p q ask given base-is seen whole is sole =
    let meets : Meets p MostRecent given.rev q = subst (λ (m : Meaning). Meets p m given.rev q) whole.meaning_is is.fresh.meets in
    let low : p.shown ≤ last_of q = meets.0.1 in
    let high : given.rev ≤ end_from q.first q.seen = is.fresh.seen in
    let reached : last_of q ≤ given.rev = meets.1 in
    let end_of : Whole RevisionData → ℕ = λ w. end_from w.first w.log in
    let ends : end_from q.first q.seen ≡ end_from p.first p.seen = ap end_of sole.same in
    let rows : given.rows ≡ is.all =
    is.rows_are ∙ ap (λ (n : ℕ). page_of n (behind ask.after is.all)) whole.limit_is
    ∙ ap (λ (k : Option (List ℕ)). behind k is.all) whole.after_is in
    let in_log : IsListing (log_of [] p) ask.selection given.rev is.all =
    subst (λ (l : Log). IsListing l ask.selection given.rev is.all) (same_log base p q sole.same base-is) is.listing in
    let of_load : IsListing (log_of [] p) pods_of_load given.rev is.all =
    subst (λ (x : Selection). IsListing (log_of [] p) x given.rev is.all) whole.selection_is in_log in
    (omega arith, subst (λ (x : List RowData). IsListing (log_of [] p) pods_of_load given.rev x) (sym rows) of_load)

-- the selection that two empty texts are read as
abbrev all_in : List ℕ → Selection
all_in ns = record { resource = Pods; ns = Some ns; labels = []; fields = [] }

all_read : (ns : List ℕ) → IsRead Pods (Some ns) [] [] (all_in ns)
all_read ns = record {
  resource_is = refl;
  ns_is = refl;
  labels = record { tokens = []; are_tokens = tt; requirements = refl; few = omega arith; short = omega arith };
  fields = record { are_terms = tt; few = omega arith; short = omega arith };
}

pub of_no_texts : (ns : List ℕ) (s : Selection) → ns ≡ codes "load" →
    ((x : Selection) → IsRead Pods (Some ns) [] [] x → ReadsSelection (Ok s) (Ok x)) → s ≡ pods_of_load
of_no_texts ns s is only =
    let e = only (all_in ns) (all_read ns) in
    let same : s ≡ all_in ns = cc in
    same ∙ ap all_in is

-- ---- the figures

pub tallied : (requests : ℕ) (played : Result SinkState AllocError) (answered : Result ListedData AllocError) (sink : SinkState)
    (list : ListedData) (f : Figures) → played ≡ Ok sink → answered ≡ Ok list → AreTallies requests sink.written list f →
    IsTallied requests played answered f
tallied requests played answered sink list f played-is answered-is tallies =
    let with-list : IsTallied requests (Ok sink) answered f =
    subst (λ (x : Result ListedData AllocError). IsTallied requests (Ok sink) x f) (sym answered-is) tallies in
    subst (λ (x : Result SinkState AllocError). IsTallied requests x answered f) (sym played-is) with-list

-- of a session of a client of a new log, and of the list at its end
figures_are : (base : List RowData) (seat : ℕ) (session : List ℕ) (requests : ℕ) (sink : SinkState) (list : ListedData) (p q : Pass RevisionData)
    (f : Figures) → base ≡ [] → IsLoadServed (terms usual) (Unit {0}) (new_pass seat) session sink.written p → HasSeenAll p →
    IsWholeListed base p list q → IsSoleRead p q → AreTallies requests sink.written list f → AreFigures session f
figures_are base seat session requests sink list p q f base-is served seen whole sole tallies =
    let end = listed_end base p q whole.0 list base-is seen whole.1 whole.2 sole in
    record {
      seat = seat;
      written = sink.written;
      last = p;
      served = served;
      counted = tallies.counted (codes_of served.served.exchanges) (replies_told (terms usual) (Unit {0}) (new_pass seat) session sink.written p served);
      revision = tallies.revision ∙ end.0;
      rows = list.rows;
      listing = subst (λ (n : ℕ). IsListing (log_of [] p) pods_of_load n list.rows) (sym tallies.revision) end.1;
      items = tallies.items;
    }

-- what is given where a client of a new log served the session, and listed all
pub record IsPlayed (first : ℕ) (base : List RowData) (mirror : Bool) (facts : Facts) (settings : Settings) (log after : CachedLogData)
    (session : List ℕ) (q : Pass RevisionData) (played : Result SinkState AllocError) (answered : Result ListedData AllocError) : Type 0 where
  pub first_is : first ≡ 1
  pub base_is : base ≡ []
  pub own : mirror ≡ false
  pub settings_are : settings ≡ usual
  pub window_is : facts.window ≡ window_of log
  pub history_is : facts.sole_history ≡ Some log.store.history
  pub resources_are : facts.resources ≡ all_served
  pub operable_is : facts.operable ≡ true
  pub new : IsNewLog first settings log
  pub served : IfOk played (λ sink. IsLoadServed (terms_of base mirror facts settings) (KnowsWhole log) log.pass session sink.written after.pass)
  pub kept : IfOk played (λ sink. KnowsWhole after)
  pub listed_all : IfOk answered (λ list. IsWholeListed base after.pass list q)
  pub sole : KnowsWhole after → IfOk answered (λ list. IsSoleRead after.pass q)

pub figures_told : (first : ℕ) (base : List RowData) (mirror : Bool) (facts : Facts) (settings : Settings) (log after : CachedLogData)
    (session : List ℕ) (requests : ℕ) (q : Pass RevisionData) (played : Result SinkState AllocError) (answered : Result ListedData AllocError)
    (result : Result Figures AllocError) → IsPlayed first base mirror facts settings log after session q played answered →
    IfOk result (IsTallied requests played answered) → IfOk result (λ f. AreFigures session f)
figures_told first base mirror facts settings log after session requests q played answered (Err memory) is tallies = tt
figures_told first base mirror facts settings log after session requests q (Err memory) answered (Ok f) is tallies = absurd tallies
figures_told first base mirror facts settings log after session requests q (Ok sink) (Err memory) (Ok f) is tallies = absurd tallies
figures_told first base mirror facts settings log after session requests q (Ok sink) (Ok list) (Ok f) is tallies =
    figures_are base log.pass.seat session requests sink list after.pass q f is.base_is
    (served_new first base mirror facts log settings session sink.written after.pass is.first_is is.base_is is.own is.settings_are is.window_is is.history_is is.resources_are is.operable_is is.new is.served)
    is.kept.1 is.listed_all (is.sole is.kept) tallies

pub requests_told : (requests : ℕ) (played : Result SinkState AllocError) (answered : Result ListedData AllocError) (result : Result Figures AllocError) →
    IfOk result (IsTallied requests played answered) → IfOk result (λ f. f.requests ≡ requests)
requests_told requests played answered (Err memory) tallies = tt
requests_told requests (Err memory) answered (Ok f) tallies = absurd tallies
requests_told requests (Ok sink) (Err memory) (Ok f) tallies = absurd tallies
requests_told requests (Ok sink) (Ok list) (Ok f) tallies = tallies.requests_is
