-- Two loads of the same draws have the same figures.
use Rattle.std.specs.Prelude.{All, count_by, map}
use Rattle.std.proofs.Common.{◌≡◌, ℕ, ◌⊎◌, inl, inr, false, List, [], ◌∷◌, ◌++◌, length, Ok, Err, refl, ap, sym, subst, ◌∙◌, arith}
use Rattle.std.proofs.lemmas.Bool.{false≢true}
use Rattle.std.proofs.lemmas.List.{same_from_push}
use Rattle.std.proofs.lemmas.List.Elements.{All-nil, All-head, All-tail}
use Rattle.std.proofs.lemmas.List.Sorted.{IsNonDecreasingBy-short}
use Rattle.route_req.specs.declared.documents.Document.TheVariants as document
use Rattle.kube_meta.specs.declared.resources.Resource.TheVariants.{Pods}
use Rattle.rev_front.specs.Passes.{Pass, Whole, revision}
use Rattle.rev_log.specs.Changes.{RevisionData}
use Rattle.rev_log.specs.Logs.{Log}
use Rattle.select_all.specs.Listings.{IsListing}
use Rattle.select_all.specs.Selecting.{selects}
use Rattle.select_all.proofs.ListingLaws.{listings_are_one}
use Rattle.http_read.specs.Requests.{ReadsSome}
use Rattle.http_read.specs.declared.request.Req.{Req}
use Rattle.up_api.specs.Sections.{log_of}
use Rattle.up_api.specs.Settings.{usual}
use Rattle.client_api.specs.Alone.{known}
use Rattle.client_api.specs.declared.answers.ListNo.TheVariants as list_no
use Rattle.sess_reply.specs.Replies.{unrouted, wrote, transacted, got, listed, operated, unoperated, described, metered, unready, unwatched, bad_upgrade}
use Rattle.sess_serve.specs.Answers.{Answer, replied, streamed, is_stream}
use Rattle.sess_serve.specs.Ends.{Stays, IsKeptOpen, Last, IsClosed}
use Rattle.sess_serve.specs.Laws.{SessionsSettle, EndsAreExact, finished, heard, requests_in, EndsWith, AgreeOnStreams}
use Rattle.sess_serve.specs.NewLogs.{new_pass, terms}
use Rattle.sess_serve.specs.Steps.{Exchange, Run, AreAlone}
use Rattle.load_gen.specs.Loads.{IsLoadServed, pods_of_load}
use Rattle.load_gen.specs.Replies.{reply_code, codes_of, is_ok, AreCounted}
use Rattle.laws.specs.Determined.{HaveReplies, AreOne, AreAnsweredAlike, IsSound, RepliesAreDetermined}
use Rattle.laws.specs.Loads.{FiguresAreDetermined}

-- ---- a session that came to its end has no stream

stay-by-reply : (es : List Exchange) → All Stays es → HaveReplies es
stay-by-reply [] all = tt
stay-by-reply (e ∷ es) all = let first = All-head Stays e es all in (first.by_reply, stay-by-reply es (All-tail Stays e es all))

one-more : (es : List Exchange) (e : Exchange) → HaveReplies es → is_stream e.answer ≡ false → HaveReplies (es ++ e ∷ [])
one-more [] e before this = (this, tt)
one-more (x ∷ es) e before this = (before.0, one-more es e before.1 this)

ended-by-reply : (rest left : List ℕ) (es : List Exchange) → ((last : Last (terms usual) es) × IsClosed last.last) ⊎ (IsKeptOpen (terms usual) es × (rest ≡ []) × (left ≡ [])) → HaveReplies es
ended-by-reply rest left es how = elim how [
  | inl closed ↦ subst HaveReplies (sym closed.0.parted) (one-more closed.0.before closed.0.last (stay-by-reply closed.0.before closed.0.goes_on.stay) closed.1.by_reply)
  | inr open' ↦ stay-by-reply es open'.0.stay
]

agree-on-streams : (es fs : List Exchange) → HaveReplies es → HaveReplies fs → AgreeOnStreams (map heard es) (map heard fs)
agree-on-streams [] fs first second = tt
agree-on-streams (e ∷ es) [] first second = tt
agree-on-streams (e ∷ es) (f ∷ fs) first second = (first.0 ∙ sym second.0, agree-on-streams es fs first.1 second.1)

heard-requests : (es : List Exchange) → requests_in (map heard es) ≡ map (λ (e : Exchange). e.request) es
heard-requests [] = refl
heard-requests (e ∷ es) = λ i. e.request ∷ heard-requests es i

-- ---- the codes of answers that are one

same-code : (req : Req) (a b : Answer) → AreOne false a b → reply_code req b ≡ reply_code req a
same-code req (streamed ask stream) b is = ap (reply_code req) is
same-code req (replied (unrouted fault)) b is = ap (reply_code req) is
same-code req (replied (wrote ask answer)) b is = ap (reply_code req) is
same-code req (replied (transacted asks answer)) b is = ap (reply_code req) is
same-code req (replied (got ask answer)) b is = ap (reply_code req) is
same-code req (replied (listed ask (Ok page))) b is = ap (reply_code req) is
same-code req (replied (listed ask (Err (list_no.Expired asked floor)))) b is = ap (reply_code req) is.1
same-code req (replied (listed ask (Err (list_no.TooLarge asked current)))) b is = ap (reply_code req) is
same-code req (replied (listed ask (Err (list_no.Absent at)))) b is = ap (reply_code req) is
same-code req (replied (listed ask (Err list_no.Memory))) b is = ap (reply_code req) is
same-code req (replied (operated ask answer)) b is = ap (reply_code req) is
same-code req (replied (unoperated ask)) b is = ap (reply_code req) is
same-code req (replied (described served document.Version)) b is = ap (reply_code req) is
same-code req (replied (described served document.CoreVersions)) b is = ap (reply_code req) is
same-code req (replied (described served document.Groups)) b is = ap (reply_code req) is
same-code req (replied (described served document.AppsGroup)) b is = ap (reply_code req) is
same-code req (replied (described served document.CoreResources)) b is = ap (reply_code req) is
same-code req (replied (described served document.AppsResources)) b is = ap (reply_code req) is
same-code req (replied (described served document.OpenApi)) b is = ap (reply_code req) is
same-code req (replied (described served (document.Namespace ns))) b is = ap (reply_code req) is
same-code req (replied (described served (document.Probe probe))) b is = elim is [
  | inl ready ↦ ap (reply_code req) ready
  | inr lost ↦ absurd (false≢true lost.0)
]
same-code req (replied (metered told)) b is = ap (reply_code req) is.1
same-code req (replied (unready probe)) b is = absurd (false≢true is.0)
same-code req (replied (unwatched ask fault)) b is = ap (reply_code req) is
same-code req (replied (bad_upgrade ask)) b is = ap (reply_code req) is

same-codes : (es fs : List Exchange) → AreAnsweredAlike false es fs → codes_of fs ≡ codes_of es
same-codes [] [] is = refl
same-codes [] (f ∷ fs) is = absurd is
same-codes (e ∷ es) [] is = absurd is
same-codes (e ∷ es) (f ∷ fs) is =
    let one : reply_code f.request f.answer ≡ reply_code e.request e.answer = ap (λ (req : Req). reply_code req f.answer) is.0 ∙ same-code e.request e.answer f.answer is.1 in
    let more : codes_of fs ≡ codes_of es = same-codes es fs is.2 in
    λ i. one i ++ more i

counted-once : (codes others : List ℕ) (ok refused good bad : ℕ) → others ≡ codes → AreCounted codes ok refused → AreCounted others good bad → (good ≡ ok) × (bad ≡ refused)
counted-once codes others ok refused good bad same is is' =
    let pushed : is'.before ++ is'.last ∷ [] ≡ is.before ++ is.last ∷ [] = sym is'.parted ∙ same ∙ is.parted in
    let front : is'.before ≡ is.before = (same_from_push is'.before is.before is'.last is.last pushed).0 in
    let accepted : good ≡ ok = is'.ok_is ∙ ap (count_by is_ok) front ∙ sym is.ok_is in
    let long : length is'.before ≡ length is.before = ap length front in
    (accepted, omega (arith, accepted, long, is.others, is'.others))

-- ---- a session of a load

-- what a client of a new log knows is sound
new-sound : (seat : ℕ) → IsSound (new_pass seat)
new-sound seat = record {
  lawful = record {
    rising = IsNonDecreasingBy-short (λ (n : ℕ). n) [] (omega arith);
    told = All-nil _;
    within = omega arith;
    from = omega arith;
    bounded = (omega arith, omega arith, omega arith);
    fitting = λ i e h. absurd (cc);
  };
  floor = omega arith;
}

-- the session answered all of its bytes by replies, alone
record IsPlayed (session : List ℕ) (seat : ℕ) (es : List Exchange) (last : Pass RevisionData) : Type 0 where
  behind : List ℕ
  reads : ReadsSome session (requests_in (map heard es)) behind
  ends : EndsWith (terms usual).settings.requests (map heard es) behind finished
  by_replies : HaveReplies es
  run : Run (terms usual) (new_pass seat) es last
  alone : AreAlone (terms usual) (new_pass seat) es

module _ (replies : RepliesAreDetermined) (settle : SessionsSettle) (exact : EndsAreExact) where
  played : (session : List ℕ) (seat : ℕ) (written : List ℕ) (q : Pass RevisionData) (s : IsLoadServed (terms usual) (Unit {0}) (new_pass seat) session written q) →
      IsPlayed session seat s.served.exchanges q
  played session seat written q s =
      let it = s.served in
      let whole = settle (terms usual) it.exchanges s.taken it.rest written s.left s.readings 0 0 0 0 finished it.reads it.ended in
      record {
        behind = whole.0;
        reads = subst (λ (bytes : List ℕ). ReadsSome bytes (requests_in (map heard it.exchanges)) whole.0) (sym s.parted) whole.1;
        ends = whole.2;
        by_replies = ended-by-reply it.rest s.left it.exchanges it.ended.1;
        run = subst (Run (terms usual) (new_pass seat) it.exchanges) it.knows it.run;
        alone = (it.sole tt).0;
      }

  played-alike : (session : List ℕ) (seat other : ℕ) (es fs : List Exchange) (last final : Pass RevisionData) → IsPlayed session seat es last → IsPlayed session other fs final →
      AreAnsweredAlike false es fs × (known final ≡ known last)
  played-alike session seat other es fs last final x y =
      let same = exact (terms usual).settings.requests session (map heard es) (map heard fs) x.behind y.behind finished finished x.reads y.reads x.ends y.ends
      (agree-on-streams es fs x.by_replies y.by_replies) in
      let requests : map (λ (f : Exchange). f.request) fs ≡ map (λ (e : Exchange). e.request) es = sym (heard-requests fs) ∙ ap requests_in (sym same.0) ∙ heard-requests es in
      replies (terms usual) (new_pass seat) last (new_pass other) final es fs (new-sound seat) (new-sound other) refl x.run x.alone y.run y.alone requests x.by_replies y.by_replies

  pub figures_are_determined : FiguresAreDetermined
  figures_are_determined from requests a b is is' =
      let x = is.figures in
      let y = is'.figures in
      let es = x.served.served.exchanges in
      let fs = y.served.served.exchanges in
      let first = played _ x.seat x.written x.last x.served in
      let second = played _ y.seat y.written y.last y.served in
      let alike = played-alike _ x.seat y.seat es fs x.last y.last first second in
      let counts = counted-once (codes_of es) (codes_of fs) a.ok a.refused b.ok b.refused (same-codes es fs alike.0) x.counted y.counted in
      let same : known y.last ≡ known x.last = alike.1 in
      let log : log_of [] y.last ≡ log_of [] x.last = ap (λ (w : Whole RevisionData). record { first = w.first; base = []; revisions = w.log }) same in
      let reached : b.revision ≡ a.revision = y.revision ∙ ap (λ (w : Whole RevisionData). revision w) same ∙ sym x.revision in
      let there : IsListing (log_of [] x.last) pods_of_load a.revision y.rows =
      subst (λ (z : Log × ℕ). IsListing z.0 pods_of_load z.1 y.rows) {x = (log_of [] y.last, b.revision)} {y = (log_of [] x.last, a.revision)} (λ i. (log i, reached i)) y.listing in
      let rows : y.rows ≡ x.rows = listings_are_one (selects pods_of_load) (log_of [] x.last) Pods a.revision y.rows x.rows there x.listing in
      let items : b.items ≡ a.items = y.items ∙ ap length rows ∙ sym x.items in
      let asked : b.requests ≡ a.requests = is'.requests_is ∙ sym is.requests_is in
      λ i. record { requests = asked i; ok = counts.0 i; refused = counts.1 i; revision = reached i; items = items i }
