-- How a session over three logs goes on by one request, and how it ends.
use Rattle.std.proofs.Common.{◌≡◌, ◌≢◌, ◌∙◌, ◌++◌, ◌⊎◌, ℕ, ◌+◌, ◌<◌, true, false, cond, List, [], ◌∷◌, Option, Some, None, refl, sym, ap, subst, inl, inr}
use Rattle.std.specs.Prelude.{is_some}
use Rattle.std.proofs.lemmas.List.{append-nil}
use Rattle.std.proofs.lemmas.List.Elements.{filter-append}
use Rattle.kube_meta.specs.Resources.{same_resource}
use Rattle.kube_meta.specs.declared.resources.Resource.{Resource}
use Rattle.kube_meta.specs.declared.resources.Resource.TheVariants.{Pods, ConfigMaps, Deployments}
use Rattle.http_read.specs.declared.request.Req.{Req}
use Rattle.rev_front.specs.Passes.{Pass}
use Rattle.rev_log.specs.Changes.{RevisionData}
use Rattle.up_api.specs.declared.settings.Settings.{Settings}
use Rattle.watch_rules.specs.declared.ask.WatchAsk.{WatchAsk}
use Rattle.watch_rules.specs.Bodies.{Line, opening_lines}
use Rattle.client_api.specs.Laws.{position_after}
use Rattle.client_api.proofs.LawLemmas.{onwards_do_join}
use Rattle.sess_turns.specs.Streams.{stream_text}
use Rattle.sess_turns.specs.Terms.{Terms}
use Rattle.sess_turns.specs.Turns.{Turn, Progress, first_progress, after_turn, mark_after, told_lines, lines_of_turn, lines_from, last_lines, end_of_watch}
use Rattle.sess_serve.specs.declared.ends.SessionEnd.{SessionEnd}
use Rattle.sess_serve.specs.declared.ends.SessionEnd.TheVariants.{Done, Watched, ReadFault, WriteFault, CutShort, Refused, TooMany, Memory}
use Rattle.sess_serve.specs.Answers.{Answer, replied, streamed, gone, begun}
use Rattle.sess_serve.specs.Each.{Strand, strands, IsStrand, IsEachSession, resource_of, exchanges_of}
use Rattle.sess_serve.specs.EachServing.{OnlyOf, IsEachRound}
use Rattle.sess_serve.specs.Ends.{Knows, KnowsAlone}
use Rattle.sess_serve.specs.Serving.{Account, BeginsWith, Exchanged, account_of, exchange_of, RoundIs, Ends}
use Rattle.sess_serve.specs.Steps.{Exchange, Step, Run, AreAlone, IsAlone}
use Rattle.sess_serve.specs.Http.{view_of}
use Rattle.sess_serve.specs.Texts.{answer_bytes, answer_text}
use Rattle.sess_serve.proofs.Session.{run-push, alone-push, Sofar, none-sofar, full, none-finished, next, ends, Passed, none-passed, more-passed, round-passed, Between, between}

-- ---- answers are written by the settings alone

lines-alike : (t u : Terms) → t.settings ≡ u.settings → (ask : WatchAsk) (s : Progress) (turns : List Turn) → lines_from t ask s turns ≡ lines_from u ask s turns
lines-alike t u same ask s [] = refl
lines-alike t u same ask s (turn ∷ more) =
    let after : Settings → Progress =
    λ x. record { pass = turn.pass; position = position_after turn.took s.position; mark = mark_after x ask s.mark turn.reading.ms turn.took } in
    ap (λ x. told_lines x ask s.position s.mark turn.reading.ms turn.took ++ lines_from t ask (after x) more) same
    ∙ ap (λ ls. lines_of_turn u ask s turn ++ ls) (lines-alike t u same ask (after_turn u ask s turn) more)

text-alike : (t u : Terms) → t.settings ≡ u.settings → (req : Req) (answer : Answer) → answer_bytes t req answer ≡ answer_bytes u req answer
text-alike t u same req (replied reply) = refl
text-alike t u same req (streamed ask (gone asked floor)) = refl
text-alike t u same req (streamed ask (begun pass turns)) =
    ap (λ (ls : List Line). stream_text (view_of req) ask.selection.resource (opening_lines ask turns.begun.at turns.begun.rows ++ (ls ++ last_lines turns.finish)) (is_some (end_of_watch turns.finish)))
    (lines-alike t u same ask (first_progress pass turns) turns.turns)

-- ---- resources

same-self : (r : Resource) → same_resource r r ≡ true
same-self Pods = refl
same-self ConfigMaps = refl
same-self Deployments = refl

which : (a b : Resource) → (a ≡ b) ⊎ (same_resource a b ≡ false)
which Pods Pods = inl refl
which Pods ConfigMaps = inr refl
which Pods Deployments = inr refl
which ConfigMaps Pods = inr refl
which ConfigMaps ConfigMaps = inl refl
which ConfigMaps Deployments = inr refl
which Deployments Pods = inr refl
which Deployments ConfigMaps = inr refl
which Deployments Deployments = inl refl

-- a resource is that which was asked, or nothing is known anew of its log
other-same : (now : Resource → Strand) (asked r : Resource) → same_resource asked r ≡ false → (r ≡ asked) ⊎ ((now r).before ≡ (now r).after) → (now r).before ≡ (now r).after
other-same now asked r apart (inl is) = absurd (true-false (sym (subst (λ x. same_resource asked x ≡ true) (sym is) (same-self asked)) ∙ apart))
  where
    true-false : true ≢ false
    true-false e = cc
other-same now asked r apart (inr same) = same

module _ (r : Resource) (es : List Exchange) (e : Exchange) where
  of-more : exchanges_of r (es ++ e ∷ []) ≡ exchanges_of r es ++ cond (same_resource (resource_of e.request) r) (e ∷ []) []
  of-more = filter-append (λ (x : Exchange). same_resource (resource_of x.request) r) es (e ∷ [])

  of-push : resource_of e.request ≡ r → exchanges_of r (es ++ e ∷ []) ≡ exchanges_of r es ++ e ∷ []
  of-push is = of-more ∙ ap (λ b. exchanges_of r es ++ cond b (e ∷ []) []) (subst (λ x. same_resource x r ≡ true) (sym is) (same-self r))

  of-skip : same_resource (resource_of e.request) r ≡ false → exchanges_of r (es ++ e ∷ []) ≡ exchanges_of r es
  of-skip apart = of-more ∙ ap (λ b. exchanges_of r es ++ cond b (e ∷ []) []) apart ∙ append-nil (exchanges_of r es)

-- ---- the strand of one resource

-- so far
pub record Went (s : Strand) (r : Resource) (es : List Exchange) : Type 0 where
  pub run : Run s.terms s.before (exchanges_of r es) s.after
  pub sole : s.whole → AreAlone s.terms s.before (exchanges_of r es)

-- a strand that goes on where another ended
abbrev pub joined : Strand → Strand → Strand
joined first more = record { terms = first.terms; whole = first.whole; before = first.before; after = more.after }

pub record Fits (first more : Strand) : Type 0 where
  pub terms : more.terms ≡ first.terms
  pub still : first.whole → more.whole
  pub meets : first.after ≡ more.before

-- with an exchange
record Stepped (s : Strand) (e : Exchange) : Type 0 where
  pub step : Step s.terms s.before e
  pub pass : e.pass ≡ s.after
  pub alone : s.whole → IsAlone s.terms s.before e.answer e.pass

-- with what ended the session, and no exchange
record Stopped (s : Strand) (r : Resource) (rest : List ℕ) (how : SessionEnd) : Type 0 where
  pub knows : Knows how s.before s.after
  pub others : (s.before ≡ s.after) ⊎ BeginsWith (λ req. resource_of req ≡ r) rest
  pub alone : s.whole → KnowsAlone s.terms how s.before rest s.after

knows-same : (how : SessionEnd) (p q : Pass RevisionData) → p ≡ q → Knows how p q
knows-same Memory p q same = subst (λ b. Knows Memory p b) same (onwards_do_join.0 p)
knows-same Done p q same = same
knows-same (Watched how) p q same = same
knows-same TooMany p q same = same
knows-same CutShort p q same = same
knows-same (Refused fault) p q same = same
knows-same ReadFault p q same = same
knows-same WriteFault p q same = same

alone-same : (terms : Terms) (how : SessionEnd) (p q : Pass RevisionData) (rest : List ℕ) → p ≡ q → KnowsAlone terms how p rest q
alone-same terms Memory p q rest same = inl (ap (λ (a : Pass RevisionData). a.seen) (sym same))
alone-same terms Done p q rest same = tt
alone-same terms (Watched how) p q rest same = tt
alone-same terms TooMany p q rest same = tt
alone-same terms CutShort p q rest same = tt
alone-same terms (Refused fault) p q rest same = tt
alone-same terms ReadFault p q rest same = tt
alone-same terms WriteFault p q rest same = tt

stopped-same : (s : Strand) (r : Resource) (rest : List ℕ) (how : SessionEnd) → s.before ≡ s.after → Stopped s r rest how
stopped-same s r rest how same = record {
  knows = knows-same how s.before s.after same;
  others = inl same;
  alone = λ w. alone-same s.terms how s.before s.after rest same;
}

went-start : (s : Strand) (r : Resource) → s.before ≡ s.after → Went s r []
went-start s r same = record { run = same; sole = λ w. tt }

went-ends : (s : Strand) (r : Resource) (es : List Exchange) (rest : List ℕ) (how : SessionEnd) → Went s r es → IsStrand s r es rest how
went-ends s r es rest how went = record {
  last = s.after;
  run = went.run;
  knows = knows-same how s.after s.after refl;
  others = inl refl;
  sole = λ w. (went.sole w, alone-same s.terms how s.after s.after rest refl);
}

module _ (s t : Strand) (fits : Fits s t) (r : Resource) (es : List Exchange) (went : Went s r es) where
  went-same : (es' : List Exchange) → exchanges_of r es' ≡ exchanges_of r es → t.before ≡ t.after → Went (joined s t) r es'
  went-same es' of same = record {
    run = subst (λ xs. Run s.terms s.before xs t.after) (sym of) (subst (Run s.terms s.before (exchanges_of r es)) (fits.meets ∙ same) went.run);
    sole = λ w. subst (AreAlone s.terms s.before) (sym of) (went.sole w);
  }

  went-push : (e : Exchange) → exchanges_of r (es ++ e ∷ []) ≡ exchanges_of r es ++ e ∷ [] → Stepped t e → Went (joined s t) r (es ++ e ∷ [])
  went-push e of stepped =
      let run : Run s.terms s.before (exchanges_of r es) t.before = subst (Run s.terms s.before (exchanges_of r es)) fits.meets went.run in
      let step : Step s.terms t.before e = subst (λ x. Step x t.before e) fits.terms stepped.step in
      let pushed : Run s.terms s.before (exchanges_of r es ++ e ∷ []) e.pass = run-push s.terms s.before t.before (exchanges_of r es) e run step in
      record {
        run = subst (λ xs. Run s.terms s.before xs t.after) (sym of) (subst (Run s.terms s.before (exchanges_of r es ++ e ∷ [])) stepped.pass pushed);
        sole = λ w.
            subst (AreAlone s.terms s.before) (sym of)
            (alone-push s.terms s.before t.before (exchanges_of r es) e run (went.sole w) (subst (λ x. IsAlone x t.before e.answer e.pass) fits.terms (stepped.alone (fits.still w))));
      }

  went-stops : (rest : List ℕ) (how : SessionEnd) → Stopped t r rest how → IsStrand (joined s t) r es rest how
  went-stops rest how stopped = record {
    last = t.before;
    run = subst (Run s.terms s.before (exchanges_of r es)) fits.meets went.run;
    knows = stopped.knows;
    others = stopped.others;
    sole = λ w. (went.sole w, subst (λ x. KnowsAlone x how t.before rest t.after) fits.terms (stopped.alone (fits.still w)));
  }

-- by a round over the log of one resource
module _ (now : Resource → Strand) (asked : Resource) (only : OnlyOf now asked) (s : Strand) (r : Resource) (fits : Fits s (now r)) (es : List Exchange) (went : Went s r es) where
  went-on : (e : Exchange) → resource_of e.request ≡ asked → Stepped (now asked) e → Went (joined s (now r)) r (es ++ e ∷ [])
  went-on e is stepped = elim (which asked r) [
    | inl here ↦ went-push s (now r) fits r es went e (of-push r es e (is ∙ here)) (subst (λ x. Stepped (now x) e) here stepped)
    | inr apart ↦
        went-same s (now r) fits r es went (es ++ e ∷ []) (of-skip r es e (subst (λ x. same_resource x r ≡ false) (sym is) apart))
        (other-same now asked r apart (only r))
  ]

  went-out : (rest : List ℕ) (how : SessionEnd) → Stopped (now asked) asked rest how → IsStrand (joined s (now r)) r es rest how
  went-out rest how stopped = elim (which asked r) [
    | inl here ↦ went-stops s (now r) fits r es went rest how (subst (λ x. Stopped (now x) x rest how) here stopped)
    | inr apart ↦ went-stops s (now r) fits r es went rest how (stopped-same (now r) r rest how (other-same now asked r apart (only r)))
  ]

-- ---- from round to round

-- what the loop keeps
pub record EachLoop (all : Resource → Strand) (first now : Ends) (kept : List ℕ) (n : ℕ) : Type 0 where
  pub passed : Passed first now
  pub sofar : Sofar (all Pods).terms passed.taken passed.written passed.readings kept n
  pub went : (r : Resource) → Went (all r) r sofar.exchanges

-- the clause of the session
abbrev pub IsEachBetween : (Resource → Strand) → Ends → Ends → Type 0 → Type 0 → SessionEnd → Type 0
IsEachBetween all first last read_fault write_fault how = Between first last read_fault write_fault (λ traffic. IsEachSession all traffic how)

module _ (a b c : Strand) (same_a : a.before ≡ a.after) (same_b : b.before ≡ b.after) (same_c : c.before ≡ c.after) (first : Ends) where
  start : (r : Resource) → Went (strands a b c r) r []
  start Pods = went-start a Pods same_a
  start ConfigMaps = went-start b ConfigMaps same_b
  start Deployments = went-start c Deployments same_c

  pub each-start : (kept : List ℕ) → kept ≡ [] → EachLoop (strands a b c) first first kept 0
  each-start kept none = record { passed = none-passed first; sofar = none-sofar a.terms kept none; went = start }

  -- there was no memory before the first request
  pub each-none : (v w : Type 0) → 0 < a.terms.settings.requests → IsEachBetween (strands a b c) first first v w Memory
  each-none v w room =
      let done = none-finished a.terms v w first.left room in
      between first first v w (λ traffic. IsEachSession (strands a b c) traffic Memory) (none-passed first) (record {
        exchanges = [];
        rest = [];
        reads = done.reads;
        strand = λ r. went-ends (strands a b c r) r [] [] Memory (start r);
        readings = done.readings;
        ended = done.ended;
      })

-- as many requests as are allowed were answered
pub each-full : (all : Resource → Strand) (first last : Ends) (kept : List ℕ) (n : ℕ) (v w : Type 0) → EachLoop all first last kept n → n ≡ (all Pods).terms.settings.requests
    → IsEachBetween all first last v w TooMany
each-full all first last kept n v w loop same =
    let done = full (all Pods).terms loop.passed.taken loop.passed.written loop.passed.readings kept n v w last.left loop.sofar same in
    between first last v w (λ traffic. IsEachSession all traffic TooMany) loop.passed (record {
      exchanges = loop.sofar.exchanges;
      rest = kept;
      reads = done.reads;
      strand = λ r. went-ends (all r) r loop.sofar.exchanges kept TooMany (loop.went r);
      readings = done.readings;
      ended = done.ended;
    })

module _ (a b c a' b' c' : Strand) (fits_a : Fits a a') (fits_b : Fits b b') (fits_c : Fits c c') (set_b : b.terms.settings ≡ a.terms.settings) (set_c : c.terms.settings ≡ a.terms.settings)
    (first mid last : Ends) (kept after : List ℕ) (n : ℕ) (v w : Type 0) (loop : EachLoop (strands a b c) first mid kept n) (came : Option SessionEnd)
    (x : IsEachRound (strands a' b' c') kept after mid last v w came) where
  abbrev now : Resource → Strand
  now = strands a' b' c'

  abbrev both : Resource → Strand
  both = strands (joined a a') (joined b b') (joined c c')

  abbrev own : Strand
  own = now x.resource

  abbrev before : Account
  before = account_of own.before x.did

  abbrev later : Account
  later = account_of own.after x.did_then

  abbrev Of : Req → Type 0
  Of req = resource_of req ≡ x.resource

  set : (r : Resource) → (now r).terms.settings ≡ a.terms.settings
  set Pods = ap (λ (t : Terms). t.settings) fits_a.terms
  set ConfigMaps = ap (λ (t : Terms). t.settings) fits_b.terms ∙ set_b
  set Deployments = ap (λ (t : Terms). t.settings) fits_c.terms ∙ set_c

  alike : (e : Exchange) → answer_text own.terms e ≡ answer_text a.terms e
  alike e = text-alike own.terms a.terms (set x.resource) e.request e.answer

  abbrev all-passed : Passed first last
  all-passed = more-passed first mid last loop.passed (round-passed Of own.terms own.whole before later kept after mid last v w came x.round)

  module _ (y : Exchanged Of own.terms own.whole before (kept ++ x.round.taken) after x.round.readings later) where
    abbrev e : Exchange
    e = exchange_of y.request y.given.answer later

    stepped : Stepped own e
    stepped = record {
      step = record { answers = y.given.answers; says = y.given.says; onward = y.given.onward };
      pass = refl;
      alone = y.given.sole;
    }

    went-all : (r : Resource) → Went (both r) r (loop.sofar.exchanges ++ e ∷ [])
    went-all Pods = went-on now x.resource x.only a Pods fits_a loop.sofar.exchanges (loop.went Pods) e y.is stepped
    went-all ConfigMaps = went-on now x.resource x.only b ConfigMaps fits_b loop.sofar.exchanges (loop.went ConfigMaps) e y.is stepped
    went-all Deployments = went-on now x.resource x.only c Deployments fits_c loop.sofar.exchanges (loop.went Deployments) e y.is stepped

  out-all : (rest : List ℕ) (how : SessionEnd) → Stopped own x.resource rest how → (r : Resource) → IsStrand (both r) r loop.sofar.exchanges rest how
  out-all rest how stopped Pods = went-out now x.resource x.only a Pods fits_a loop.sofar.exchanges (loop.went Pods) rest how stopped
  out-all rest how stopped ConfigMaps = went-out now x.resource x.only b ConfigMaps fits_b loop.sofar.exchanges (loop.went ConfigMaps) rest how stopped
  out-all rest how stopped Deployments = went-out now x.resource x.only c Deployments fits_c loop.sofar.exchanges (loop.went Deployments) rest how stopped

  abbrev RoundOf : Option SessionEnd → Type 0
  RoundOf o = RoundIs Of own.terms own.whole before (kept ++ x.round.taken) after x.round.written x.round.readings later v w last.left o

  next-by : RoundOf None → EachLoop both first last after (n + 1)
  next-by (y, stays, text) = record {
    passed = all-passed;
    sofar = next a.terms own.terms alike Of own.whole loop.passed.taken loop.passed.written loop.passed.readings kept n loop.sofar x.round.taken x.round.written x.round.readings
        after before later y stays text;
    went = went-all y;
  }

  pub each-next : came ≡ None → EachLoop both first last after (n + 1)
  each-next none = next-by (subst RoundOf none x.round.round)

  pub each-ends : (how : SessionEnd) → came ≡ Some how → n < a.terms.settings.requests → IsEachBetween both first last v w how
  each-ends how is room =
      let Out : SessionEnd → Type 0 =
      λ how'. IsEachSession both (record { taken = all-passed.taken; written = all-passed.written; readings = all-passed.readings; read_fault = v; write_fault = w; left = last.left }) how' in
      between first last v w (λ traffic. IsEachSession both traffic how) all-passed
      (ends a.terms own.terms alike Of own.whole loop.passed.taken loop.passed.written loop.passed.readings kept n loop.sofar x.round.taken x.round.written x.round.readings
      after before later v w last.left Out room
      (λ how' y knows alone done. record {
        exchanges = loop.sofar.exchanges ++ exchange_of y.request y.given.answer later ∷ [];
        rest = after;
        reads = done.reads;
        strand = λ r. went-ends (both r) r (loop.sofar.exchanges ++ e y ∷ []) after how' (went-all y r);
        readings = done.readings;
        ended = done.ended;
      })
      (λ how' knows asked alone idle done. record {
        exchanges = loop.sofar.exchanges;
        rest = kept ++ x.round.taken;
        reads = done.reads;
        strand = out-all (kept ++ x.round.taken) how' (record { knows = knows; others = asked; alone = alone });
        readings = done.readings;
        ended = done.ended;
      })
      how (subst RoundOf is x.round.round))
