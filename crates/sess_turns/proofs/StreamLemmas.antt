-- The whole stream of a watch, from its head and opening and from its turns.
use Rattle.std.proofs.Common.{◌≡◌, ℕ, Bool, List, [], ◌∷◌, ◌++◌, refl, ap, sym, subst, ◌∙◌, append_assoc, append-nil, arith, Option, None, Result, Ok, Err}
use Rattle.std.specs.Prelude.{IsErrAnd}
use Rattle.edge_io.specs.declared.clock.Reading.{Reading}
use Rattle.edge_io.specs.Told.{Noted}
use Rattle.edge_io.proofs.ToldLemmas.{Noted-join}
use Rattle.edge_io.specs.Sent.{IsSentOn}
use Rattle.rev_front.specs.Passes.{Pass}
use Rattle.rev_log.specs.Changes.{RevisionData}
use Rattle.watch_rules.specs.declared.ask.WatchAsk.{WatchAsk}
use Rattle.watch_rules.specs.Bodies.{Line, opening_lines}
use Rattle.client_api.specs.Answers.{BegunData}
use Rattle.sess_reply.specs.Sending.{Sends}
use Rattle.sess_reply.specs.declared.broken.Broken.{Broken}
use Rattle.sess_reply.proofs.SendLemmas.{sends-as, sends-error, sends-behind}
use Rattle.sess_turns.specs.declared.ends.WatchEnd.{WatchEnd}
use Rattle.sess_turns.specs.declared.view.View.{View}
use Rattle.kube_meta.specs.Rows.{RowData}
use Rattle.up_api.specs.declared.settings.Settings.{Settings}
use Rattle.client_api.specs.Facts.{Facts}
use Rattle.sess_turns.specs.Terms.{Terms, terms_of}
use Rattle.sess_turns.specs.Turns.{broken, IsNumber}
use Rattle.sess_turns.specs.Streams.{Outside, IsStreamed, frames_of, head_text}
use Rattle.sess_turns.specs.Steps.{Stops}
use Rattle.sess_turns.proofs.WritingLemmas.{Point, between}
use Rattle.sess_turns.proofs.AloneLemmas.{sole-same}
use Rattle.sess_turns.proofs.TurnLemmas.{frames-append}

module _ (terms : Terms) (view : View) (ask : WatchAsk) (begun : BegunData) (start : Reading) (whole : Type 0) (p q : Pass RevisionData) (old new : Point)
    (readings : Option (List Reading)) (first : Noted readings old.readings (start ∷ [])) where
  -- what went through, with the first reading before
  abbrev outside : Outside
  outside = record (between old new) { readings_old = readings }

  abbrev opening : List Line
  opening = opening_lines ask begun.at begun.rows

  abbrev frames : List Line → List ℕ
  frames lines = frames_of view ask.selection.resource lines

  -- the head and the opening, and then the rest
  text-joins : (lines : List Line) (end : List ℕ) → head_text view.framing ++ frames opening ++ (frames lines ++ end) ≡ head_text view.framing ++ (frames (opening ++ lines) ++ end)
  text-joins lines end =
      append_assoc (head_text view.framing) (frames opening) (frames lines ++ end)
      ∙ ap (λ l. head_text view.framing ++ l) (sym (append_assoc (frames opening) (frames lines) end) ∙ ap (λ l. l ++ end) (sym (frames-append view ask opening lines)))

  -- the head or the opening wasn't written whole
  pub goes-broken : (A : Type 0) (answer : Result WatchEnd Broken) (why : Broken) → IsErrAnd answer (λ e. e ≡ why) → q ≡ p → new.readings ≡ old.readings →
      Sends {A = A} (Err why) (head_text view.framing ++ frames opening) (between old new).sent → IsStreamed terms view ask begun whole p outside answer q
  goes-broken A (Ok how) why failed same unread sends = absurd failed
  goes-broken A (Err other) why failed same unread sends = record {
    watch = record { begun = begun; start = start; turns = []; finish = broken None };
    begins = refl;
    turns = record { last = record { pass = p; position = begun.at; mark = start.ms }; follow = refl; finishes = sym same; number = omega arith };
    ends = tt;
    readings = subst (λ (r : Option (List Reading)). Noted readings r (start ∷ [])) (sym unread) first;
    sends =
        sends-as {A = WatchEnd} (Err other) _ _ (between old new).sent
        (sym (append-nil (head_text view.framing ++ frames opening)) ∙ text-joins [] [])
        (sends-error A {B = WatchEnd} (Err other) why _ (between old new).sent failed sends.0);
    sole = λ w. sole-same p q same;
  }

  -- they were, and the turns follow
  pub goes-on : (mid : Point) (answer : Result WatchEnd Broken) (at : ℕ) → begun.at ≡ at → mid.readings ≡ old.readings →
      IsSentOn (head_text view.framing ++ frames opening) (between old mid).sent →
      Stops terms view ask start whole 0 (record { pass = p; position = at; mark = start.ms }) (between mid new) answer q
      → IsStreamed terms view ask begun whole p outside answer q
  goes-on mid answer at same unread opened there =
      let stops = subst (λ (n : ℕ). Stops terms view ask start whole 0 (record { pass = p; position = n; mark = start.ms }) (between mid new) answer q) (sym same) there in
      record {
        watch = record { begun = begun; start = start; turns = stops.turns; finish = stops.finish };
        begins = refl;
        turns = record { last = stops.last; follow = stops.follow; finishes = stops.finishes; number = subst (IsNumber stops.finish) (omega arith) stops.number };
        ends = stops.ends;
        readings =
            Noted-join readings mid.readings new.readings (start ∷ []) _
            (subst (λ (r : Option (List Reading)). Noted readings r (start ∷ [])) (sym unread) first) stops.readings;
        sends =
            sends-as answer _ _ (between old new).sent (text-joins _ _)
            (sends-behind answer old.written mid.written new.written old.settled mid.settled new.settled old.faults mid.faults new.faults _ _ opened.0 stops.sends);
        sole = stops.sole;
      }

-- the same of a client that was told the time, and whose watch is ended afterwards
pub streamed-told : (base : List RowData) (mirror : Bool) (settings : Settings) (view : View) (ask : WatchAsk) (begun : BegunData) (whole later : Type 0)
    (f h : Facts) (p told q r : Pass RevisionData) (outside : Outside) (answer : Result WatchEnd Broken) (heard : ℕ)
    → h ≡ record f { heard = heard } → told ≡ p → r ≡ q → (whole → later)
    → IsStreamed (terms_of base mirror h settings) view ask begun later told outside answer q
    → IsStreamed (terms_of base mirror f settings) view ask begun whole p outside answer r
streamed-told base mirror settings view ask begun whole later f h p told q r outside answer heard facts same ended keeps there =
    let here = subst (λ (x : Facts). IsStreamed (terms_of base mirror x settings) view ask begun later told outside answer q) facts there in
    let str : IsStreamed (terms_of base mirror f settings) view ask begun later p outside answer r = rw (← same, ended) here in
    record {
      watch = str.watch;
      begins = str.begins;
      turns = str.turns;
      ends = str.ends;
      readings = str.readings;
      sends = str.sends;
      sole = λ w. str.sole (keeps w);
    }
