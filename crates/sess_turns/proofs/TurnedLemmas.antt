-- What one turn of a watch comes to: it goes on, its time is over, it is lost, or it is broken off.
use Rattle.std.proofs.Common.{◌≡◌, ℕ, ◌<◌, Bool, List, [], ◌∷◌, ◌++◌, refl, ap, sym, subst, ◌∙◌, append-nil, arith, Option, Some, None, Result, Ok, Err}
use Rattle.std.specs.Prelude.{IfOk, is_some, if◌then◌else◌}
use Rattle.edge_io.specs.declared.clock.Reading.{Reading}
use Rattle.edge_io.specs.Told.{AppendedSome, Noted}
use Rattle.edge_io.proofs.ToldLemmas.{AppendedSome-nil}
use Rattle.rev_front.specs.Passes.{Pass}
use Rattle.rev_log.specs.Changes.{RevisionData}
use Rattle.watch_rules.specs.declared.ask.WatchAsk.{WatchAsk}
use Rattle.watch_rules.specs.Bodies.{Line}
use Rattle.client_api.specs.declared.answers.Took.{Took}
use Rattle.client_api.specs.declared.answers.Took.TheVariants.{Events, Quiet, Lost}
use Rattle.client_api.specs.Alone.{IsSoleRead}
use Rattle.client_api.specs.Facts.{IsOnward}
use Rattle.client_api.specs.Laws.{position_after, IsLasting}
use Rattle.sess_reply.specs.Sending.{Sends}
use Rattle.sess_reply.specs.declared.broken.Broken.{Broken}
use Rattle.sess_reply.specs.declared.broken.Broken.TheVariants.{Memory}
use Rattle.sess_reply.proofs.SendLemmas.{sends-as, sends-error}
use Rattle.sess_turns.specs.declared.ends.WatchEnd.{WatchEnd}
use Rattle.sess_turns.specs.declared.ends.WatchEnd.TheVariants as ends
use Rattle.sess_turns.specs.declared.view.View.{View}
use Rattle.sess_turns.specs.Terms.{Terms}
use Rattle.sess_turns.specs.Turns.{Turn, Finish, lost, broken, Progress, IsStreamTurn, MayGoOn, Finishes, IsNumber, AloneFinish, after_turn, mark_after, told_lines, lines_of_turn, last_lines, last_readings, end_of_watch, most_turns}
use Rattle.sess_turns.specs.Streams.{Outside, Names, frames_of, framed, end_text}
use Rattle.sess_turns.specs.Steps.{Stops, IsTurned, Tells}

module _ (terms : Terms) (view : View) (ask : WatchAsk) (start : Reading) (whole : Type 0) (s : Progress) (outside : Outside) where
  -- the stream is ended where the watch stands
  module _ (finish : Finish) (how : WatchEnd) (q : Pass RevisionData)
      (finishes : Finishes terms ask start s finish q) (number : (made : ℕ) → made < most_turns → IsNumber finish made)
      (named : end_of_watch finish ≡ Some how) (readings : Noted outside.readings_old outside.readings_new (last_readings finish)) (sole : whole → AloneFinish s.pass finish q) where
    stops-here : (answer : Result WatchEnd Broken) → Names answer finish →
        Sends answer (frames_of view ask.selection.resource (last_lines finish) ++ end_text view.framing) outside.sent →
        (made : ℕ) → made < most_turns → Stops terms view ask start whole made s outside answer q
    stops-here answer names sends made few = record {
      turns = [];
      last = s;
      finish = finish;
      follow = refl;
      finishes = finishes;
      number = subst (IsNumber finish) (omega arith) (number made few);
      ends = names;
      readings = readings;
      sends =
          subst (λ (b : Bool). Sends answer (frames_of view ask.selection.resource (last_lines finish) ++ (if b then end_text view.framing else [])) outside.sent)
          (sym (ap is_some named)) sends;
      sole = sole;
    }

    pub ends-here : (answer : Result (Option WatchEnd) Broken) (now : Progress) → now.pass ≡ q → IfOk answer (λ ended. ended ≡ Some how) →
        Sends answer (frames_of view ask.selection.resource (last_lines finish) ++ end_text view.framing) outside.sent →
        IsTurned terms view ask start whole s outside answer now
    ends-here (Ok None) now same is sends = absurd (cc is)
    ends-here (Ok (Some ended)) now same is sends = λ made few.
        subst (λ (z : Pass RevisionData). Stops terms view ask start whole made s outside (Ok ended) z) (sym same)
        (stops-here (Ok ended) (named ∙ sym is) sends made few)
    ends-here (Err why) now same is sends = λ made few.
        subst (λ (z : Pass RevisionData). Stops terms view ask start whole made s outside (Err why) z) (sym same)
        (stops-here (Err why) tt (sends-error (Option WatchEnd) {B = WatchEnd} (Err why) why _ outside.sent refl sends.0) made few)

  -- the client had no memory for the turn
  pub breaks-here : (reading : Reading) (now : Progress) → MayGoOn terms ask start reading → IsOnward s.pass now.pass
      → Noted outside.readings_old outside.readings_new (reading ∷ []) → outside.sent.written_new ≡ outside.sent.written_old
      → outside.sent.faults_new ≡ outside.sent.faults_old → (whole → now.pass.seen ≡ s.pass.seen) → IsTurned terms view ask start whole s outside (Err Memory) now
  breaks-here reading now goes onward readings unwritten quiet sole = λ made few. record {
    turns = [];
    last = s;
    finish = broken (Some reading);
    follow = refl;
    finishes = (goes, onward);
    number = omega (arith, few);
    ends = tt;
    readings = readings;
    sends = ((subst (λ (w : Option (List ℕ)). AppendedSome outside.sent.written_old w []) (sym unwritten) (AppendedSome-nil outside.sent.written_old []), quiet), tt);
    sole = sole;
  }

  -- what the client gave was told, or a beginning of it
  module _ (turn : Turn) (is : IsStreamTurn terms ask start s turn) (readings : Noted outside.readings_old outside.readings_new (turn.reading ∷ [])) (sole : whole → IsSoleRead s.pass turn.pass) where
    text-of-one : (lines : List Line) → frames_of view ask.selection.resource (lines ++ [] ++ []) ++ [] ≡ frames_of view ask.selection.resource lines
    text-of-one lines =
        append-nil (frames_of view ask.selection.resource (lines ++ [] ++ []))
        ∙ ap (frames_of view ask.selection.resource) (append-nil (lines ++ []) ∙ append-nil lines)

    lasting-turned : (answer : Result (Option WatchEnd) Broken) (now : Progress) → IsLasting turn.took → now.pass ≡ turn.pass →
        IfOk answer (λ ended. (ended ≡ None) × (now.position ≡ position_after turn.took s.position) × (now.mark ≡ mark_after terms.settings ask s.mark turn.reading.ms turn.took)) →
        Sends answer (frames_of view ask.selection.resource (lines_of_turn terms ask s turn)) outside.sent →
        IsTurned terms view ask start whole s outside answer now
    lasting-turned (Ok None) now lasts same stands written = record {
      turn = turn;
      is = is;
      lasts = lasts;
      now_is = λ i. record { pass = sym same i; position = sym stands.1 i; mark = sym stands.2 i };
      readings = readings;
      sent_on = written;
      sole = sole;
    }
    lasting-turned (Ok (Some ended)) now lasts same stands written = absurd (cc stands.0)
    lasting-turned (Err why) now lasts same stands written = λ made few. record {
      turns = turn ∷ [];
      last = after_turn terms ask s turn;
      finish = broken None;
      follow = (is, lasts, refl);
      finishes = sym same;
      number = omega (arith, few);
      ends = tt;
      readings = readings;
      sends = sends-as {A = WatchEnd} (Err why) _ _ outside.sent (sym (text-of-one (lines_of_turn terms ask s turn))) (sends-error (Option WatchEnd) {B = WatchEnd} (Err why) why _ outside.sent refl written.0);
      sole = λ w. subst (IsSoleRead s.pass) (sym same) (sole w);
    }

    lost-turned : (at floor : ℕ) (answer : Result (Option WatchEnd) Broken) (now : Progress) → turn.took ≡ Lost at floor → now.pass ≡ turn.pass →
        IfOk answer (λ ended. ended ≡ Some (ends.Lost at floor)) →
        Sends answer (frames_of view ask.selection.resource (last_lines (lost turn at floor)) ++ end_text view.framing) outside.sent →
        IsTurned terms view ask start whole s outside answer now
    lost-turned at floor answer now gave same ended written =
        ends-here (lost turn at floor) (ends.Lost at floor) turn.pass (is, gave, refl) (λ made few. few) refl readings sole answer now same ended written

    lasting-as : (took : Took) → IsLasting took → (answer : Result (Option WatchEnd) Broken) (now : Progress) → turn.took ≡ took → now.pass ≡ turn.pass →
        IfOk answer (λ ended. (ended ≡ None) × (now.position ≡ position_after took s.position) × (now.mark ≡ mark_after terms.settings ask s.mark turn.reading.ms took)) →
        Sends answer (frames_of view ask.selection.resource (told_lines terms.settings ask s.position s.mark turn.reading.ms took)) outside.sent →
        IsTurned terms view ask start whole s outside answer now
    lasting-as took lasts answer now gave same stands written =
        lasting-turned answer now (subst IsLasting (sym gave) lasts) same
        (subst (λ (t : Took). IfOk answer (λ ended. (ended ≡ None) × (now.position ≡ position_after t s.position) × (now.mark ≡ mark_after terms.settings ask s.mark turn.reading.ms t))) (sym gave) stands)
        (subst (λ (t : Took). Sends answer (frames_of view ask.selection.resource (told_lines terms.settings ask s.position s.mark turn.reading.ms t)) outside.sent) (sym gave) written)

    pub took-turned : (took : Took) (answer : Result (Option WatchEnd) Broken) (now : Progress) → turn.took ≡ took → now.pass ≡ turn.pass →
        Tells terms.settings view ask s.position s.mark turn.reading.ms took answer now.position now.mark outside.sent →
        IsTurned terms view ask start whole s outside answer now
    took-turned (Lost at floor) answer now gave same tells =
        lost-turned at floor answer now gave same tells.0
        (subst (λ l. Sends answer (l ++ end_text view.framing) outside.sent) (sym (append-nil (framed view.framing _))) tells.1)
    took-turned (Events from upto lines) answer now gave same tells = lasting-as (Events from upto lines) tt answer now gave same tells.0 tells.1
    took-turned (Quiet upto reached) answer now gave same tells = lasting-as (Quiet upto reached) tt answer now gave same tells.0 tells.1
