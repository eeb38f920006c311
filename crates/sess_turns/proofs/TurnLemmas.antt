-- Turns that follow each other: what was done and written of them together.
use Rattle.std.proofs.Common.{◌≡◌, ℕ, ◌+◌, ◌<◌, List, [], ◌∷◌, ◌++◌, length, map, refl, ap, sym, subst, ◌∙◌, append_assoc, append-nil, length-append, arith, Option, Some, None, Result, Ok, Err}
use Rattle.std.specs.Prelude.{IsErrAnd}
use Rattle.std.proofs.lemmas.Grind.{flat_map-append}
use Rattle.std.proofs.lemmas.List.{map-append}
use Rattle.edge_io.specs.declared.clock.Reading.{Reading}
use Rattle.edge_io.specs.Told.{Noted}
use Rattle.edge_io.proofs.ToldLemmas.{Noted-nil, Noted-join}
use Rattle.edge_io.specs.Sent.{IsWrittenOut, IsSentOn}
use Rattle.edge_io.proofs.SentLemmas.{written-nothing, written-behind}
use Rattle.rev_front.specs.Passes.{Pass}
use Rattle.rev_log.specs.Changes.{RevisionData}
use Rattle.watch_rules.specs.declared.ask.WatchAsk.{WatchAsk}
use Rattle.watch_rules.specs.Bodies.{Line}
use Rattle.client_api.specs.Alone.{IsSoleRead}
use Rattle.sess_reply.specs.Sending.{Sends}
use Rattle.sess_reply.specs.declared.broken.Broken.{Broken}
use Rattle.sess_reply.proofs.SendLemmas.{sends-as, sends-error, sends-behind}
use Rattle.sess_turns.specs.declared.ends.WatchEnd.{WatchEnd}
use Rattle.sess_turns.specs.declared.ends.WatchEnd.TheVariants as ends
use Rattle.sess_turns.specs.declared.view.View.{View}
use Rattle.sess_turns.specs.Terms.{Terms}
use Rattle.sess_turns.specs.Turns.{Turn, Finish, Progress, Follow, IsNumber, after_turn, lines_of_turn, lines_from, last_lines, turn_readings, last_readings, most_turns, spent}
use Rattle.sess_turns.specs.Streams.{Outside, Names, frame_of, frames_of, end_text}
use Rattle.sess_turns.specs.Steps.{Lasts, Stops, IsTurned}
use Rattle.sess_turns.proofs.WritingLemmas.{Point, between, written-as}
use Rattle.sess_turns.proofs.AloneLemmas.{sole-same, sole-join, finish-join}

pub frames-append : (view : View) (ask : WatchAsk) (xs ys : List Line)
    → frames_of view ask.selection.resource (xs ++ ys) ≡ frames_of view ask.selection.resource xs ++ frames_of view ask.selection.resource ys
frames-append view ask xs ys = flat_map-append (frame_of view ask.selection.resource) xs ys

module _ (terms : Terms) (view : View) (ask : WatchAsk) (start : Reading) where
  pub follow-join : (xs ys : List Turn) (s mid last : Progress) → Follow terms ask start s xs mid → Follow terms ask start mid ys last → Follow terms ask start s (xs ++ ys) last
  follow-join [] ys s mid last same follow = subst (λ z. Follow terms ask start z ys last) (sym same) follow
  follow-join (turn ∷ more) ys s mid last follow after =
      (follow.0, follow.1, follow-join more ys (after_turn terms ask s turn) mid last follow.2 after)

  pub lines-join : (xs ys : List Turn) (s mid : Progress) → Follow terms ask start s xs mid → lines_from terms ask s (xs ++ ys) ≡ lines_from terms ask s xs ++ lines_from terms ask mid ys
  lines-join [] ys s mid same = ap (λ z. lines_from terms ask z ys) same
  lines-join (turn ∷ more) ys s mid follow =
      ap (λ l. lines_of_turn terms ask s turn ++ l) (lines-join more ys (after_turn terms ask s turn) mid follow.2)
      ∙ sym (append_assoc (lines_of_turn terms ask s turn) (lines_from terms ask (after_turn terms ask s turn) more) (lines_from terms ask mid ys))

  pub readings-join : (xs ys : List Turn) (finish : Finish) → map (λ (turn : Turn). turn.reading) xs ++ turn_readings ys finish ≡ turn_readings (xs ++ ys) finish
  readings-join xs ys finish =
      sym (append_assoc (map (λ (turn : Turn). turn.reading) xs) (map (λ (turn : Turn). turn.reading) ys) (last_readings finish))
      ∙ ap (λ l. l ++ last_readings finish) (sym (map-append (λ (turn : Turn). turn.reading) xs ys))

  -- the turns so far, which brought the watch from where it stood to where it stands
  pub record SoFar (whole : Type 0) (s : Progress) (made : ℕ) (now : Progress) (outside : Outside) : Type 0 where
    pub turns : List Turn
    pub follow : Follow terms ask start s turns now
    pub number : length turns ≡ made
    pub readings : Noted outside.readings_old outside.readings_new (map (λ (turn : Turn). turn.reading) turns)
    pub written : IsWrittenOut (frames_of view ask.selection.resource (lines_from terms ask s turns)) outside.sent
    pub sole : whole → IsSoleRead s.pass now.pass

  module _ (whole : Type 0) (s : Progress) (old : Point) where
    pub so-first : SoFar whole s 0 s (between old old)
    so-first = record {
      turns = [];
      follow = refl;
      number = refl;
      readings = Noted-nil old.readings;
      written = written-nothing old.written old.faults;
      sole = λ _. sole-same s.pass s.pass refl;
    }

    pub so-on : (made : ℕ) (mid now : Progress) (m new : Point) → SoFar whole s made mid (between old m) → Lasts terms view ask start whole mid now (between m new)
        → SoFar whole s (made + 1) now (between old new)
    so-on made mid now m new so last =
        let one : List Turn = last.turn ∷ [] in
        let pass : last.turn.pass ≡ now.pass = ap (λ (z : Progress). z.pass) last.now_is in
        record {
          turns = so.turns ++ one;
          follow = follow-join so.turns one s mid now so.follow (last.is, last.lasts, last.now_is);
          number = length-append so.turns one ∙ ap (λ (n : ℕ). n + 1) so.number;
          readings = subst (Noted old.readings new.readings) (sym (map-append (λ (turn : Turn). turn.reading) so.turns one)) (Noted-join old.readings m.readings new.readings _ _ so.readings last.readings);
          written =
              written-as old.written new.written old.faults new.faults _ _
              (sym
              (ap (frames_of view ask.selection.resource) (lines-join so.turns one s mid so.follow ∙ ap (λ l. lines_from terms ask s so.turns ++ l) (append-nil (lines_of_turn terms ask mid last.turn)))
              ∙ frames-append view ask (lines_from terms ask s so.turns) (lines_of_turn terms ask mid last.turn)))
              (written-behind old.written m.written new.written old.faults m.faults new.faults _ _ so.written last.sent_on.0);
          sole = λ w. subst (IsSoleRead s.pass) pass (sole-join s.pass mid.pass last.turn.pass (so.sole w) (last.sole w));
        }

    -- what is written of the lines so far, the further lines, and maybe the end
    text-join : (xs ys : List Turn) (mid : Progress) (ends : List Line) (end : List ℕ) → Follow terms ask start s xs mid →
        frames_of view ask.selection.resource (lines_from terms ask s xs) ++ (frames_of view ask.selection.resource (lines_from terms ask mid ys ++ ends) ++ end)
        ≡ frames_of view ask.selection.resource (lines_from terms ask s (xs ++ ys) ++ ends) ++ end
    text-join xs ys mid ends end follow =
        let first = lines_from terms ask s xs in
        let later = lines_from terms ask mid ys in
        sym (append_assoc (frames_of view ask.selection.resource first) (frames_of view ask.selection.resource (later ++ ends)) end)
        ∙ ap (λ l. l ++ end)
        (sym (frames-append view ask first (later ++ ends))
        ∙ ap (frames_of view ask.selection.resource) (sym (append_assoc first later ends) ∙ ap (λ l. l ++ ends) (sym (lines-join xs ys s mid follow))))

    pub so-stops : (made : ℕ) (mid : Progress) (m new : Point) (answer : Result WatchEnd Broken) (q : Pass RevisionData) →
        SoFar whole s made mid (between old m) → Stops terms view ask start whole made mid (between m new) answer q → Stops terms view ask start whole 0 s (between old new) answer q
    so-stops made mid m new answer q so stops = record {
      turns = so.turns ++ stops.turns;
      last = stops.last;
      finish = stops.finish;
      follow = follow-join so.turns stops.turns s mid stops.last so.follow stops.follow;
      finishes = stops.finishes;
      number = subst (IsNumber stops.finish) (omega (arith, length-append so.turns stops.turns, so.number)) stops.number;
      ends = stops.ends;
      readings = subst (Noted old.readings new.readings) (readings-join so.turns stops.turns stops.finish) (Noted-join old.readings m.readings new.readings _ _ so.readings stops.readings);
      sends =
          sends-as answer _ _ (between old new).sent (text-join so.turns stops.turns mid (last_lines stops.finish) _ so.follow)
          (sends-behind answer old.written m.written new.written old.settled m.settled new.settled old.faults m.faults new.faults _ _ so.written stops.sends);
      sole = λ w. finish-join s.pass mid.pass q stops.finish (so.sole w) (stops.sole w);
    }

some-same : (a b : WatchEnd) → Some a ≡ Some b → a ≡ b
some-same a b e = cc e

-- an answer that passes an error on
err-is : (answer : Result WatchEnd Broken) (why : Broken) → IsErrAnd answer (λ e. e ≡ why) → Err why ≡ answer
err-is answer why failed = grind arith

-- a turn of a client whose facts are those that the watch began with, and who knows the log whole where it did then
module _ (terms same : Terms) (is : same ≡ terms) (view : View) (ask : WatchAsk) (start : Reading) (whole later : Type 0) (keeps : whole → later)
    (s mid : Progress) (old m new : Point) (made : ℕ) where
  lasts-kept : (now : Progress) → Lasts same view ask start later mid now (between m new) → Lasts terms view ask start whole mid now (between m new)
  lasts-kept now there =
      let last = subst (λ (t : Terms). Lasts t view ask start later mid now (between m new)) is there in
      record { turn = last.turn; is = last.is; lasts = last.lasts; now_is = last.now_is; readings = last.readings; sent_on = last.sent_on; sole = λ w. last.sole (keeps w) }

  stops-kept : (answer : Result WatchEnd Broken) (q : Pass RevisionData) → Stops same view ask start later made mid (between m new) answer q → Stops terms view ask start whole made mid (between m new) answer q
  stops-kept answer q there =
      let stops = subst (λ (t : Terms). Stops t view ask start later made mid (between m new) answer q) is there in
      record {
        turns = stops.turns;
        last = stops.last;
        finish = stops.finish;
        follow = stops.follow;
        finishes = stops.finishes;
        number = stops.number;
        ends = stops.ends;
        readings = stops.readings;
        sends = stops.sends;
        sole = λ w. stops.sole (keeps w);
      }

  pub turned-on : (ended : Option WatchEnd) (now : Progress) → ended ≡ None → SoFar terms view ask start whole s made mid (between old m) →
      IsTurned same view ask start later mid (between m new) (Ok ended) now → SoFar terms view ask start whole s (made + 1) now (between old new)
  turned-on None now e so turned = so-on terms view ask start whole s old made mid now m new so (lasts-kept now turned)
  turned-on (Some how) now e so turned = absurd (cc e)

  pub turned-ends : (ended : Option WatchEnd) (how : WatchEnd) (now : Progress) → ended ≡ Some how → made < most_turns → SoFar terms view ask start whole s made mid (between old m) →
      IsTurned same view ask start later mid (between m new) (Ok ended) now → Stops terms view ask start whole 0 s (between old new) (Ok how) now.pass
  turned-ends None how now e few so turned = absurd (cc e)
  turned-ends (Some found) how now e few so turned =
      subst (λ (w : WatchEnd). Stops terms view ask start whole 0 s (between old new) (Ok w) now.pass) (some-same found how e)
      (so-stops terms view ask start whole s old made mid m new (Ok found) now.pass so (stops-kept (Ok found) now.pass (turned made few)))

  pub turned-breaks : (answer : Result WatchEnd Broken) (why : Broken) (q : Pass RevisionData) → IsErrAnd answer (λ e. e ≡ why) → made < most_turns →
      SoFar terms view ask start whole s made mid (between old m) →
      ((n : ℕ) → n < most_turns → Stops same view ask start later n mid (between m new) (Err why) q) → Stops terms view ask start whole 0 s (between old new) answer q
  turned-breaks answer why q failed few so turned =
      subst (λ (a : Result WatchEnd Broken). Stops terms view ask start whole 0 s (between old new) a q) (err-is answer why failed)
      (so-stops terms view ask start whole s old made mid m new (Err why) q so (stops-kept (Err why) q (turned made few)))

-- a turn after which the watch goes on leaves nothing held back
pub turned-settled : (terms : Terms) (view : View) (ask : WatchAsk) (start : Reading) (whole : Type 0) (s now : Progress) (outside : Outside) (ended : Option WatchEnd) → ended ≡ None →
    IsTurned terms view ask start whole s outside (Ok ended) now → outside.sent.settled_new
turned-settled terms view ask start whole s now outside None e turned = turned.sent_on.1
turned-settled terms view ask start whole s now outside (Some how) e turned = absurd (cc e)

-- after the most turns that there may be, the stream is ended
module _ (terms : Terms) (view : View) (ask : WatchAsk) (start : Reading) (whole : Type 0) (s now : Progress) (old m new : Point) (made : ℕ) (all : made ≡ most_turns) where
  spent-so : (answer : Result WatchEnd Broken) → SoFar terms view ask start whole s made now (between old m) → Names answer spent → new.readings ≡ m.readings →
      Sends answer (end_text view.framing) (between m new).sent → Stops terms view ask start whole 0 s (between old new) answer now.pass
  spent-so answer so names unread sends =
      so-stops terms view ask start whole s old made now m new answer now.pass so (record {
        turns = [];
        last = now;
        finish = spent;
        follow = refl;
        finishes = refl;
        number = omega (arith, all);
        ends = names;
        readings = subst (λ (r : Option (List Reading)). Noted m.readings r []) (sym unread) (Noted-nil m.readings);
        sends = sends;
        sole = λ w. sole-same now.pass now.pass refl;
      })

  pub spent-ends : SoFar terms view ask start whole s made now (between old m) → new.readings ≡ m.readings → IsSentOn (end_text view.framing) (between m new).sent →
      Stops terms view ask start whole 0 s (between old new) (Ok ends.TurnsSpent) now.pass
  spent-ends so unread sent_on = spent-so (Ok ends.TurnsSpent) so refl unread sent_on

  pub spent-breaks : (A : Type 0) (answer : Result WatchEnd Broken) (why : Broken) → IsErrAnd answer (λ e. e ≡ why) → SoFar terms view ask start whole s made now (between old m) →
      new.readings ≡ m.readings → Sends {A = A} (Err why) (end_text view.framing) (between m new).sent → Stops terms view ask start whole 0 s (between old new) answer now.pass
  spent-breaks A (Ok how) why failed so unread sends = absurd failed
  spent-breaks A (Err other) why failed so unread sends =
      spent-so (Err other) so tt unread (sends-error A {B = WatchEnd} (Err other) why (end_text view.framing) (between m new).sent failed sends.0)
