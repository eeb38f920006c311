-- The turns of a watch, as the session tells of them.
use Rattle.std.proofs.Common.{◌≡◌, ◌≢◌, List, [], ◌∷◌, Some, None, Result, ap, subst, arith}
use Rattle.edge_io.specs.declared.clock.Reading.{Reading}
use Rattle.rev_front.specs.Passes.{Pass}
use Rattle.rev_log.specs.Changes.{RevisionData}
use Rattle.http_read.specs.declared.request.Req.{Req}
use Rattle.watch_rules.specs.declared.ask.WatchAsk.{WatchAsk}
use Rattle.route_req.specs.Asks.{IsRefusal}
use Rattle.route_req.specs.declared.routing.RouteNo.{RouteNo}
use Rattle.route_req.specs.declared.routing.RouteNo.TheVariants as route_no
use Rattle.client_api.specs.Answers.{BegunData}
use Rattle.client_api.specs.Facts.{IsOnward}
use Rattle.client_api.proofs.LawLemmas.{onwards_do_join}
use Rattle.sess_reply.specs.declared.broken.Broken.{Broken}
use Rattle.sess_turns.specs.Streams.{IsStreamed, Outside}
use Rattle.sess_turns.specs.Terms.{Terms}
use Rattle.sess_turns.specs.Turns.{Turn, Turns, Finish, timed_out, stopped, lost, spent, broken, Progress, Follow, Finishes, IsWatchTurns, after_turn}
use Rattle.sess_turns.specs.declared.ends.WatchEnd.{WatchEnd}
use Rattle.sess_turns.specs.declared.view.View.{View}
use Rattle.sess_serve.specs.Answers.{IsUnrouted}
use Rattle.sess_serve.proofs.Replying.{onward-is}

module _ (terms : Terms) (ask : WatchAsk) (start : Reading) where
  follow-onward : (turns : List Turn) (s last : Progress) → Follow terms ask start s turns last → IsOnward s.pass last.pass
  follow-onward [] s last same = onward-is s.pass last.pass (ap (λ (x : Progress). x.pass) same)
  follow-onward (turn ∷ more) s last (is, lasts, others) =
      onwards_do_join.1 s.pass turn.pass last.pass is.onward (follow-onward more (after_turn terms ask s turn) last others)

  finishes-onward : (s : Progress) (finish : Finish) (q : Pass RevisionData) → Finishes terms ask start s finish q → IsOnward s.pass q
  finishes-onward s (timed_out now) q h = onward-is s.pass q h.1
  finishes-onward s (stopped now) q h = onward-is s.pass q h.2
  finishes-onward s (lost turn at floor) q h = onwards_do_join.1 s.pass turn.pass q h.0.onward (onward-is turn.pass q h.2)
  finishes-onward s spent q h = onward-is s.pass q h
  finishes-onward s (broken None) q h = onward-is s.pass q h
  finishes-onward s (broken (Some now)) q h = h.1

-- what is known goes on over the turns of a watch
pub turns-onward : (terms : Terms) (ask : WatchAsk) (p : Pass RevisionData) (watch : Turns) (q : Pass RevisionData) → IsWatchTurns terms ask p watch q → IsOnward p q
turns-onward terms ask p watch q h =
    onwards_do_join.1 p h.last.pass q (follow-onward terms ask watch.start watch.turns (record { pass = p; position = watch.begun.at; mark = watch.start.ms }) h.last h.follow)
    (finishes-onward terms ask watch.start h.last watch.finish q h.finishes)

-- the same stream, for who held the log before the watch began
pub stream-under : (terms terms' : Terms) (view : View) (ask : WatchAsk) (started : BegunData) (whole before : Type 0) (p : Pass RevisionData) (outside : Outside) (answer : Result WatchEnd Broken)
    (q : Pass RevisionData) → terms' ≡ terms → (before → whole) → IsStreamed terms' view ask started whole p outside answer q → IsStreamed terms view ask started before p outside answer q
stream-under terms terms' view ask started whole before p outside answer q same held x =
    let str : IsStreamed terms view ask started whole p outside answer q = subst (λ t. IsStreamed t view ask started whole p outside answer q) same x in
    record {
      watch = str.watch;
      begins = str.begins;
      turns = str.turns;
      ends = str.ends;
      readings = str.readings;
      sends = str.sends;
      sole = λ w. str.sole (held w);
    }

-- a refusal that isn't want of memory
pub unrouted-is : (req : Req) (fault : RouteNo) → fault ≢ route_no.Memory → IsRefusal req fault → IsUnrouted req fault
unrouted-is req fault told refused = grind arith
