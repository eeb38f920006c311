-- What is known through a watch has one first revision.
use Rattle.std.proofs.Common.{◌≡◌, List, [], ◌∷◌, sym, ap, ◌∙◌, Some, None}
use Rattle.edge_io.specs.declared.clock.Reading.{Reading}
use Rattle.rev_front.specs.Passes.{Pass}
use Rattle.rev_log.specs.Changes.{RevisionData}
use Rattle.watch_rules.specs.declared.ask.WatchAsk.{WatchAsk}
use Rattle.sess_turns.specs.Terms.{Terms}
use Rattle.sess_turns.specs.Turns.{Turn, Turns, IsWatchTurns, first_progress, Finish, timed_out, stopped, lost, spent, broken, Progress, Follow, Finishes, after_turn}

first-follows : (terms : Terms) (ask : WatchAsk) (start : Reading) (turns : List Turn) (s last : Progress) → Follow terms ask start s turns last → last.pass.first ≡ s.pass.first
first-follows terms ask start [] s last stood = ap (λ (z : Progress). z.pass.first) (sym stood)
first-follows terms ask start (turn ∷ more) s last follow = first-follows terms ask start more (after_turn terms ask s turn) last follow.2 ∙ follow.0.onward.extends.log_is

first-finishes : (terms : Terms) (ask : WatchAsk) (start : Reading) (s : Progress) (finish : Finish) (q : Pass RevisionData) → Finishes terms ask start s finish q → q.first ≡ s.pass.first
first-finishes terms ask start s (timed_out now) q is = ap (λ (z : Pass RevisionData). z.first) (sym is.1)
first-finishes terms ask start s (stopped now) q is = ap (λ (z : Pass RevisionData). z.first) (sym is.2)
first-finishes terms ask start s spent q is = ap (λ (z : Pass RevisionData). z.first) (sym is)
first-finishes terms ask start s (broken None) q is = ap (λ (z : Pass RevisionData). z.first) (sym is)
first-finishes terms ask start s (broken (Some now)) q is = is.1.extends.log_is
first-finishes terms ask start s (lost turn at floor) q is = ap (λ (z : Pass RevisionData). z.first) (sym is.2) ∙ is.0.onward.extends.log_is

module _ (terms : Terms) (opened q : Pass RevisionData) (ask : WatchAsk) (watch : Turns) (is : IsWatchTurns terms ask opened watch q) where
  pub first_stays : q.first ≡ opened.first
  first_stays = first-finishes terms ask watch.start is.last watch.finish q is.finishes ∙ first-follows terms ask watch.start watch.turns (first_progress opened watch) is.last is.follow
