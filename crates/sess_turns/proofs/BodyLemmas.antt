-- The lines of a watch, turn by turn, are those of a lawful body.
use Rattle.std.proofs.Common.{◌≡◌, ℕ, ◌≤◌, Bool, true, false, ◌&&◌, List, [], ◌∷◌, ◌++◌, refl, sym, subst, ◌∙◌, append_assoc, append-nil, arith, Some, None}
use Rattle.std.proofs.lemmas.Bool.{leb-true}
use Rattle.std.specs.Prelude.{IsTrue, if◌then◌else◌}
use Rattle.edge_io.specs.declared.clock.Reading.{Reading}
use Rattle.rev_front.specs.Passes.{Pass, Extends, end_from}
use Rattle.rev_log.specs.Changes.{RevisionData}
use Rattle.rev_log.specs.Logs.{Log}
use Rattle.up_api.specs.Sections.{log_of}
use Rattle.up_api.proofs.SectionLemmas.{logs_grow_on}
use Rattle.watch_rules.specs.declared.ask.WatchAsk.{WatchAsk}
use Rattle.watch_rules.specs.Bodies.{Line, Bookmark, TellsBody, AreOpen, opening_lines}
use Rattle.watch_rules.proofs.LineLemmas.{tellings_go_on, tellings_stay}
use Rattle.client_api.specs.declared.answers.Took.{Took}
use Rattle.client_api.specs.declared.answers.Took.TheVariants.{Events, Quiet, Lost}
use Rattle.client_api.specs.Facts.{Watched}
use Rattle.client_api.specs.Laws.{turn_lines, position_after, IsLasting}
use Rattle.client_api.specs.Turns.{IsWatchTurn as Gives}
use Rattle.client_api.proofs.LawLemmas.{starts_do_tell, turns_do_tell}
use Rattle.client_api.specs.Starts.{IsWatchStart}
use Rattle.sess_turns.specs.Terms.{Terms}
use Rattle.sess_turns.specs.Turns.{Turn, Turns, IsWatchTurns, first_progress, watch_lines, Finish, timed_out, stopped, lost, spent, broken, Progress, IsStreamTurn, Follow, Finishes, after_turn, is_due, lines_of_turn, lines_from, last_lines}
use Rattle.sess_turns.specs.Laws.{TurnsAreBodies}

and-first : (a b : Bool) → (a && b) ≡ true → a ≡ true
and-first a b e = grind arith

and-second : (a b : Bool) → (a && b) ≡ true → b ≡ true
and-second a b e = grind arith

module _ (terms : Terms) (ask : WatchAsk) (at : ℕ) where
  -- lines that tell a body which goes on, up to a position
  pub record Told (p : Pass RevisionData) (lines : List Line) (position : ℕ) : Type 0 where
    pub tells : TellsBody (log_of terms.base p) p.floor terms.window ask at lines position
    pub free : AreOpen lines

  abbrev Reached : Pass RevisionData → List Line → ℕ → Type 0
  Reached p lines position = TellsBody (log_of terms.base p) p.floor terms.window ask at lines position

  stays : (p q : Pass RevisionData) (lines : List Line) (position : ℕ) → Extends p q → Reached p lines position → Reached q lines position
  stays p q lines position later tells =
      subst (λ (log : Log). TellsBody log q.floor terms.window ask at lines position) (sym (logs_grow_on terms.base p q later))
      (tellings_stay (log_of terms.base p) later.seen_on.0 p.floor q.floor terms.window ask at lines position later.floor_on tells)

  same : (p : Pass RevisionData) (lines more : List Line) (position : ℕ) → lines ≡ more → Told p lines position → Told p more position
  same p lines more position e told = subst (λ (l : List Line). Told p l position) e told

  -- a bookmark, where one is due at a revision that is seen
  marked : (q : Pass RevisionData) (lines : List Line) (position : ℕ) (due : Bool) → (due ≡ true → IsTrue ask.bookmarks × (position ≤ end_from q.first q.seen)) →
      Told q lines position → Told q (lines ++ (if due then Bookmark position ∷ [] else [])) position
  marked q lines position false may told = same q lines (lines ++ []) position (sym (append-nil lines)) told
  marked q lines position true may told =
      let goes = (tellings_go_on (log_of terms.base q) q.floor terms.window ask at lines position told.tells told.free).mark (may refl).0 (may refl).1 in
      record { tells = goes.0; free = goes.1 }

  due-seen : (p q : Pass RevisionData) (watched : Watched) (mark now : ℕ) (position : ℕ) (took : Took) → Gives terms.base terms.window p watched took q →
      is_due terms.settings ask mark now took ≡ true → IsTrue ask.bookmarks × (position_after took position ≤ end_from q.first q.seen)
  due-seen p q watched mark now position (Events from upto lines) gives due = absurd (cc due)
  due-seen p q watched mark now position (Lost stood floor) gives due = absurd (cc due)
  due-seen p q watched mark now position (Quiet upto reached) gives due =
      let rest = and-second ask.bookmarks _ due in
      (and-first ask.bookmarks _ due, leb-true upto (end_from q.first q.seen) (sym gives.reached_is ∙ and-first reached _ rest))

  turn-told : (start : Reading) (s : Progress) (turn : Turn) (lines : List Line) → IsStreamTurn terms ask start s turn → IsLasting turn.took → Told s.pass lines s.position →
      Told turn.pass (lines ++ lines_of_turn terms ask s turn) (position_after turn.took s.position)
  turn-told start s turn lines is lasts told =
      let goes = turns_do_tell terms.base terms.window s.pass turn.pass ask at lines s.position turn.took is.onward.extends told.tells told.free is.gives in
      let due = is_due terms.settings ask s.mark turn.reading.ms turn.took in
      same turn.pass _ _ _ (append_assoc lines (turn_lines turn.took) (if due then Bookmark (position_after turn.took s.position) ∷ [] else []))
      (marked turn.pass (lines ++ turn_lines turn.took) (position_after turn.took s.position) due
      (due-seen s.pass turn.pass _ s.mark turn.reading.ms s.position turn.took is.gives) (record { tells = goes.0; free = goes.1 lasts }))

  follow-told : (start : Reading) (turns : List Turn) (s last : Progress) (lines : List Line) → Follow terms ask start s turns last → Told s.pass lines s.position →
      Told last.pass (lines ++ lines_from terms ask s turns) last.position
  follow-told start [] s last lines stood told =
      subst (λ (z : Progress). Told z.pass (lines ++ []) z.position) stood (same s.pass lines (lines ++ []) s.position (sym (append-nil lines)) told)
  follow-told start (turn ∷ more) s last lines follow told =
      same last.pass _ _ last.position (append_assoc lines (lines_of_turn terms ask s turn) (lines_from terms ask (after_turn terms ask s turn) more))
      (follow-told start more (after_turn terms ask s turn) last (lines ++ lines_of_turn terms ask s turn) follow.2
      (turn-told start s turn lines follow.0 follow.1 told))

  -- nothing more is told
  nothing : (p q : Pass RevisionData) (lines : List Line) (position : ℕ) → p ≡ q → Reached p lines position → Reached q (lines ++ []) position
  nothing p q lines position known tells =
      subst (λ (z : Pass RevisionData). Reached z (lines ++ []) position) known (subst (λ (l : List Line). Reached p l position) (sym (append-nil lines)) tells)

  finish-tells : (start : Reading) (s : Progress) (finish : Finish) (q : Pass RevisionData) (lines : List Line) → Finishes terms ask start s finish q → Told s.pass lines s.position →
      Reached q (lines ++ last_lines finish) s.position
  finish-tells start s (timed_out now) q lines is told = nothing s.pass q lines s.position is.1 told.tells
  finish-tells start s (stopped now) q lines is told = nothing s.pass q lines s.position is.2 told.tells
  finish-tells start s spent q lines is told = nothing s.pass q lines s.position is told.tells
  finish-tells start s (broken None) q lines is told = nothing s.pass q lines s.position is told.tells
  finish-tells start s (broken (Some now)) q lines is told =
      nothing q q lines s.position refl (stays s.pass q lines s.position is.1.extends told.tells)
  finish-tells start s (lost turn stood floor) q lines is told =
      let goes = turns_do_tell terms.base terms.window s.pass turn.pass ask at lines s.position turn.took is.0.onward.extends told.tells told.free is.0.gives in
      let ends = subst (λ (took : Took). Reached turn.pass (lines ++ turn_lines took) (position_after took s.position)) is.1 goes.0 in
      subst (λ (z : Pass RevisionData). Reached z (lines ++ last_lines (lost turn stood floor)) s.position) is.2 ends

-- all lines of a watch tell a body, up to the position at its end
pub turns_tell : (terms : Terms) (p opened q : Pass RevisionData) (ask : WatchAsk) (watch : Turns) → IsWatchStart terms.base p ask watch.begun opened
    → (is : IsWatchTurns terms ask opened watch q) → TellsBody (log_of terms.base q) q.floor terms.window ask watch.begun.at (watch_lines terms ask opened watch) is.last.position
turns_tell terms p opened q ask watch start is =
    let begins = starts_do_tell terms.base terms.window p opened ask watch.begun start in
    let told = follow-told terms ask watch.begun.at watch.start watch.turns (first_progress opened watch) is.last _ is.follow (record { tells = begins.0; free = begins.1 }) in
    let ends = finish-tells terms ask watch.begun.at watch.start is.last watch.finish q _ is.finishes told in
    subst (λ (l : List Line). TellsBody (log_of terms.base q) q.floor terms.window ask watch.begun.at l is.last.position)
    (append_assoc (opening_lines ask watch.begun.at watch.begun.rows) (lines_from terms ask (first_progress opened watch) watch.turns) (last_lines watch.finish)) ends

pub turns_are_bodies : TurnsAreBodies
turns_are_bodies terms p opened q ask watch start is =
    let tells = turns_tell terms p opened q ask watch start is in (tells.body, tells.lawful, tells.lines_are)
