-- Laws of the streams of sessions, as they are judged.
use Rattle.std.specs.Prelude.{◌≡◌, ℕ, ◌≤◌, [], map}
use mathlib.Core.List.{IsPrefix}
use Rattle.meta_view.specs.declared.form.Form.TheVariants.{Whole}
use Rattle.rev_front.specs.Passes.{Pass, IsPass, Extends}
use Rattle.rev_log.specs.Changes.{RevisionData}
use Rattle.rev_log.specs.Logs.{Fits}
use Rattle.watch_record.specs.declared.records.Record.{Record}
use Rattle.watch_rules.specs.declared.ask.WatchAsk.{WatchAsk}
use Rattle.watch_lines.specs.Texts.{line_text}
use Rattle.client_api.specs.Starts.{IsWatchStart}
use Rattle.sess_turns.specs.Terms.{Terms}
use Rattle.sess_turns.specs.Turns.{Turns, IsWatchTurns, watch_lines}
use Rattle.body_check.specs.declared.judging.Checked.{Checked}
use Rattle.body_check.specs.declared.judging.Checked.TheVariants.{Lawful}
use Rattle.body_check.specs.Judging.{IsJudged}

-- A record of a watch's stream: the log, which goes on from what the session knew of it at its end, with a floor that may
-- be higher, what was asked for, and the texts of its lines.
pub record Records (case : Record) (terms : Terms) (ask : WatchAsk) (opened : Pass RevisionData) (watch : Turns) (q : Pass RevisionData) : Type 0 where
  pub first_is : case.first ≡ q.first
  pub log_on : IsPrefix q.seen case.log.items
  pub floor_on : q.floor ≤ case.floor
  pub window_is : case.window ≡ terms.window
  pub ask_is : case.ask ≡ ask
  pub lines_are : case.lines.items ≡ map (line_text Whole ask.selection.resource) (watch_lines terms ask opened watch)

-- It is judged to be lawful, where the log began with nothing.
abbrev pub StreamsAreLawful : Type 0
StreamsAreLawful =
    (terms : Terms) (p opened q : Pass RevisionData) (ask : WatchAsk) (watch : Turns) (case : Record) (judgement : Checked) →
    terms.base ≡ [] → IsPass Fits p → Extends p opened →
    IsWatchStart terms.base p ask watch.begun opened → IsWatchTurns terms ask opened watch q →
    Records case terms ask opened watch q → IsJudged case judgement →
    (at : ℕ) × (to : ℕ) × (judgement ≡ Lawful at to)
