-- A mirror that reads what a session writes to its watch: what is asked of a mirror's peer holds at each line.
use Rattle.std.specs.Prelude.{◌≡◌, ℕ, Bool, List, [], ◌∷◌, ◌++◌, map, All, Option}
use Rattle.client_api.specs.Starts.{IsWatchStart}
use Rattle.line_stream.specs.Readers.{ReaderData, most_line}
use Rattle.line_stream.specs.Standing.{Stands}
use Rattle.line_stream.specs.declared.start.Start.{Start}
use Rattle.meta_view.specs.declared.form.Form.TheVariants.{Whole}
use Rattle.mirror_law.specs.Taking.{IsPastOpening}
use Rattle.mirror_link.specs.Peers.{IsPeer, IsAskOf}
use Rattle.rev_front.specs.Passes.{Pass, IsPass}
use Rattle.rev_log.specs.Changes.{RevisionData}
use Rattle.rev_log.specs.Logs.{Log, Fits}
use Rattle.select_all.specs.declared.selection.Selection.{Selection}
use Rattle.sess_turns.specs.Streams.{stream_text}
use Rattle.sess_turns.specs.Terms.{Terms}
use Rattle.sess_turns.specs.Turns.{Turns, IsWatchTurns, watch_lines}
use Rattle.up_api.specs.Sections.{log_of}
use Rattle.watch_lines.specs.Texts.{line_text}
use Rattle.watch_rules.specs.declared.ask.WatchAsk.{WatchAsk}
use Rattle.watch_rules.specs.Bodies.{Line, BeginsBody}
use Rattle.laws.specs.MirrorQueries.{IsMirrorsWatch, BeganAt}
use Rattle.laws.specs.MirroredStreams.{MayBeRead, in_chunks}
use Rattle.laws.specs.Storable.{HoldsStored}

-- What a mirror asks of the peer whose next line it hears: the log is a peer's, the watch is one of the mirror's, and the
-- lines so far and the next begin a lawful body of it.
pub record MayHear (log : Log) (log_floor low : ℕ) (s : Selection) (ask : WatchAsk) (at : ℕ) (before : List Line) (line : Line) : Type 0 where
  pub peer : IsPeer log s
  pub asked : IsAskOf s ask at before
  pub begins : BeginsBody log log_floor low ask at (before ++ line ∷ [])

-- each of these lines, once the opening is over, may be heard behind those before it
abbrev pub MayHearAll : Log → ℕ → ℕ → Selection → WatchAsk → ℕ → List Line → Type 0
MayHearAll log log_floor low s ask at lines =
    (before after : List Line) (line : Line) → lines ≡ before ++ line ∷ after → IsPastOpening ask before →
    MayHear log log_floor low s ask at before line

-- Who stands in a beginning of what a session writes to a mirror's watch stands with the texts of lines which the mirror
-- may hear, of the log that the session knew at the end: one that began with nothing, and whose objects may be stored.
abbrev pub ServersAreMirrored : Type 0
ServersAreMirrored =
    (terms : Terms) (p opened q : Pass RevisionData) (ask : WatchAsk) (watch : Turns) (ended : Bool) (room : Option ℕ) (bytes more : List ℕ) (read : List (List ℕ)) (reader : ReaderData)
    (s : Selection) (start : Start) →
    terms.base ≡ [] → IsPass Fits q → HoldsStored (log_of terms.base q) → IsMirrorsWatch s start ask →
    IsWatchStart terms.base p ask watch.begun opened → IsWatchTurns terms ask opened watch q → All (MayBeRead ask.selection.resource) (watch_lines terms ask opened watch) →
    bytes ++ more ≡ stream_text in_chunks ask.selection.resource (watch_lines terms ask opened watch) ended → Stands room most_line bytes read reader →
    (at : ℕ) × (lines : List Line) × (read ≡ map (line_text Whole ask.selection.resource) lines) × BeganAt start at
    × MayHearAll (log_of terms.base q) q.floor terms.window s ask at lines
