-- What a session writes to a watch, as a mirror reads it.
use Rattle.std.specs.Prelude.{◌≡◌, ℕ, ◌≤◌, Bool, List, ◌++◌, length, map, All, Option}
use Rattle.client_api.specs.Starts.{IsWatchStart}
use Rattle.kube_meta.specs.declared.resources.Resource.{Resource}
use Rattle.line_stream.specs.Readers.{ReaderData, most_line}
use Rattle.line_stream.specs.Standing.{Stands}
use Rattle.meta_view.specs.declared.form.Form.TheVariants.{Whole}
use Rattle.rev_front.specs.Passes.{Pass}
use Rattle.rev_log.specs.Changes.{RevisionData}
use Rattle.rev_log.specs.Logs.{Log}
use Rattle.sess_turns.specs.Streams.{stream_text}
use Rattle.sess_turns.specs.Terms.{Terms}
use Rattle.sess_turns.specs.Turns.{Turns, IsWatchTurns, watch_lines}
use Rattle.sess_turns.specs.declared.view.Framing.TheVariants.{Chunks}
use Rattle.sess_turns.specs.declared.view.View.{View}
use Rattle.up_api.specs.Sections.{log_of}
use Rattle.watch_lines.specs.Laws.{IsTold}
use Rattle.watch_rules.specs.declared.ask.WatchAsk.{WatchAsk}
use Rattle.watch_rules.specs.Bodies.{Line, BeginsBody}
use Rattle.watch_lines.specs.Texts.{line_text}

-- whole objects, each line in a chunk of its own
abbrev pub in_chunks : View
in_chunks = record { form = Whole; framing = Chunks }

-- a line that a mirror may read: its object is stored, its revisions are within bounds, and its text isn't too long
abbrev pub MayBeRead : Resource → Line → Type 0
MayBeRead resource line = IsTold resource line × (length (line_text Whole resource line) ≤ most_line)

-- the texts are those of lines that begin a lawful body, which starts at this revision
pub record AreOfBody (log : Log) (log_floor low : ℕ) (ask : WatchAsk) (at : ℕ) (texts : List (List ℕ)) : Type 0 where
  pub lines : List Line
  pub texts_are : texts ≡ map (line_text Whole ask.selection.resource) lines
  pub begins : BeginsBody log log_floor low ask at lines

-- who stands in a beginning of what a session writes to a watch, whose lines may be read, stands with the texts of the
-- first of them, which begin a lawful body over the log that is known at the end
abbrev pub WatchesAreRead : Type 0
WatchesAreRead =
    (terms : Terms) (p opened q : Pass RevisionData) (ask : WatchAsk) (watch : Turns) (ended : Bool) (room : Option ℕ) (bytes more : List ℕ) (read : List (List ℕ)) (reader : ReaderData) →
    IsWatchStart terms.base p ask watch.begun opened → IsWatchTurns terms ask opened watch q → All (MayBeRead ask.selection.resource) (watch_lines terms ask opened watch) →
    bytes ++ more ≡ stream_text in_chunks ask.selection.resource (watch_lines terms ask opened watch) ended → Stands room most_line bytes read reader →
    (at : ℕ) × AreOfBody (log_of terms.base q) q.floor terms.window ask at read
