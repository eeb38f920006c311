-- The bytes of the stream that answers a watch, and which watch they are of (Kubernetes API concepts, "Efficient
-- detection of changes"; RFC 9112, section 7.1; RFC 6455).
use Rattle.std.specs.Prelude.{◌≡◌, ℕ, List, [], ◌++◌, Bool, true, false, if◌then◌else◌, codes, Option, Some, Result, Ok, Err, is_some, ⊤}
use Rattle.std.specs.List.{flat_map}
use Rattle.edge_io.specs.declared.clock.Reading.{Reading}
use Rattle.edge_io.specs.Told.{Noted}
use Rattle.edge_io.specs.Sent.{Sent}
use Rattle.http_send.specs.Replies.{stream_head_text, chunk_text, stream_end_text}
use Rattle.ws_watch.specs.Handshake.{socket_head_text}
use Rattle.ws_watch.specs.Messages.{message_text, socket_end_text}
use Rattle.kube_meta.specs.declared.resources.Resource.{Resource}
use Rattle.meta_view.specs.Lines.{expired_line}
use Rattle.rev_front.specs.Passes.{Pass}
use Rattle.rev_log.specs.Changes.{RevisionData}
use Rattle.watch_rules.specs.declared.ask.WatchAsk.{WatchAsk}
use Rattle.watch_rules.specs.Bodies.{Line}
use Rattle.watch_lines.specs.Texts.{line_text}
use Rattle.client_api.specs.Answers.{BegunData}
use Rattle.sess_reply.specs.Sending.{Sends}
use Rattle.sess_reply.specs.declared.broken.Broken.{Broken}
use Rattle.sess_turns.specs.declared.ends.WatchEnd.{WatchEnd}
use Rattle.sess_turns.specs.declared.view.Framing.{Framing}
use Rattle.sess_turns.specs.declared.view.Framing.TheVariants.{Chunks, Messages}
use Rattle.sess_turns.specs.declared.view.View.{View}
use Rattle.sess_turns.specs.Terms.{Terms}
use Rattle.sess_turns.specs.Turns.{Turns, Finish, IsWatchTurns, readings_of, watch_lines, end_of_watch, AloneFinish}

-- ---- the frame of a line

-- a chunk has the line and a line feed; a message has the line alone
abbrev pub framed : Framing → List ℕ → List ℕ
framed Chunks line = chunk_text (line ++ codes "\n")
framed (Messages key) line = message_text line

-- what a stream begins with, before its first line; a socket's key is answered there
abbrev pub head_text : Framing → List ℕ
head_text Chunks = stream_head_text
head_text (Messages key) = socket_head_text key

-- what a stream that isn't broken off ends with, after its last line: the last chunk, or a close
abbrev pub end_text : Framing → List ℕ
end_text Chunks = stream_end_text
end_text (Messages key) = socket_end_text

-- ---- streams

-- the bytes of a line as they are sent: the event in JSON, in the view's form, within a chunk or a message
abbrev pub frame_of : View → Resource → Line → List ℕ
frame_of view resource line = framed view.framing (line_text view.form resource line)

-- the bytes of several lines as they are sent, one behind the other
abbrev pub frames_of : View → Resource → List Line → List ℕ
frames_of view resource lines = flat_map (frame_of view resource) lines

-- the bytes of a stream: its head, its lines, and its end only where it wasn't broken off
abbrev pub stream_text : View → Resource → List Line → Bool → List ℕ
stream_text view resource lines ended =
    head_text view.framing ++ (frames_of view resource lines ++ (if ended then end_text view.framing else []))

-- the stream of a watch whose start is gone: one line tells so
abbrev pub gone_text : Framing → ℕ → ℕ → List ℕ
gone_text framing asked floor = head_text framing ++ (framed framing (expired_line asked floor) ++ end_text framing)

-- ---- the stream of a watch

-- the answer names the end of a stream that wasn't broken off
abbrev pub Names : Result WatchEnd Broken → Finish → Type 0
Names (Ok how) finish = end_of_watch finish ≡ Some how
Names (Err why) finish = ⊤

-- what went through a clock and a sink: its readings, where they are told, before and after; and what went through the sink
pub record Outside : Type 1 where
  pub readings_old : Option (List Reading)
  pub readings_new : Option (List Reading)
  pub sent : Sent

-- what went through a clock and a sink, by what the clock tells before and after
abbrev pub outside_of : {T : Type 0} → (T → Option (List Reading)) → T → T → Sent → Outside
outside_of readings old new sent = record { readings_old = readings old; readings_new = readings new; sent = sent }

-- A watch that began and was answered by a stream, from its first reading to its end: its turns, by the clock, are
-- lawful, and the bytes are those of its lines. `whole` says that nobody else holds the log and that p knew it whole.
pub record IsStreamed (terms : Terms) (view : View) (ask : WatchAsk) (begun : BegunData) (whole : Type 0) (p : Pass RevisionData) (outside : Outside)
    (answer : Result WatchEnd Broken) (q : Pass RevisionData) : Type 0 where
  pub watch : Turns
  pub begins : watch.begun ≡ begun
  pub turns : IsWatchTurns terms ask p watch q
  pub ends : Names answer watch.finish
  pub readings : Noted outside.readings_old outside.readings_new (readings_of watch)
  pub sends : Sends answer (stream_text view ask.selection.resource (watch_lines terms ask p watch) (is_some (end_of_watch watch.finish))) outside.sent
  pub sole : whole → AloneFinish p watch.finish q
