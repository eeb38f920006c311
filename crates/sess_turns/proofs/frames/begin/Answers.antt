use Rattle.std.proofs.Common.{ap, sym, ◌∙◌}
use Rattle.edge_io.proofs.SentLemmas.{writes-as}
use Rattle.ws_watch.specs.Handshake.{socket_head_text}
use Rattle.sess_turns.specs.Streams.{head_text}
use Rattle.sess_turns.proofs.frames.begin.Goals as goal

pub returns-in-Messages : goal.returns-in-Messages
returns-in-Messages g c =
    writes-as c.begin_socket.result _ _ _ (ap socket_head_text c.as_str.ensures ∙ ap head_text (sym c.in-Messages.is)) c.begin_socket.ensures
