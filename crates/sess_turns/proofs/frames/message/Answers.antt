use Rattle.std.specs.List.{flat_map}
use Rattle.edge_io.proofs.SentLemmas.{broken-first, writes-broken, writes-behind, writes-as}
use Rattle.json_obj.specs.Replies.{event_text}
use Rattle.ws_watch.specs.Messages.{message_head_text}
use Rattle.sess_turns.proofs.WritingLemmas.{message-pieces}
use Rattle.sess_turns.proofs.frames.message.Goals as goal

pub returns-in_err-begin_message : goal.returns-in_err-begin_message
returns-in_err-begin_message g c =
    let text = event_text c.args.type_ (flat_map (λ piece. piece.now) c.args.object.now) in
    writes-as c.from_residual.result _ _ _ (message-pieces text c.args.bytes c.requires.told)
    (writes-broken c.from_residual.result _ _ c.from_residual.ensures.0 (broken-first _ _ _ _ (message_head_text c.args.bytes) text c.in_err-begin_message.ensures))

pub returns : goal.returns
returns g c =
    let text = event_text c.args.type_ (flat_map (λ piece. piece.now) c.args.object.now) in
    writes-as c.line.result _ _ _ (message-pieces text c.args.bytes c.requires.told)
    (writes-behind c.line.result _ _ _ _ _ _ _ _ _ (message_head_text c.args.bytes) text c.in_ok-begin_message.ensures c.line.ensures)
