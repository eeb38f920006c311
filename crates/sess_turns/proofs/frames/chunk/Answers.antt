use Rattle.std.proofs.Common.{◌+◌, ◌++◌}
use Rattle.std.specs.List.{flat_map}
use Rattle.std.specs.Prelude.{codes}
use Rattle.http_send.specs.Replies.{chunk_head_text, crlf}
use Rattle.edge_io.proofs.SentLemmas.{broken-first, broken-behind, writes-broken, writes-behind, writes-as}
use Rattle.json_obj.specs.Replies.{event_text}
use Rattle.sess_turns.proofs.WritingLemmas.{chunk-pieces}
use Rattle.sess_turns.proofs.frames.chunk.Goals as goal

pub returns-in_err-begin_chunk : goal.returns-in_err-begin_chunk
returns-in_err-begin_chunk g c =
    let text = event_text c.args.type_ (flat_map (λ piece. piece.now) c.args.object.now) in
    let e = c.from_residual in
    writes-as e.result _ _ _ (chunk-pieces text c.args.bytes c.requires.told)
    (writes-broken e.result _ _ e.ensures.0
    (broken-first _ _ _ _ (chunk_head_text (c.args.bytes + 1)) (text ++ (codes "\n" ++ crlf)) c.in_err-begin_chunk.ensures))

pub returns-in_err-line : goal.returns-in_err-line
returns-in_err-line g c =
    let text = event_text c.args.type_ (flat_map (λ piece. piece.now) c.args.object.now) in
    let after = codes "\n" ++ crlf in
    let e = c.from_residual-in_err-line in
    writes-as e.result _ _ _ (chunk-pieces text c.args.bytes c.requires.told)
    (writes-broken e.result _ _ e.ensures.0
    (broken-behind _ _ _ _ _ _ (chunk_head_text (c.args.bytes + 1)) (text ++ after) c.in_ok-begin_chunk.ensures
    (broken-first _ _ _ _ text after c.in_err-line.ensures)))

pub returns-in_err-part : goal.returns-in_err-part
returns-in_err-part g c =
    let text = event_text c.args.type_ (flat_map (λ piece. piece.now) c.args.object.now) in
    let after = codes "\n" ++ crlf in
    let e = c.from_residual-in_err-part in
    writes-as e.result _ _ _ (chunk-pieces text c.args.bytes c.requires.told)
    (writes-broken e.result _ _ e.ensures.0
    (broken-behind _ _ _ _ _ _ (chunk_head_text (c.args.bytes + 1)) (text ++ after) c.in_ok-begin_chunk.ensures
    (broken-behind _ _ _ _ _ _ text after c.in_ok-line.ensures (broken-first _ _ _ _ (codes "\n") crlf c.in_err-part.ensures))))

pub returns : goal.returns
returns g c =
    let text = event_text c.args.type_ (flat_map (λ piece. piece.now) c.args.object.now) in
    let after = codes "\n" ++ crlf in
    let r = c.end_chunk.result in
    writes-as r _ _ _ (chunk-pieces text c.args.bytes c.requires.told)
    (writes-behind r _ _ _ _ _ _ _ _ _ (chunk_head_text (c.args.bytes + 1)) (text ++ after) c.in_ok-begin_chunk.ensures
    (writes-behind r _ _ _ (Unit {0}) _ _ _ _ _ text after c.in_ok-line.ensures
    (writes-behind r _ _ _ (Unit {0}) _ _ _ _ _ (codes "\n") crlf c.in_ok-part.ensures c.end_chunk.ensures)))
