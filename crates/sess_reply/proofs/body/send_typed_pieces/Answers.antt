use Rattle.std.proofs.Common.{[], ◌∷◌, ◌++◌, length}
use Rattle.std.specs.List.{flat_map}
use Rattle.http_send.specs.Replies.{typed_head_text}
use Rattle.edge_io.proofs.SentLemmas.{broken-first, broken-behind}
use Rattle.sess_reply.proofs.SendLemmas.{sends-broken, sends-behind}
use Rattle.sess_reply.proofs.body.send_typed_pieces.Goals as goal

pub returns-in_err-begin_typed_reply : goal.returns-in_err-begin_typed_reply
returns-in_err-begin_typed_reply g c =
    let body = flat_map (λ piece. piece.now) c.args.pieces.now ++ 10 ∷ [] in
    let head = rw c.in-Some.ensures at c.in_err-begin_typed_reply.ensures in
    sends-broken c.from_residual.result _ _ c.from_residual.ensures.1
    (broken-first _ _ _ _ (typed_head_text c.args.kind c.args.code c.args.retry c.args.close (length body)) body head)

pub returns-in_err-parts : goal.returns-in_err-parts
returns-in_err-parts g c =
    let pieces = flat_map (λ piece. piece.now) c.args.pieces.now in
    let body = pieces ++ 10 ∷ [] in
    let head = rw c.in-Some.ensures at c.in_ok-begin_typed_reply.ensures in
    let e = c.from_residual-in_err-parts in
    sends-broken e.result _ _ e.ensures.1
    (broken-behind _ _ _ _ _ _ (typed_head_text c.args.kind c.args.code c.args.retry c.args.close (length body)) body head
    (broken-first _ _ _ _ pieces (10 ∷ []) c.in_err-parts.ensures))

pub returns : goal.returns
returns g c =
    let pieces = flat_map (λ piece. piece.now) c.args.pieces.now in
    let body = pieces ++ 10 ∷ [] in
    let head = rw c.in-Some.ensures at c.in_ok-begin_typed_reply.ensures in
    let r = c.end_reply.result in
    sends-behind r _ _ _ _ _ _ _ _ _ (typed_head_text c.args.kind c.args.code c.args.retry c.args.close (length body)) body head
    (sends-behind r _ _ _ (Unit {0}) _ _ _ _ _ pieces (10 ∷ []) c.in_ok-parts.ensures c.end_reply.ensures)
