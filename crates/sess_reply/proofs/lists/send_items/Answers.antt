use Rattle.std.proofs.Common.{[], ◌∷◌, ◌++◌, false, length}
use Rattle.std.specs.List.{flat_map}
use Rattle.http_send.specs.Replies.{reply_head_text}
use Rattle.client_api.specs.Items.{rows_of}
use Rattle.edge_io.proofs.SentLemmas.{broken-first, broken-behind}
use Rattle.sess_reply.specs.Items.{between}
use Rattle.sess_reply.proofs.SendLemmas.{sends-broken, sends-behind}
use Rattle.sess_reply.proofs.lists.send_items.Goals as goal

pub returns-in_err-begin_reply : goal.returns-in_err-begin_reply
returns-in_err-begin_reply g c =
    let body = between (flat_map (λ piece. piece.now) c.args.front.now) c.args.form (rows_of c.args.items.now)
    (flat_map (λ piece. piece.now) c.args.back.now) ++ 10 ∷ [] in
    let head = rw c.in-Some.ensures at c.in_err-begin_reply.ensures in
    sends-broken c.from_residual.result _ _ c.from_residual.ensures.1
    (broken-first _ _ _ _ (reply_head_text 200 false c.args.close (length body)) body head)

pub returns-in_err-write_list : goal.returns-in_err-write_list
returns-in_err-write_list g c =
    let list = between (flat_map (λ piece. piece.now) c.args.front.now) c.args.form (rows_of c.args.items.now)
    (flat_map (λ piece. piece.now) c.args.back.now) in
    let body = list ++ 10 ∷ [] in
    let head = rw c.in-Some.ensures at c.in_ok-begin_reply.ensures in
    let e = c.from_residual-in_err-write_list in
    sends-broken e.result _ _ e.ensures.1
    (broken-behind _ _ _ _ _ _ (reply_head_text 200 false c.args.close (length body)) body head
    (broken-first _ _ _ _ list (10 ∷ []) c.in_err-write_list.ensures))

pub returns : goal.returns
returns g c =
    let list = between (flat_map (λ piece. piece.now) c.args.front.now) c.args.form (rows_of c.args.items.now)
    (flat_map (λ piece. piece.now) c.args.back.now) in
    let body = list ++ 10 ∷ [] in
    let head = rw c.in-Some.ensures at c.in_ok-begin_reply.ensures in
    let r = c.end_reply.result in
    sends-behind r _ _ _ _ _ _ _ _ _ (reply_head_text 200 false c.args.close (length body)) body head
    (sends-behind r _ _ _ (Unit {0}) _ _ _ _ _ list (10 ∷ []) c.in_ok-write_list.ensures c.end_reply.ensures)
