use Rattle.std.proofs.Common.{◌++◌}
use Rattle.std.specs.List.{flat_map}
use Rattle.client_api.specs.Items.{rows_of}
use Rattle.edge_io.proofs.SentLemmas.{broken-first, broken-behind, writes-broken, writes-behind}
use Rattle.sess_reply.specs.Items.{rows_text}
use Rattle.sess_reply.proofs.items.write_list.Goals as goal

pub returns-in_err-parts : goal.returns-in_err-parts
returns-in_err-parts g c =
    let rest = rows_text c.args.form (rows_of c.args.items.now) ++ flat_map (λ piece. piece.now) c.args.back.now in
    writes-broken c.from_residual.result _ _ c.from_residual.ensures.0 (broken-first _ _ _ _ _ rest c.in_err-parts.ensures)

pub returns-in_err-write_items : goal.returns-in_err-write_items
returns-in_err-write_items g c =
    let items = rows_text c.args.form (rows_of c.args.items.now) in
    let back = flat_map (λ piece. piece.now) c.args.back.now in
    let e = c.from_residual-in_err-write_items in
    writes-broken e.result _ _ e.ensures.0
    (broken-behind _ _ _ _ _ _ _ (items ++ back) c.in_ok-parts.ensures (broken-first _ _ _ _ items back c.in_err-write_items.ensures))

pub returns : goal.returns
returns g c =
    let items = rows_text c.args.form (rows_of c.args.items.now) in
    let back = flat_map (λ piece. piece.now) c.args.back.now in
    let r = c.parts-2.result in
    writes-behind r _ _ _ _ _ _ _ _ _ _ (items ++ back) c.in_ok-parts.ensures
    (writes-behind r _ _ _ (Unit {0}) _ _ _ _ _ items back c.in_ok-write_items.ensures c.parts-2.ensures)
