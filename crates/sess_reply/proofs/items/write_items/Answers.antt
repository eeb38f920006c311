use Rattle.std.proofs.Common.{sym, ◌∙◌}
use Rattle.client_api.specs.Items.{rows_of, rows_left}
use Rattle.edge_io.proofs.SentLemmas.{broken-first, writes-broken, writes-behind, writes-as}
use Rattle.sess_reply.proofs.ItemLemmas.{rows_text-cons}
use Rattle.sess_reply.proofs.items.write_items.Goals as goal

pub returns-in_err-parts : goal.returns-in_err-parts
returns-in_err-parts g c =
    writes-as c.from_residual.result _ _ _
    (sym (rows_text-cons c.args.form (rows_of c.args.items.now) c.in-Some.first.now.value (rows_left c.next.new.self) (sym c.rows-rows.ensures ∙ c.in-Some.ensures.steps) _ c.item_pieces.ensures))
    (writes-broken c.from_residual.result _ _ c.from_residual.ensures.0 (broken-first _ _ _ _ _ _ c.in_err-parts.ensures))

pub returns : goal.returns
returns g c =
    writes-as c.write_later.result _ _ _
    (sym (rows_text-cons c.args.form (rows_of c.args.items.now) c.in-Some.first.now.value (rows_left c.next.new.self) (sym c.rows-rows.ensures ∙ c.in-Some.ensures.steps) _ c.item_pieces.ensures))
    (writes-behind c.write_later.result _ _ _ _ _ _ _ _ _ _ _ c.in_ok-parts.ensures c.write_later.ensures)
