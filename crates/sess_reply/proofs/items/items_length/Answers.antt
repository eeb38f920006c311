use Rattle.std.proofs.Common.{sym, ◌∙◌}
use Rattle.client_api.specs.Items.{rows_of, rows_left}
use Rattle.sess_reply.proofs.ItemLemmas.{sum_is, rows_text-length}
use Rattle.sess_reply.proofs.items.items_length.Goals as goal

pub returns : goal.returns
returns c =
    sum_is _ c.checked_add.result _ _ c.checked_add.ensures
    (rows_text-length c.args.form (rows_of c.args.items.now) c.in-Some.first.now.value (rows_left c.next.new.self)
    (sym c.rows-rows.ensures ∙ c.in-Some.ensures.steps) _ c.item_pieces.ensures _ _ c.in_ok-first.ensures c.in_ok-later_length.ensures)
