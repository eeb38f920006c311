use Rattle.std.proofs.Common.{[], ◌∷◌, ◌++◌, append-nil, sym, ap, subst, ◌∙◌}
use Rattle.std.specs.List.{flat_map}
use Rattle.client_api.specs.Items.{rows_left}
use Rattle.edge_io.specs.Sent.{IsWrittenOut, sent_through}
use Rattle.edge_io.proofs.SentLemmas.{writes-broken, written-behind, written-nothing}
use Rattle.sess_reply.specs.Contents.{shown_row}
use Rattle.sess_reply.proofs.ItemLemmas.{items-written, items-broken}
use Rattle.sess_reply.proofs.items.write_later.Goals as goal

pub loop-shown-init : goal.loop-shown-init
loop-shown-init g c =
    ([], ap (λ it. flat_map (λ row. 44 ∷ shown_row c.args.form row) (rows_left it)) c.into_iter-shown-iterator.ensures.into_iter_gives, written-nothing _ _)

pub loop-shown-preserved : goal.loop-shown-preserved
loop-shown-preserved g c =
    let so_far = c.loop-shown.invariant in (
      _,
      items-written (λ row. 44 ∷ shown_row c.args.form row) c.in-Some.shown.now.value (rows_left c.loop-shown.shown-iterator) (rows_left c.next.new.self) c.in-Some.ensures.steps _ c.later_pieces.ensures so_far.0 _ so_far.1,
      written-behind _ _ _ _ _ _ so_far.0 _ so_far.2 c.in_ok-parts.ensures,
    )

pub returns-in_err-parts : goal.returns-in_err-parts
returns-in_err-parts g c =
    let so_far = c.loop-shown.invariant in
    writes-broken c.from_residual.result _ _ c.from_residual.ensures.0
    (items-broken (λ row. 44 ∷ shown_row c.args.form row) c.in-Some.shown.now.value (rows_left c.loop-shown.shown-iterator) (rows_left c.next.new.self) c.in-Some.ensures.steps _ c.later_pieces.ensures so_far.0 _ _ _ _ _ _ _ so_far.1 so_far.2 c.in_err-parts.ensures)

pub returns : goal.returns
returns g c =
    let so_far = c.loop-shown.invariant in
    let all = sym (append-nil so_far.0) ∙ ap (λ rows. so_far.0 ++ flat_map (λ row. 44 ∷ shown_row c.args.form row) rows) (sym c.in-None.ensures.steps.0) ∙ so_far.1 in
    subst (λ text. IsWrittenOut text (sent_through g.K.Sink.written g.K.Sink.settled g.K.Sink.faults c.args.sink.now c.loop-shown.sink)) all so_far.2
