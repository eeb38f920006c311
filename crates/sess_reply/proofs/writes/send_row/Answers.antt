use Rattle.std.proofs.Common.{ap, ◌∙◌, refl, false}
use Rattle.http_send.specs.declared.replies.ContentType.TheVariants.{Json}
use Rattle.meta_view.specs.Lines.{shown}
use Rattle.meta_view.specs.declared.form.Form.TheVariants.{Whole}
use Rattle.sess_reply.specs.Contents.{shown_row, accepted_code}
use Rattle.sess_reply.proofs.SendLemmas.{content-sends}
use Rattle.sess_reply.proofs.writes.send_row.Goals as goal

pub returns : goal.returns
returns g c =
    content-sends c.send_pieces.result _ Json _ false c.args.close _
    (record { code = accepted_code c.args.ask.now; retry = false; kind = Json; text = shown_row Whole c.args.row.now }) refl c.accepted_code.ensures refl
    (c.shown_pieces-pieces.ensures c.row.inside.rev (c.as_bytes.ensures.value ∙ c.format.ensures.text)
    ∙ ap (λ o. shown Whole o c.row.inside.rev) c.deref.ensures ∙ ap (shown_row Whole) c.row.view_is)
    c.send_pieces.ensures
