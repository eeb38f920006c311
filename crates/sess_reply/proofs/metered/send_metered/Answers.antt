use Rattle.std.proofs.Common.{refl, append-nil, ◌∙◌, false}
use Rattle.http_send.specs.declared.replies.ContentType.TheVariants.{MetricsText}
use Rattle.metrics.specs.Text.{metrics_text}
use Rattle.sess_reply.proofs.SendLemmas.{content-sends}
use Rattle.sess_reply.proofs.metered.send_metered.Goals as goal

pub returns : goal.returns
returns g c =
    content-sends c.send_typed_pieces.result _ MetricsText 200 false c.args.close _
    (record { code = 200; retry = false; kind = MetricsText; text = metrics_text c.args.told.now }) refl refl refl
    (append-nil c.as_slice.result.now ∙ c.as_slice.ensures.value ∙ c.in_ok-text.ensures)
    c.send_typed_pieces.ensures
