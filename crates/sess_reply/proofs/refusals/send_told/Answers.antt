use Rattle.std.proofs.Common.{refl, ap, sym, ◌∙◌, append-nil, Some}
use Rattle.http_send.specs.declared.replies.ContentType.TheVariants.{Json}
use Rattle.json_obj.specs.Replies.{status_text}
use Rattle.sess_reply.specs.Contents.{refused}
use Rattle.sess_reply.proofs.SendLemmas.{sends-nothing, content-sends, told-sends}
use Rattle.sess_reply.proofs.refusals.send_told.Goals as goal

pub returns-in_err-text : goal.returns-in_err-text
returns-in_err-text g c = sends-nothing c.from_residual-in_err-text.result _ _ _ _ c.from_residual-in_err-text.ensures.1

pub returns : goal.returns
returns g c =
    told-sends c.send_pieces.result _ c.args.close (Some c.in-Some.told) c.args.told (sym c.in-Some.is)
    (content-sends c.send_pieces.result _ Json c.in_ok-refusal.refusal.code c.in_ok-refusal.refusal.too_large c.args.close _ (refused c.in-Some.told) refl
    (ap (λ r. r.code) c.in_ok-refusal.ensures) (ap (λ r. r.too_large) c.in_ok-refusal.ensures)
    (append-nil c.as_slice.result.now ∙ c.as_slice.ensures.value ∙ c.in_ok-text.ensures ∙ ap status_text c.in_ok-refusal.ensures)
    c.send_pieces.ensures)
