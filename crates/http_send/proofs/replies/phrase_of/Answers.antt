use Rattle.std.proofs.Common.{ap, sym, ◌∙◌, unwrap_or, []}
use Rattle.http.specs.StatusCode.{reason_phrase}
use Rattle.http_send.proofs.ReplyLemmas.{phrase-code, unwrap_or-map}
use Rattle.http_send.proofs.replies.phrase_of.Goals as goal

pub returns-in-Ok : goal.returns-in-Ok
returns-in-Ok c =
    ap (λ r. r.now) c.unwrap_or.ensures
    ∙ unwrap_or-map (λ s. s.now) c.canonical_reason.result _
    ∙ ap (λ o. unwrap_or o []) (c.canonical_reason.ensures.value ∙ ap reason_phrase c.in-Ok.ensures.1)
    ∙ sym (phrase-code c.args.code c.in-Ok.ensures.0.0 c.in-Ok.ensures.0.1)
