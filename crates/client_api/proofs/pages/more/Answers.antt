use Rattle.std.proofs.Common.{◌∙◌, ap, sym, arith}
use Rattle.list_rules.specs.Tokens.{token_text}
use Rattle.client_api.proofs.PageLemmas.{more_made}
use Rattle.client_api.proofs.pages.more.Goals as goal

pub returns-in_ok-token-in-Some : goal.returns-in_ok-token-in-Some
returns-in_ok-token-in-Some c all cut =
    let ask = c.args.ask.now in
    more_made (λ shown. shown.value) ask c.args.rev all c.args.rows.now c.in-Some.last.now c.in_ok-token-in-Some.field-0 c.args.left c.remaining.result cut
    (omega (arith, c.if-left-gt0.true)) (sym c.in-Some.ensures.value)
    (c.in_ok-token-in-Some.ensures.text ∙ ap (token_text ask.selection ask.label_text ask.field_text c.args.rev) c.key.ensures) c.remaining.ensures
