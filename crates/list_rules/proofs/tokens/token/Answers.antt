use Rattle.std.proofs.Common.{ap, ◌∙◌, rules, string_bytes}
use Rattle.base64.specs.Engines.{url_safe_no_pad}
use Rattle.base64.specs.GeneralPurpose.{encode_of}
use Rattle.list_rules.specs.Tokens.{token_text, token_lines}
use Rattle.list_rules.proofs.TokenLemmas.{read_back, token_reads}
use Rattle.list_rules.proofs.tokens.token.Goals as goal

pub returns-clause-text : goal.returns-clause-text
unfolding token_text
returns-clause-text c =
    c.from_string.ensures ∙ c.in_ok-token.ensures.text ∙ ap (encode_of url_safe_no_pad) (c.as_slice.ensures.value ∙ c.in_ok-lines.ensures.lines)

pub returns-clause-read_back : goal.returns-clause-read_back
returns-clause-read_back c pos low one =
    let ask = c.args.ask.now in
    read_back ask.selection ask.label_text ask.field_text c.args.rev c.args.last.now c.from_string.result pos low c.in_ok-lines.ensures.key one
    (token_reads c.from_string.result (string_bytes c.in_ok-token.token) c.as_slice.result.now (token_lines ask.selection ask.label_text ask.field_text c.args.rev c.args.last.now)
    c.from_string.ensures (c.in_ok-token.ensures.round_trip (search rules)) (c.as_slice.ensures.value ∙ c.in_ok-lines.ensures.lines))
