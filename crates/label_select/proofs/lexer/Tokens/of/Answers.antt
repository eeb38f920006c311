use Rattle.std.proofs.Common.{◌-◌, ◌≡◌, length, subst, arith}
use Rattle.label_select.specs.Pieces.{AreTokens, tokens_of}
use Rattle.label_select.proofs.TokenLaws.{tokens_computed}
use Rattle.label_select.proofs.lexer.Tokens.of.Goals as goal

pub returns-clause-tokens : goal.returns-clause-tokens
returns-clause-tokens c =
    let text = c.args.text.now in
    let start : 0 ≡ length text - length text = omega arith in
    subst (λ n. AreTokens 0 text (tokens_of n text)) start (tokens_computed 0 text)
