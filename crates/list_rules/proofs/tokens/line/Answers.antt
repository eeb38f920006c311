use Rattle.std.proofs.Common.{◌≡◌, ◌<◌, length, rules, arith}
use Rattle.std.proofs.lemmas.List.Sums.{position_or_len_is}
use Rattle.std.specs.List.{position_or_len}
use Rattle.list_rules.specs.Tokens.{is_line_feed}
use Rattle.list_rules.proofs.TextLemmas.{line_cut, line_none}
use Rattle.list_rules.proofs.tokens.line.Goals as goal

pub returns-in-Some : goal.returns-in-Some
returns-in-Some c =
    let text = c.args.text.now in
    let at = c.in-Some.at in
    let within : at < length text = search rules in
    let found : position_or_len is_line_feed text ≡ at = position_or_len_is is_line_feed text at 0 (search rules) (search rules) (search rules) in
    line_cut text at found within

pub returns-in-None : goal.returns-in-None
returns-in-None c =
    let text = c.args.text.now in
    let none : position_or_len is_line_feed text ≡ length text = position_or_len_is is_line_feed text (length text) 0 (omega arith) (search rules) (search rules) in
    line_none text none
