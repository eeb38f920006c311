use Rattle.std.proofs.Common.{◌≡◌, ◌+◌, ◌<◌, length, take, get_or, rules, arith, true, ap, sym, ◌∙◌, ◌++◌, ◌∷◌}
use Rattle.std.proofs.lemmas.Bool.{eqb-true}
use Rattle.std.proofs.lemmas.List.{take_rest}
use Rattle.std.proofs.lemmas.List.Sums.{position_or_len_is}
use Rattle.std.specs.List.{position_or_len}
use Rattle.kube_meta.proofs.KeyLemmas.{any-none, rejoined}
use Rattle.watch_lines.specs.Numbers.{is_space}
use Rattle.watch_lines.proofs.TextLemmas.{before_space}
use Rattle.watch_lines.proofs.readers.around_space.Goals as goal

pub returns-in-Some : goal.returns-in-Some
returns-in-Some c =
    let text = c.args.text.now in
    let at = c.in-Some.at in
    let within : at < length text = search rules in
    let found : position_or_len is_space text ≡ at = position_or_len_is is_space text at 0 (search rules) (search rules) (search rules) in
    let here : is_space (get_or text at 0) ≡ true = search rules in (
      before_space text at found,
      sym (ap (λ l. take at text ++ 32 ∷ l) (take_rest text (at + 1)) ∙ rejoined text at 32 within (eqb-true (get_or text at 0) 32 here)),
    )

pub returns-in-None : goal.returns-in-None
returns-in-None c =
    let text = c.args.text.now in
    let none : position_or_len is_space text ≡ length text = position_or_len_is is_space text (length text) 0 (omega arith) (search rules) (search rules) in
    any-none is_space text none
