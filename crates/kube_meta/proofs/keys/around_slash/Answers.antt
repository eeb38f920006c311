use Rattle.std.proofs.Common.{◌≡◌, ◌+◌, ◌<◌, length, take, drop, get_or, rules, arith, true, ap, sym, ◌∙◌, ◌++◌, ◌∷◌}
use Rattle.std.proofs.lemmas.Bool.{eqb-true}
use Rattle.std.proofs.lemmas.List.{take_rest}
use Rattle.std.proofs.lemmas.List.Sums.{position_or_len_is}
use Rattle.std.specs.List.{position_or_len}
use Rattle.kube_meta.specs.Names.{is_slash}
use Rattle.kube_meta.proofs.KeyLemmas.{any-at, any-none, rejoined}
use Rattle.kube_meta.proofs.keys.around_slash.Goals as goal

pub returns-in-Some : goal.returns-in-Some
returns-in-Some c =
    let text = c.args.text.now in
    let at = c.in-Some.at in
    let within : at < length text = search rules in
    let found : position_or_len is_slash text ≡ at = position_or_len_is is_slash text at 0 (search rules) (search rules) (search rules) in
    let here : is_slash (get_or text at 0) ≡ true = search rules in (
      any-at is_slash text at found within,
      ap (λ n. take n text) (sym found),
      take_rest text _ ∙ ap (λ n. drop (n + 1) text) (sym found),
      ap (λ l. take at text ++ 47 ∷ l) (take_rest text (at + 1)) ∙ rejoined text at 47 within (eqb-true (get_or text at 0) 47 here),
    )

pub returns-in-None : goal.returns-in-None
returns-in-None c =
    let text = c.args.text.now in
    let none : position_or_len is_slash text ≡ length text = position_or_len_is is_slash text (length text) 0 (omega arith) (search rules) (search rules) in
    any-none is_slash text none
