use Rattle.std.proofs.Common.{ℕ, ◌≡◌, ◌+◌, ◌<◌, ◌==◌, length, take, drop, sym, ap, ◌∙◌, ◌∷◌, arith, rules, take_all, length-drop}
use Rattle.std.proofs.lemmas.List.Sums.{position_or_len_is}
use Rattle.std.proofs.lemmas.List.{take_rest, drop_all}
use Rattle.std.specs.List.{position_or_len}
use Rattle.form_urlencoded.specs.Form.{split}
use Rattle.http_read.proofs.PieceLemmas.{splits}
use Rattle.http_read.proofs.pieces.cut_short.Goals as goal

pub returns-in-Some : goal.returns-in-Some
returns-in-Some c =
    let text = c.args.text.now in
    let s = c.args.separator in
    let at = c.in-Some.at in
    let within : at < length text = search rules in
    let found : position_or_len (λ (b : ℕ). b == s) text ≡ at =
    position_or_len_is (λ (b : ℕ). b == s) text at 0 (search rules) (search rules) (search rules) in
    record {
      before = ap (λ n. take n text) (sym found);
      after = take_rest text _ ∙ ap (λ n. drop (n + 1) text) (sym found);
      shorter = omega (arith, within, ap length (take_rest text (at + 1)), length-drop (at + 1) text);
      pieces =
          (splits s text).0 (omega (arith, found, within)) ∙ ap (λ n. take n text ∷ split s (drop (n + 1) text)) found
          ∙ ap (λ l. take at text ∷ split s l) (sym (take_rest text (at + 1)));
      whole = tt;
      nothing = tt;
      alone = tt;
    }

pub returns-in-None : goal.returns-in-None
returns-in-None c =
    let text = c.args.text.now in
    let s = c.args.separator in
    let none : position_or_len (λ (b : ℕ). b == s) text ≡ length text =
    position_or_len_is (λ (b : ℕ). b == s) text (length text) 0 (omega arith) (search rules) (search rules) in
    record {
      before = tt;
      after = tt;
      shorter = tt;
      pieces = tt;
      whole = sym (ap (λ n. take n text) none ∙ take_all (length text) text (omega arith));
      nothing = ap (λ n. drop (n + 1) text) none ∙ drop_all (length text + 1) text (omega arith);
      alone = (splits s text).1 (omega (arith, none));
    }
