use Rattle.std.proofs.Common.{Bool, true, false, refl, ◌≡◌, ◌+◌, ◌<◌, length, take, drop, sym, ap, ◌∙◌, ◌∷◌, ◌-◌, arith, length-drop}
use Rattle.std.proofs.lemmas.List.Sums.{position_or_len_is}
use Rattle.std.proofs.lemmas.List.{take_rest}
use Rattle.std.specs.List.{position_or_len}
use Rattle.watch_record.specs.Lines.{is_feed, lines_in}
use Rattle.watch_record.proofs.LineLemmas.{lines-found, lines-none, later-none}
use Rattle.watch_record.proofs.parts.cut.Goals as goal

fails : (b : Bool) → (b ≡ true → ⊥) → b ≡ false
fails true wrong = absurd (wrong refl)
fails false wrong = refl

pub returns-in-Some : goal.returns-in-Some
returns-in-Some c =
    let bytes = c.args.bytes.now in
    let at = c.in-Some.at in
    let within : at < length bytes = c.in-Some.ensures.0.high in
    let found : position_or_len is_feed bytes ≡ at =
    position_or_len_is is_feed bytes at 0 (omega (arith, within)) (λ k below. fails _ (c.in-Some.ensures.0.before k (omega arith) below)) (λ h. c.in-Some.ensures.1) in
    let behind : lines_in (drop (position_or_len is_feed bytes + 1) bytes) ≡ lines_in (take (length bytes - (at + 1)) (drop (at + 1) bytes)) =
    ap lines_in (ap (λ n. drop (n + 1) bytes) found ∙ sym (take_rest bytes (at + 1))) in
    record {
      line = lines-found bytes (omega (arith, found, within)) ∙ ap (λ n. take n bytes ∷ lines_in (drop (position_or_len is_feed bytes + 1) bytes)) found ∙ ap (λ l. take at bytes ∷ l) behind;
      later = behind;
      shorter = omega (arith, within, ap length (take_rest bytes (at + 1)), length-drop (at + 1) bytes);
    }

pub returns-in-None : goal.returns-in-None
returns-in-None c =
    let bytes = c.args.bytes.now in
    let none : position_or_len is_feed bytes ≡ length bytes = position_or_len_is is_feed bytes (length bytes) 0 (omega arith)
    (λ k below. fails _ (c.in-None.ensures k (omega arith) below)) (λ h. absurd (omega (arith, h))) in
    record { line = lines-none bytes none; later = later-none bytes none; shorter = tt }
