use Rattle.std.proofs.Common.{◌≡◌, ◌+◌, ◌<◌, length, take, drop, sym, ap, ◌∙◌, arith}
use Rattle.std.proofs.lemmas.List.{take_rest, drop_all}
use Rattle.std.specs.List.{position_or_len}
use Rattle.watch_record.specs.Lines.{is_feed}
use Rattle.watch_record.proofs.LineLemmas.{first-none}
use Rattle.watch_record.proofs.PartLemmas.{after-none, place-found, place-none}
use Rattle.watch_record.proofs.between_parts.line_of.Goals as goal

pub returns-in-Some : goal.returns-in-Some
returns-in-Some c =
    let bytes = c.args.bytes.now in
    let at = c.in-Some.at in
    let within : at < length bytes = c.in-Some.ensures.0.high in
    let found : position_or_len is_feed bytes ≡ at = place-found bytes at within (λ k below. c.in-Some.ensures.0.before k (omega arith) below) c.in-Some.ensures.1 in
    record {
      line = ap (λ n. take n bytes) (sym found);
      rest = sym (ap (λ n. drop (n + 1) bytes) found ∙ sym (take_rest bytes (at + 1)));
    }

pub returns-in-None : goal.returns-in-None
returns-in-None c =
    let bytes = c.args.bytes.now in
    let none : position_or_len is_feed bytes ≡ length bytes = place-none bytes (λ k below. c.in-None.ensures k (omega arith) below) in
    record {
      line = sym (first-none bytes none);
      rest = take_rest bytes (length bytes) ∙ drop_all (length bytes) bytes (omega arith) ∙ sym (after-none bytes none);
    }
