-- Digits are text, and `parse` gives their number where it fits 64 bits.
use Rattle.std.proofs.Common.{◌≡◌}
use Rattle.std.proofs.lemmas.Fmt.{IsAscii-from_digits}
use Rattle.std.proofs.lemmas.Str.{IsUtf8-from_ascii}
use Rattle.std.proofs.lemmas.Str.Parse.{parse_digits}
use Rattle.kube_meta.proofs.RevisionLemmas.{own, bounded_parse}
use Rattle.kube_meta.proofs.revisions.bounded_value.Goals as goal

pub returns-in-Ok : goal.returns-in-Ok
returns-in-Ok c =
    let same : c.in-Ok.digits.now ≡ c.args.text.now = c.in-Ok.ensures.cases.0 in
    let parsed = parse_digits own 64 c.args.text.now c.parse.result (rw same at c.parse.ensures.value.0) c.requires.all_digits in
    let bounded = bounded_parse c.parse.result c.args.text.now _ c.requires.nonempty parsed in
    cc

pub returns-in-Err : goal.returns-in-Err
returns-in-Err c = absurd (c.in-Err.ensures.cases.0 (IsUtf8-from_ascii c.args.text.now (IsAscii-from_digits c.args.text.now (own.to c.args.text.now c.requires.all_digits))))
